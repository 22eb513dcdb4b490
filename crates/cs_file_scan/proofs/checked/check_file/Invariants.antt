-- The tables up to a place were visited.
use Rattle.std.proofs.Common.{◌≡◌, ◌-◌, [], length}
use Rattle.cs_file_scan.specs.Checked.{VisitsGroups}
use Rattle.cs_file_scan.specs.Visits.{group_text}
use Rattle.cs_file_scan.proofs.checked.check_file.Given as goal

abbrev pub invariant-tables : goal.invariant-tables
invariant-tables g l = VisitsGroups (group_text g.V.Visit.header_text g.V.Visit.entry_text) (g.V.Visit.written l.initial.visitor) (g.V.Visit.written l.visitor) l.file l.names.items l.place × (l.keys.items ≡ [])

abbrev pub decreases-tables : goal.decreases-tables
decreases-tables g l = length l.file - l.place
