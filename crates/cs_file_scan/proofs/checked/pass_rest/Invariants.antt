-- The entries up to a place were visited, and the numbers of their keys appended.
use Rattle.std.proofs.Common.{◌≡◌, ◌-◌, ◌++◌, ℕ, List, length}
use Rattle.cs_file_scan.specs.Checked.{VisitsEntries}
use Rattle.cs_file_scan.proofs.checked.pass_rest.Given as goal

abbrev pub invariant-entries : goal.invariant-entries
invariant-entries g l = (numbers : List ℕ) × (l.keys.items ≡ l.initial.keys.items ++ numbers)
    × VisitsEntries (g.V.Visit.entry_text l.flags) (g.V.Visit.written l.initial.visitor) (g.V.Visit.written l.visitor) l.file l.at l.flags numbers l.place

abbrev pub decreases-entries : goal.decreases-entries
decreases-entries g l = length l.file - l.place
