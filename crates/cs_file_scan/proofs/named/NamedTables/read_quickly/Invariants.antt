-- The tables up to a place are listed.
use Rattle.std.proofs.Common.{◌≡◌, ◌-◌, [], length}
use Rattle.cs_file_scan.proofs.NamedLemmas.{CheckedFront}
use Rattle.cs_file_scan.proofs.named.NamedTables.read_quickly.Given as goal

abbrev pub invariant-tables : goal.invariant-tables
invariant-tables l = (l.named.file ≡ l.file) × CheckedFront l.file l.named.tables l.place × (l.keys.items ≡ [])

abbrev pub decreases-tables : goal.decreases-tables
decreases-tables l = length l.file - l.place
