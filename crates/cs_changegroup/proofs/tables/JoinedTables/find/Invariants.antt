-- The end of a chain of the name's bucket, from which on no table has the name.
use Rattle.std.proofs.Common.{◌≡◌, ◌+◌, ◌≤◌, ℕ, List, length}
use Rattle.cs_file_scan.specs.Chains.{bucket_at, bucket_of}
use Rattle.cs_changegroup.specs.Slots.{AreTables, KeptTable, kept_name}
use Rattle.cs_changegroup.proofs.ChainLemmas.{NoneFrom}
use Rattle.cs_changegroup.proofs.tables.JoinedTables.find.Given as goal

abbrev pub invariant-indices : goal.invariant-indices
invariant-indices l =
    (l.end ≤ length l.self.names.numbers) × ((index : ℕ) → l.end ≡ index + 1 → bucket_at l.self.names index ≡ bucket_of l.self.names l.number)
    × ((files : List ℕ) (kept : List KeptTable) → AreTables files l.self kept → NoneFrom kept_name kept l.name l.end)

abbrev pub decreases-indices : goal.decreases-indices
decreases-indices l = l.end
