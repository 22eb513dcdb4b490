-- The end of a chain of the key's bucket, from which on no entry has the key.
use Rattle.std.proofs.Common.{◌≡◌, ◌+◌, ◌≤◌, ℕ, List, length}
use Rattle.cs_file_scan.specs.Chains.{bucket_at, bucket_of}
use Rattle.cs_changegroup.specs.Slots.{AreSlots, KeptEntry, kept_key}
use Rattle.cs_changegroup.proofs.ChainLemmas.{NoneFrom}
use Rattle.cs_changegroup.proofs.table.Table.find.Given as goal

abbrev pub invariant-indices : goal.invariant-indices
invariant-indices l =
    (l.end ≤ length l.self.keys.numbers) × ((index : ℕ) → l.end ≡ index + 1 → bucket_at l.self.keys index ≡ bucket_of l.self.keys l.number)
    × ((kept : List KeptEntry) → AreSlots l.files l.self kept → NoneFrom (kept_key l.self.header.flags) kept l.key l.end)

abbrev pub decreases-indices : goal.decreases-indices
decreases-indices l = l.end
