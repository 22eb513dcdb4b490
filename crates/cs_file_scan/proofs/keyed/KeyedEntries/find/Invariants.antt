-- The end of a chain of the key's bucket, from which on no entry has the key.
use Rattle.std.proofs.Common.{◌≡◌, ◌+◌, ◌≤◌, ℕ, List}
use Rattle.cs_wire_entries.specs.declared.entry.Entry.{Entry}
use Rattle.cs_wire.specs.Changeset.{GroupData}
use Rattle.cs_file_scan.specs.Chains.{bucket_at, bucket_of}
use Rattle.cs_file_scan.specs.KeyedFile.{AreKeyed, count_of}
use Rattle.cs_file_scan.proofs.KeyedLemmas.{NoneFrom}
use Rattle.cs_file_scan.proofs.keyed.KeyedEntries.find.Given as goal

abbrev pub invariant-indices : goal.invariant-indices
invariant-indices l =
    (l.end ≤ count_of l.self) × ((index : ℕ) → l.end ≡ index + 1 → bucket_at l.self.chains index ≡ bucket_of l.self.chains l.number)
    × ((entries : List Entry) (groups : List GroupData) → AreKeyed l.self entries groups → NoneFrom l.self entries l.key l.end)

abbrev pub decreases-indices : goal.decreases-indices
decreases-indices l = l.end
