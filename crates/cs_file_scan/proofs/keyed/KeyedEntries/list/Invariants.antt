-- Of the entries that are left some are listed.
use Rattle.std.proofs.Common.{◌≡◌, ◌-◌, List, length}
use Rattle.cs_wire_entries.specs.declared.entry.Entry.{Entry}
use Rattle.cs_wire.specs.Changeset.{GroupData}
use Rattle.cs_file_scan.specs.Tables.{EntriesLeft}
use Rattle.cs_file_scan.proofs.KeyedLemmas.{ListsEntries}
use Rattle.cs_file_scan.proofs.keyed.KeyedEntries.list.Given as goal

abbrev pub invariant-entries : goal.invariant-entries
invariant-entries l =
    (l.keyed.flags ≡ l.fn.tables.flags) × (l.left.flags ≡ l.fn.tables.flags) × (l.keyed.file ≡ l.left.file)
    × ((entries : List Entry) (groups : List GroupData) → EntriesLeft l.fn.tables entries groups → ListsEntries l.keyed l.left entries groups)

abbrev pub decreases-entries : goal.decreases-entries
decreases-entries l = length l.left.file - l.left.place
