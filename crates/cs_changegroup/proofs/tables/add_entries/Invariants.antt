-- Of the entries that are left some are added.
use Rattle.std.proofs.Common.{◌≡◌, ◌-◌, List, length}
use Rattle.cs_wire_entries.specs.declared.entry.Entry.{Entry}
use Rattle.cs_wire.specs.Changeset.{GroupData}
use Rattle.cs_file_scan.specs.Tables.{EntriesLeft}
use Rattle.cs_group.specs.Marks.{AreApart}
use Rattle.cs_changegroup.proofs.EntryLemmas.{AddsSome}
use Rattle.cs_changegroup.proofs.tables.add_entries.Given as goal

abbrev pub invariant-entries : goal.invariant-entries
invariant-entries l =
    (l.left.flags ≡ l.fn.tables.flags) × (l.left.file ≡ l.fn.tables.file) × (l.start ≡ l.left.place) × (l.table.header ≡ l.fn.table.header)
    × ((entries : List Entry) (groups : List GroupData) → EntriesLeft l.fn.tables entries groups → AreApart (record { flags = l.fn.table.header.flags; entries = entries }) → AddsSome l.files l.fn.table l.table l.left entries groups)

abbrev pub decreases-entries : goal.decreases-entries
decreases-entries l = length l.left.file - l.left.place
