-- Of the tables that are left some are listed.
use Rattle.std.proofs.Common.{◌≡◌, ◌-◌, List, length}
use Rattle.cs_wire_entries.specs.declared.entry.Entry.{Entry}
use Rattle.cs_wire.specs.Changeset.{GroupData}
use Rattle.cs_file_scan.specs.Tables.{EntriesLeft}
use Rattle.cs_file_scan.proofs.NamedLemmas.{ListedFront}
use Rattle.cs_file_scan.proofs.named.NamedTables.list.Given as goal

abbrev pub invariant-tables : goal.invariant-tables
invariant-tables l =
    (l.named.file ≡ l.fn.tables.file) × (l.left.file ≡ l.fn.tables.file)
    × ((entries : List Entry) (groups : List GroupData) → EntriesLeft l.fn.tables entries groups → ListedFront l.fn.tables.file l.named.tables l.left groups)

abbrev pub decreases-tables : goal.decreases-tables
decreases-tables l = length l.left.file - l.left.place
