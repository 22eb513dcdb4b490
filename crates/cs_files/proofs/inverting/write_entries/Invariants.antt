-- Of the entries that are left some are undone.
use Rattle.std.proofs.Common.{◌≡◌, ◌≤◌, ◌-◌, List, length}
use Rattle.cs_wire_entries.specs.declared.entry.Entry.{Entry}
use Rattle.cs_wire.specs.Entry.{entry_bytes}
use Rattle.cs_wire.specs.Changeset.{GroupData}
use Rattle.cs_file_scan.specs.Tables.{EntriesLeft}
use Rattle.cs_wire.specs.Views.{inverse_entry}
use Rattle.cs_files.proofs.PassLemmas.{WritesEntries}
use Rattle.cs_files.proofs.inverting.write_entries.Given as goal

abbrev pub invariant-entries : goal.invariant-entries
invariant-entries l =
    (l.fn.tables.place ≤ l.tables.place) × (l.tables.file ≡ l.fn.tables.file)
    × ((entries : List Entry) (groups : List GroupData) → EntriesLeft l.fn.tables entries groups → WritesEntries (λ e. entry_bytes (inverse_entry l.fn.tables.flags e)) l.fn.tables.flags l.fn.out.items l.out.items l.tables entries groups)

abbrev pub decreases-entries : goal.decreases-entries
decreases-entries l = length l.tables.file - l.tables.place
