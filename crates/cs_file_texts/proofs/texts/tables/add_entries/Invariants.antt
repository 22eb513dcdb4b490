use Rattle.std.proofs.Common.{◌≡◌, ◌≤◌, ◌-◌, List, length}
use Rattle.cs_wire_entries.specs.declared.entry.Entry.{Entry}
use Rattle.cs_wire.specs.Changeset.{GroupData}
use Rattle.cs_file_scan.specs.Tables.{EntriesLeft}
use Rattle.cs_file_texts.specs.Forms.{entry_part}
use Rattle.cs_file_texts.proofs.TablesLemmas.{GathersEntries}
use Rattle.cs_file_texts.proofs.texts.tables.add_entries.Given as goal

abbrev pub invariant-entries : goal.invariant-entries
invariant-entries g l = record {
  gathered : (entries : List Entry) (groups : List GroupData) → EntriesLeft l.fn.tables entries groups
      → GathersEntries g.W.Write.contents (entry_part l.form l.name) l.initial.gather l.gather l.initial.out l.out l.tables entries groups;
  ahead : l.fn.tables.place ≤ l.tables.place;
  file : l.tables.file ≡ l.fn.tables.file;
}

abbrev pub decreases-entries : goal.decreases-entries
decreases-entries g l = length l.tables.file - l.tables.place
