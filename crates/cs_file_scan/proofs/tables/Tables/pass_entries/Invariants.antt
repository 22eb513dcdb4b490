use Rattle.std.proofs.Common.{◌≡◌, ◌≤◌, ◌-◌, List, length}
use Rattle.cs_wire_entries.specs.declared.entry.Entry.{Entry}
use Rattle.cs_wire.specs.Changeset.{GroupData}
use Rattle.cs_file_scan.specs.Tables.{EntriesLeft}
use Rattle.cs_file_scan.proofs.tables.Tables.pass_entries.Given as goal

abbrev pub invariant-entries : goal.invariant-entries
invariant-entries l = record {
  left : (entries : List Entry) (groups : List GroupData) → EntriesLeft l.fn.self entries groups → (left : List Entry) × EntriesLeft l.self left groups;
  ahead : l.fn.self.place ≤ l.self.place;
  file : l.self.file ≡ l.fn.self.file;
}

abbrev pub decreases-entries : goal.decreases-entries
decreases-entries l = length l.self.file - l.self.place
