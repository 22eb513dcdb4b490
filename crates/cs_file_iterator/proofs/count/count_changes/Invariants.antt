use Rattle.std.proofs.Common.{◌≡◌, ◌+◌, ◌-◌, ◌≤◌, List, length}
use Rattle.cs_wire_entries.specs.Changeset.{GroupData, IsFileOf}
use Rattle.cs_file_iterator.specs.Changes.{ChangesLeft, TableChange, changes_of}
use Rattle.cs_file_iterator.specs.Readable.{WereRead}
use Rattle.cs_file_iterator.proofs.count.count_changes.Given as goal

abbrev pub invariant-changes : goal.invariant-changes
invariant-changes l = record {
  fewer : l.count ≤ l.place;
  within : l.place ≤ length l.file;
  so_far : (all : List GroupData) → IsFileOf l.file all → (left : List TableChange) × ChangesLeft l.file all left l.place l.last × (l.count + length left ≡ length (changes_of all));
  read : (groups : List GroupData) × WereRead l.file groups l.place l.last × (l.count ≡ length (changes_of groups));
}

abbrev pub decreases-changes : goal.decreases-changes
decreases-changes l = length l.file - l.place
