use Rattle.std.proofs.Common.{◌≡◌, ◌-◌, List, length}
use Rattle.cs_wire.specs.Changeset.{GroupData}
use Rattle.cs_wire.specs.Cursor.{Begins}
use Rattle.cs_file_scan.proofs.tables.read_items.Given as goal

abbrev pub invariant-items : goal.invariant-items
invariant-items l = (l.cursor.file ≡ l.file) × (groups : List GroupData) × Begins l.cursor.file l.cursor.place groups

abbrev pub decreases-items : goal.decreases-items
decreases-items l = length l.cursor.file - l.cursor.place
