use Rattle.std.proofs.Common.{◌≡◌, ◌-◌, length}
use Rattle.cs_wire.specs.Cursor.{Begins}
use Rattle.cs_wire.proofs.draft.read_drafts.Given as goal

abbrev pub invariant-items : goal.invariant-items
invariant-items l = (l.cursor.file ≡ l.file) × Begins l.cursor.file l.cursor.place l.drafts.items

abbrev pub decreases-items : goal.decreases-items
decreases-items l = length l.cursor.file - l.cursor.place
