-- `cursor::Cursor::next`: the invariant.
use Rattle.cs_wire.proofs.CursorLemmas.{next_ends}
use Rattle.cs_wire.proofs.cursor.Cursor.next.Goals as goal

pub invariant_of-self : goal.invariant_of-self
invariant_of-self c =
    let next = c.advance-next.ensures in
    rw c.ending_of-self-inside.ensures (next_ends c.self.inside.walk c.advance-next.new.self c.advance-next.result next.stays next.file next.end next.fault)
