-- `writer::write_group`: what it ensures.
use Rattle.std.proofs.Common.{append_assoc}
use Rattle.std.proofs.lemmas.List.{take_all}
use Rattle.cs_wire_entries.specs.Changeset.{group_bytes}
use Rattle.cs_wire.proofs.writer.write_group.Goals as goal

pub returns : goal.returns
unfolding group_bytes
returns c =
    let all = take_all c.loop-entry.entry-index c.entries-entry-items.result.now c.loop-entry-test.false in
    rw (all, c.entries-entry-items.ensures.same, append_assoc) at c.loop-entry.invariant
