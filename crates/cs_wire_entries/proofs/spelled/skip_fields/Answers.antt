-- `spelled::skip_fields`: the invariant of the loop.
use Rattle.cs_wire_entries.proofs.RunLemmas.{Skips-next}
use Rattle.cs_wire_entries.proofs.spelled.skip_fields.Goals as goal

pub loop-preserved : goal.loop-preserved
loop-preserved c = Skips-next c.args.bytes.now c.args.count c.loop.counter c.loop.rest.now _ c.loop.invariant c.loop-test.true c.front_field.ensures.rest
