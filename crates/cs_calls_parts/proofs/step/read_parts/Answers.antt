-- `step::read_parts`: the loop, and what it ensures.
use Rattle.std.proofs.lemmas.Result.{err_from_is_err_and}
use Rattle.cs_calls_parts.specs.Reading.{parts_at}
use Rattle.cs_calls_parts.proofs.PartLemmas.{goes_on, ends, is_done}
use Rattle.cs_calls_parts.proofs.step.read_parts.Goals as goal

pub returns-in_err-part : goal.returns-in_err-part
returns-in_err-part g c =
    let p = err_from_is_err_and c.from_residual.result c.from_residual.ensures.1 in
    rw (p.1, p.2) (ends g.T.Part.part_of c.in_err-part.field-0.0 c.loop.parts.items c.args.count c.loop.counter c.loop.rest.now (parts_at g.T.Part.part_of c.args.count c.args.bytes.now) c.loop-test.true c.in_err-part.ensures c.loop.invariant)

pub loop-preserved : goal.loop-preserved
loop-preserved g c =
    rw c.in_ok-push.ensures.items (goes_on g.T.Part.part_of c.loop.parts.items c.args.count c.loop.counter c.loop.rest.now c.in_ok-part.part c.in_ok-part.after.now (parts_at g.T.Part.part_of c.args.count c.args.bytes.now) c.loop-test.true c.in_ok-part.ensures c.loop.invariant)

pub returns : goal.returns
returns g c = is_done g.T.Part.part_of c.loop.parts.items c.args.count c.loop.counter c.loop.rest.now (parts_at g.T.Part.part_of c.args.count c.args.bytes.now) c.loop-test.false c.loop.invariant
