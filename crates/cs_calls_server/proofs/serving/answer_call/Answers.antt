-- `serving::answer_call`: what it ensures.
use Rattle.std.proofs.Common.{◌≤◌, ◌<◌, length, subst, rules}
use Rattle.cs_calls_server.specs.Frames.{FRAME_LIMIT}
use Rattle.cs_calls_server.specs.Serving.{no_memory, answered, FrameGives}
use Rattle.cs_calls_server.proofs.ServingLemmas.{sent_no_memory, sent_fits, sent_long}
use Rattle.cs_calls_server.proofs.serving.answer_call.Goals as goal

pub returns-in-Ok : goal.returns-in-Ok
returns-in-Ok g c = λ short.
    let long : FRAME_LIMIT < length c.in-Ok.answer.items = search rules in
    record {
      given = subst (λ a. FrameGives g.A.Answering.gives c.args.answering.now c.args.call.now a c.answer.new.self) (sent_long c.in-Ok.answer.items long)
          (answered c.in-Ok.answer.items c.answer.new.self short c.in-Ok.ensures.answered);
      fits = tt;
    }

pub returns-in-Ok-2 : goal.returns-in-Ok-2
returns-in-Ok-2 g c = λ short.
    let fits : length c.in-Ok.answer.items ≤ FRAME_LIMIT = search rules in
    record {
      given = subst (λ a. FrameGives g.A.Answering.gives c.args.answering.now c.args.call.now a c.answer.new.self) (sent_fits c.in-Ok.answer.items fits)
          (answered c.in-Ok.answer.items c.answer.new.self short c.in-Ok.ensures.answered);
      fits = fits;
    }

pub returns-in-Err : goal.returns-in-Err
returns-in-Err g c = λ short. record {
  given = subst (λ a. FrameGives g.A.Answering.gives c.args.answering.now c.args.call.now a c.answer.new.self) sent_no_memory (answered no_memory c.answer.new.self short c.in-Err.ensures.refused);
  fits = tt;
}
