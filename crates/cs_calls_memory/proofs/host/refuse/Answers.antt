-- `host::refuse`: a host without a store refuses each call.
use Rattle.std.proofs.lemmas.Result.{IfOk-weaker}
use Rattle.cs_calls_memory.proofs.host.refuse.Goals as goal

pub returns : goal.returns
returns c = IfOk-weaker c.answer.result _ _ (λ sent gives. gives.0) c.answer.ensures.answered
