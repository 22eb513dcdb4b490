-- `host::MemoryHost::answer`: what the service answers, or why the store is not opened.
use Rattle.std.proofs.Common.{◌∙◌}
use Rattle.cs_calls_memory.proofs.HostLemmas.{carries_err, carries_ok, stays_err, stays_ok}
use Rattle.cs_calls_memory.proofs.host.MemoryHost.answer.Goals as goal

pub returns-in-Ok-clause-answered : goal.returns-in-Ok-clause-answered
returns-in-Ok-clause-answered c =
    carries_ok c.args.self.now c.settle.result c.args.call.now c.in-Ok.service _ (rw c.take.ensures at c.in-Ok.ensures.woken) c.settle.ensures _ c.answer_call-service.ensures.answered

pub returns-in-Ok-clause-refused : goal.returns-in-Ok-clause-refused
returns-in-Ok-clause-refused c =
    carries_err c.args.self.now c.settle.result c.args.call.now c.in-Ok.service _ (rw c.take.ensures at c.in-Ok.ensures.woken) c.settle.ensures _ c.answer_call-service.ensures.refused

pub returns-in-Err-clause-answered : goal.returns-in-Err-clause-answered
returns-in-Err-clause-answered c =
    stays_ok c.args.self.now c.in-Err.closed c.args.call.now c.in-Err.error (c.in-Err.ensures.same ∙ c.take.ensures) (rw c.take.ensures at c.in-Err.ensures.refused) _ c.refuse.ensures

pub returns-in-Err-clause-refused : goal.returns-in-Err-clause-refused
returns-in-Err-clause-refused c =
    stays_err c.args.self.now c.in-Err.closed c.args.call.now c.in-Err.error (c.in-Err.ensures.same ∙ c.take.ensures) (rw c.take.ensures at c.in-Err.ensures.refused) _
