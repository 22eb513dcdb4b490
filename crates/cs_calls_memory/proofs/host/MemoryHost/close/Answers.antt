-- `host::MemoryHost::close`: the store of a service is closed.
use Rattle.std.proofs.lemmas.Result.{IfOk-weaker}
use Rattle.cs_calls_memory.proofs.host.MemoryHost.close.Goals as goal

pub returns-in-Open-clause-closed : goal.returns-in-Open-clause-closed
returns-in-Open-clause-closed c =
    IfOk-weaker c.of.result _ _ (λ closed closes. rw c.in-Open.is (record { outside = closes.outside; holds = closes.holds; session = closes.session })) c.of.ensures.closed
