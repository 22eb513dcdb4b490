-- `service::done`: the answer has a count for each of its lists, since it has none.
use Rattle.cs_calls_executor.proofs.CallLemmas.{done_unsent}
use Rattle.cs_calls_service.proofs.service.done.Goals as goal

pub returns-clause-err : goal.returns-clause-err
returns-clause-err c = done_unsent c.bytes_of.result c.bytes_of.ensures.err
