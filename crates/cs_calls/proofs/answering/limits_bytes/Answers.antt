-- `answering::limits_bytes`: the answer is short.
use Rattle.cs_calls.proofs.SentLemmas.{limits_unsent}
use Rattle.cs_calls.proofs.answering.limits_bytes.Goals as goal

pub returns-clause-err : goal.returns-clause-err
returns-clause-err c = limits_unsent c.bytes_of.result c.bytes_of.ensures.err
