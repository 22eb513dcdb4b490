-- `words::end_visit`: the clause `ends`, where the store was not closed.
use Rattle.std.proofs.Common.{refl}
use Rattle.cs_shell.proofs.words.end_visit.Goals as goal

pub returns-in-Err-clause-ends : goal.returns-in-Err-clause-ends
returns-in-Err-clause-ends g c = rw c.in-Err.is (refl, rw (← c.from.ensures) c.report.ensures)
