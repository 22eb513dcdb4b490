-- `sessions::open`: the clause `here`.
use Rattle.cs_shell_executor.proofs.SessionLemmas.{nothing_here}
use Rattle.cs_shell_executor.proofs.sessions.open.Goals as goal

pub returns-clause-here : goal.returns-clause-here
returns-clause-here c = λ tables here. rw c.new.ensures (nothing_here tables)
