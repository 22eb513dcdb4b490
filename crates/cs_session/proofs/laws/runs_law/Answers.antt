-- `laws::runs_law`: what it ensures.
use Rattle.cs_session.proofs.RunsLemmas.{rows_from_before}
use Rattle.cs_session.proofs.laws.runs_law.Goals as goal

pub returns : goal.returns
returns c = rows_from_before
