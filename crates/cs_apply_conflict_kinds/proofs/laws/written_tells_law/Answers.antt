-- `laws::written_tells_law`: what it ensures.
use Rattle.cs_apply_conflict_kinds.proofs.ApplyLemmas.{written_tells}
use Rattle.cs_apply_conflict_kinds.proofs.laws.written_tells_law.Goals as goal

pub returns : goal.returns
returns c = written_tells
