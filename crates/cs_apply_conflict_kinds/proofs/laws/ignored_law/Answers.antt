-- `laws::ignored_law`: what it ensures.
use Rattle.cs_apply_conflict_kinds.proofs.IdleLemmas.{ignored_stand}
use Rattle.cs_apply_conflict_kinds.proofs.laws.ignored_law.Goals as goal

pub returns : goal.returns
returns c = ignored_stand
