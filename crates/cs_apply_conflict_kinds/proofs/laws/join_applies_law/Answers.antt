-- `laws::join_applies_law`: what it ensures.
use Rattle.cs_apply_conflict_kinds.proofs.JoinApplyLemmas.{join_applies}
use Rattle.cs_apply_conflict_kinds.proofs.laws.join_applies_law.Goals as goal

pub returns : goal.returns
returns c = join_applies
