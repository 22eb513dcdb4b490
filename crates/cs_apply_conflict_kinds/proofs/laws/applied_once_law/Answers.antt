-- `laws::applied_once_law`: what it ensures.
use Rattle.cs_apply_conflict_kinds.proofs.ApplyLemmas.{applied_once}
use Rattle.cs_apply_conflict_kinds.proofs.laws.applied_once_law.Goals as goal

pub returns : goal.returns
returns c = applied_once
