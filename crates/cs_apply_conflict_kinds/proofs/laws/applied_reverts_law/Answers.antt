-- `laws::applied_reverts_law`: what it ensures.
use Rattle.cs_apply_conflict_kinds.proofs.ApplyLemmas.{applied_reverts}
use Rattle.cs_apply_conflict_kinds.proofs.laws.applied_reverts_law.Goals as goal

pub returns : goal.returns
returns c = applied_reverts
