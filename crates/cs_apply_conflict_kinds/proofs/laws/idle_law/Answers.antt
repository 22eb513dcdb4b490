-- `laws::idle_law`: what it ensures.
use Rattle.cs_apply_conflict_kinds.proofs.IdleLemmas.{idle_cases}
use Rattle.cs_apply_conflict_kinds.proofs.laws.idle_law.Goals as goal

pub returns : goal.returns
returns c = idle_cases
