-- `laws::numbering_does_law`: what it ensures.
use Rattle.cs_apply_conflict_kinds.proofs.NumberingApplyLemmas.{does_alike}
use Rattle.cs_apply_conflict_kinds.proofs.laws.numbering_does_law.Goals as goal

pub returns : goal.returns
returns c = does_alike
