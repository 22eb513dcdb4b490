-- `laws::join_nets_law`: what it ensures.
use Rattle.cs_apply_conflict_kinds.proofs.JoinNetLemmas.{join_nets}
use Rattle.cs_apply_conflict_kinds.proofs.laws.join_nets_law.Goals as goal

pub returns : goal.returns
returns c = join_nets
