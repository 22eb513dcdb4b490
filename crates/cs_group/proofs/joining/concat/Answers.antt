-- `joining::concat`: the clauses `length` and `undone`.
use Rattle.cs_group.proofs.InverseJoinLemmas.{inverse_joins}
use Rattle.cs_group.proofs.JoinLengths.{join_length}
use Rattle.cs_group.proofs.joining.concat.Goals as goal

pub returns-clause-length : goal.returns-clause-length
returns-clause-length c = join_length c.args.first.now c.args.second.now c.in_ok-join_all.field-0 c.in_ok-join_all.ensures.well_formed.0 c.in_ok-join_all.ensures.joined

pub returns-clause-undone : goal.returns-clause-undone
returns-clause-undone c = λ inverse.
    inverse_joins c.args.first.now c.args.second.now c.in_ok-join_all.field-0 c.in_ok-join_all.ensures.well_formed.0 c.in_ok-join_all.ensures.well_formed.1 inverse c.in_ok-join_all.ensures.joined
