-- `turning::revert_file`: what it ensures.
use Rattle.cs_history.proofs.FaultLemmas.{apply_named, resource_named}
use Rattle.cs_history.proofs.WorkLemmas.{works_err}
use Rattle.cs_history.proofs.turning.revert_file.Goals as goal

pub returns-in_err-revert_in_transaction-clause-works : goal.returns-in_err-revert_in_transaction-clause-works
returns-in_err-revert_in_transaction-clause-works g c = works_err c.from_residual.result _ c.from_residual.ensures.1 c.revert_in_transaction.ensures.within.kept

pub returns-in_err-revert_in_transaction-clause-named : goal.returns-in_err-revert_in_transaction-clause-named
returns-in_err-revert_in_transaction-clause-named g c = apply_named c.from_residual.result c.in_err-revert_in_transaction.field-0.0 c.from_residual.ensures.1

pub returns-clause-works : goal.returns-clause-works
returns-clause-works g c =
    let within = c.in_ok-revert_in_transaction.ensures.within in
    record { kept = within.kept; made = λ clean inside. ((within.made clean).0.inside, ((within.made clean).1, λ reached leads. (c.in_ok-revert_in_transaction.ensures.reverts clean reached leads).1)) }

pub returns-in_err-revert_in_transaction-clause-clean : goal.returns-in_err-revert_in_transaction-clause-clean
returns-in_err-revert_in_transaction-clause-clean g c clean reached leads =
    resource_named c.from_residual.result c.in_err-revert_in_transaction.field-0.0 c.from_residual.ensures.1 (c.in_err-revert_in_transaction.ensures.reverts clean reached leads)
