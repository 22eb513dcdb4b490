-- `applying::apply_unnoted`: what it ensures.
use Rattle.std.proofs.Common.{refl, rules}
use Rattle.std.proofs.lemmas.Result.{err_from_is_err_and}
use Rattle.cs_shell_executor.proofs.ApplyTurnLemmas.{works_applied, works_unapplied}
use Rattle.cs_shell_executor.proofs.applying.apply_unnoted.Goals as goal

pub returns-in_err-summary-clause-works : goal.returns-in_err-summary-clause-works
returns-in_err-summary-clause-works g c =
    let p = err_from_is_err_and c.from_residual.result c.from_residual.ensures.1 in
    rw (p.1, p.2)
    (works_unapplied _ _ (λ k chosen given. search rules) _ _ _ _ _ _ c.in_err-summary.ensures.transacts.atomic.survives c.in_err-summary.ensures.transacts.kept c.in_err-summary.ensures.shut c.in_err-summary.ensures.refused)

pub returns-in_err-summary-clause-named : goal.returns-in_err-summary-clause-named
returns-in_err-summary-clause-named g c =
    let p = err_from_is_err_and c.from_residual.result c.from_residual.ensures.1 in
    rw (p.1, p.2) (_, c.in_err-summary.ensures.named, refl)

pub returns-clause-works : goal.returns-clause-works
returns-clause-works g c =
    works_applied _ _ (λ k chosen given. search rules) _ _ _ _ _ _ c.in_ok-summary.ensures.transacts.atomic.survives c.in_ok-summary.ensures.transacts.at_rest c.in_ok-summary.ensures.shut c.database_law.ensures c.in_ok-summary.ensures.transacts.others c.in_ok-summary.ensures.applied
