-- `applying::revert_unnoted`: what it ensures.
use Rattle.std.proofs.lemmas.Result.{err_from_is_err_and}
use Rattle.cs_apply_engine.specs.Running.{AlwaysAborts}
use Rattle.cs_apply_engine.proofs.OutcomeLemmas.{report_counts}
use Rattle.cs_shell_executor.proofs.ApplyTurnLemmas.{works_applied, works_unapplied}
use Rattle.cs_shell_executor.proofs.applying.revert_unnoted.Goals as goal

pub returns-in_err-report : goal.returns-in_err-report
returns-in_err-report g c =
    let p = err_from_is_err_and c.from_residual.result c.from_residual.ensures.1 in
    rw (p.1, p.2)
    (works_unapplied AlwaysAborts AlwaysAborts (λ k chosen given. given) _ _ _ _ _ _ c.in_err-report.ensures.transacts.atomic.survives c.in_err-report.ensures.transacts.kept c.in_err-report.ensures.shut c.in_err-report.ensures.refused)

pub returns : goal.returns
returns g c =
    works_applied AlwaysAborts AlwaysAborts (λ k chosen given. given) _ _ _ _ _ c.into_summary.result c.in_ok-report.ensures.transacts.atomic.survives c.in_ok-report.ensures.transacts.at_rest c.in_ok-report.ensures.shut c.database_law.ensures c.in_ok-report.ensures.transacts.others
    (λ clean. report_counts _ _ _ _ _ c.in_ok-report.report _ c.into_summary.result (c.in_ok-report.ensures.applied clean) c.into_summary.ensures)
