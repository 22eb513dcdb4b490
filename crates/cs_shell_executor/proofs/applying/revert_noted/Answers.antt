-- `applying::revert_noted`: what it ensures.
use Rattle.std.proofs.lemmas.Result.{err_from_is_err_and}
use Rattle.cs_apply_engine.specs.Running.{AlwaysAborts}
use Rattle.cs_shell_executor.proofs.ApplyTurnLemmas.{works_recorded, works_unrecorded}
use Rattle.cs_shell_executor.proofs.applying.revert_noted.Goals as goal

pub returns-in_err-report : goal.returns-in_err-report
returns-in_err-report g c =
    let p = err_from_is_err_and c.from_residual.result c.from_residual.ensures.1 in
    rw (p.1, p.2)
    (works_unrecorded AlwaysAborts AlwaysAborts (λ k chosen given. given) _ _ _ _ _ _ _ _ c.in_err-report.ensures.transacts.atomic.survives c.in_err-report.ensures.transacts.kept c.in_err-report.ensures.shut c.in_err-report.ensures.refused c.in_err-report.ensures.same)

pub returns : goal.returns
returns g c =
    works_recorded AlwaysAborts AlwaysAborts (λ k chosen given. given) _ _ _ _ _ _ _ _ c.into_summary.result c.into_summary.ensures c.in_ok-report.ensures.transacts.atomic.survives c.in_ok-report.ensures.transacts.at_rest c.in_ok-report.ensures.shut c.database_law.ensures c.in_ok-report.ensures.transacts.others c.in_ok-report.ensures.recorded c.in_ok-report.ensures.rewound
