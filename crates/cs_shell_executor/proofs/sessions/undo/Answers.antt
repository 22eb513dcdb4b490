-- `sessions::undo`: what it ensures.
use Rattle.std.proofs.lemmas.Result.{err_from_is_err_and}
use Rattle.cs_shell_executor.specs.LineAnswers.{UndoGives}
use Rattle.cs_shell_executor.proofs.SessionTurnLemmas.{works_none, works_undone, works_not_undone}
use Rattle.cs_shell_executor.proofs.sessions.undo.Goals as goal

pub returns-in_default : goal.returns-in_default
returns-in_default g c = rw c.in_default.is (works_none UndoGives _)

pub returns-in_err-report : goal.returns-in_err-report
returns-in_err-report g c =
    let p = err_from_is_err_and c.from_residual.result c.from_residual.ensures.1 in
    rw (c.in-Some.is, p.1, p.2) (works_not_undone _ _ _ _ c.in_err-report.ensures.transacts.atomic.survives c.in_err-report.ensures.transacts.kept c.in_err-report.ensures.shut c.in_err-report.ensures.refused)

pub returns : goal.returns
returns g c =
    rw c.in-Some.is
    (works_undone _ _ _ _ c.into_summary.result c.into_summary.ensures c.changeset_files_law.ensures c.notes_law.ensures c.in_ok-report.ensures.transacts.atomic.survives c.tables_law.ensures c.in_ok-report.ensures.transacts.at_rest c.in_ok-report.ensures.shut c.database_law.ensures c.in_ok-report.ensures.transacts.others c.in_ok-report.ensures.undone)
