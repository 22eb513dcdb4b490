-- `sessions::attach`: what it ensures.
use Rattle.std.proofs.lemmas.Result.{err_from_is_err_and}
use Rattle.cs_shell_executor.specs.LineAnswers.{AttachGives}
use Rattle.cs_shell_executor.proofs.SessionTurnLemmas.{works_none, works_attached, works_unattached}
use Rattle.cs_shell_executor.proofs.sessions.attach.Goals as goal

pub returns-in_default : goal.returns-in_default
returns-in_default g c = rw c.in_default.is (works_none (λ s. AttachGives s c.args.table.now) _)

pub returns-in_err-attach : goal.returns-in_err-attach
returns-in_err-attach g c =
    let p = err_from_is_err_and c.from_residual.result c.from_residual.ensures.1 in
    rw (c.in-Some.is, p.1, p.2)
    (works_unattached _ _ _ _ _ _ c.in_err-attach.ensures.kept c.tables_law.ensures c.in_err-attach.ensures.shut c.in_err-attach.ensures.refused c.in_err-attach.ensures.same)

pub returns : goal.returns
returns g c = rw c.in-Some.is (works_attached _ _ _ _ _ c.in_ok-attach.ensures.kept c.in_ok-attach.ensures.shut c.in_ok-attach.ensures.attached)
