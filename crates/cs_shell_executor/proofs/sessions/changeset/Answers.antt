-- `sessions::changeset`: what it ensures.
use Rattle.std.proofs.Common.{refl}
use Rattle.std.proofs.lemmas.Result.{err_from_is_err_and}
use Rattle.cs_shell_executor.proofs.SessionTurnLemmas.{works_no_changeset, works_changeset, works_lacking, works_no_memory}
use Rattle.cs_shell_executor.proofs.sessions.changeset.Goals as goal

pub returns-in_default : goal.returns-in_default
returns-in_default g c = rw c.in_default.is (works_no_changeset _ _ _)

pub returns-in_err-changeset : goal.returns-in_err-changeset
returns-in_err-changeset g c =
    let p = err_from_is_err_and c.from_residual.result c.from_residual.ensures.1 in
    rw (c.in-Some.is, p.1, p.2) (works_lacking _ _ _ _ _ _ c.in_err-changeset.ensures.survives c.in_err-changeset.ensures.kept c.in_err-changeset.ensures.shut c.in_err-changeset.ensures.refused)

pub returns-in_err-file : goal.returns-in_err-file
returns-in_err-file g c =
    let p = err_from_is_err_and c.from_residual-in_err-file.result c.from_residual-in_err-file.ensures.1 in
    rw (c.in-Some.is, p.1, p.2) (works_no_memory _ _ _ _ _ _ c.in_ok-changeset.ensures.survives c.in_ok-changeset.ensures.kept refl)

pub returns-in_err-insert : goal.returns-in_err-insert
returns-in_err-insert g c =
    let p = err_from_is_err_and c.from_residual-in_err-insert.result c.from_residual-in_err-insert.ensures.1 in
    rw (c.in-Some.is, p.1, p.2) (works_no_memory _ _ _ _ _ _ c.in_ok-changeset.ensures.survives c.in_ok-changeset.ensures.kept c.in_err-insert.ensures.err)

pub returns : goal.returns
returns g c =
    rw c.in-Some.is
    (works_changeset _ _ _ _ _ _ c.in_ok-changeset.field-0 c.in_ok-file.file.items c.in_ok-changeset.ensures.survives c.in_ok-changeset.ensures.kept c.in_ok-changeset.ensures.shut c.notes_law.ensures c.in_ok-changeset.ensures.made c.in_ok-file.ensures c.in_ok-insert.ensures.ok)
