-- `statements::edit_noted`: what it ensures.
use Rattle.std.proofs.Common.{Some}
use Rattle.std.proofs.lemmas.Result.{err_from_is_err_and}
use Rattle.sqlite.specs.Held.{state}
use Rattle.cs_store.specs.Editing.{edited}
use Rattle.cs_store.specs.Store.{tables_in}
use Rattle.cs_shell_replies.specs.ErrorLines.{of_session}
use Rattle.cs_shell_replies.specs.Replies.{Silent}
use Rattle.cs_shell_executor.specs.LineAnswers.{EditGives}
use Rattle.cs_shell_executor.specs.Works.{Gave}
use Rattle.cs_shell_executor.proofs.SessionLemmas.{session_edits, session_refuses_edit}
use Rattle.cs_shell_executor.proofs.TurnLemmas.{works_refused, turns_done, unable_as, resource_of_session}
use Rattle.cs_shell_executor.proofs.statements.edit_noted.Goals as goal

pub returns-in_err-edit : goal.returns-in_err-edit
returns-in_err-edit g c =
    let p = err_from_is_err_and c.from_residual.result c.from_residual.ensures.1 in
    rw (p.1, p.2, c.in_err-edit.ensures.same)
    (works_refused (λ old. EditGives old (edited old.tables c.args.edit.now)) (Some c.args.session.now) _ (state g.S.Store c.args.store.now) (state g.S.Store c.edit.new.store)
    c.edit.ensures.transacts.atomic.survives (λ clean. c.in_err-edit.ensures.transacts.kept clean)
    (λ clean shut old. unable_as (λ s. EditGives s (edited s.tables c.args.edit.now)) old (of_session c.in_err-edit.field-0.0) (resource_of_session c.in_err-edit.field-0.0 (c.in_err-edit.ensures.shut clean shut)))
    (λ clean here slots. session_refuses_edit (tables_in (state g.S.Store c.args.store.now).now) c.args.edit.now c.args.session.now c.in_err-edit.field-0.0 (c.in_err-edit.ensures.refused clean) here slots))

pub returns : goal.returns
returns g c =
    turns_done (Gave (Some c.args.session.now) (Some c.edit.new.self) (λ old. EditGives old (edited old.tables c.args.edit.now)) Silent)
    (state g.S.Store c.args.store.now) (state g.S.Store c.edit.new.store) c.edit.ensures.transacts.atomic.survives (λ clean. c.in_ok-edit.ensures.transacts.at_rest clean) (λ clean shut. c.in_ok-edit.ensures.shut clean shut) c.database_law.ensures (λ clean. c.in_ok-edit.ensures.transacts.others clean)
    (λ clean rest. session_edits (tables_in (state g.S.Store c.args.store.now).now) (tables_in (state g.S.Store c.edit.new.store).now) c.args.edit.now c.args.session.now c.edit.new.self
    (c.in_ok-edit.ensures.recorded clean) (c.in_ok-edit.ensures.rewound clean))
