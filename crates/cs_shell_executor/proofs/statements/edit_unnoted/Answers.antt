-- `statements::edit_unnoted`: what it ensures.
use Rattle.std.proofs.Common.{map, None}
use Rattle.std.proofs.lemmas.Result.{err_from_is_err_and}
use Rattle.sqlite.specs.Held.{state}
use Rattle.cs_store.specs.Editing.{edited, written_of}
use Rattle.cs_store.specs.Store.{tables_in}
use Rattle.cs_shell_replies.specs.ErrorLines.{of_store}
use Rattle.cs_shell_replies.specs.Replies.{Silent}
use Rattle.cs_shell_executor.specs.LineAnswers.{EditGives}
use Rattle.cs_shell_executor.specs.Works.{Gave}
use Rattle.cs_shell_executor.proofs.SessionLemmas.{store_edits, store_refuses_edit}
use Rattle.cs_shell_executor.proofs.TurnLemmas.{works_refused, turns_done, unable_as, resource_of_store}
use Rattle.cs_shell_executor.proofs.statements.edit_unnoted.Goals as goal

pub returns-in_err-edit : goal.returns-in_err-edit
returns-in_err-edit g c =
    let p = err_from_is_err_and c.from_residual.result c.from_residual.ensures.1 in
    rw (p.1, p.2)
    (works_refused (λ old. EditGives old (edited old.tables c.args.edit.now)) None _ (state g.S.Store c.args.store.now) (state g.S.Store c.edit.new.self)
    c.edit.ensures.transacts.atomic.survives (λ clean. c.in_err-edit.ensures.transacts.kept clean)
    (λ clean shut old. unable_as (λ s. EditGives s (edited s.tables c.args.edit.now)) old (of_store c.in_err-edit.field-0.0) (resource_of_store c.in_err-edit.field-0.0 (c.in_err-edit.ensures.shut clean shut)))
    (λ clean here slots. store_refuses_edit (tables_in (state g.S.Store c.args.store.now).now) c.args.edit.now None c.in_err-edit.field-0.0 (c.in_err-edit.ensures.refused clean) slots))

pub returns : goal.returns
returns g c =
    turns_done (Gave None None (λ old. EditGives old (edited old.tables c.args.edit.now)) Silent)
    (state g.S.Store c.args.store.now) (state g.S.Store c.edit.new.self) c.edit.ensures.transacts.atomic.survives (λ clean. c.in_ok-edit.ensures.transacts.at_rest clean) (λ clean shut. c.in_ok-edit.ensures.shut clean shut) c.database_law.ensures (λ clean. c.in_ok-edit.ensures.transacts.others clean)
    (λ clean rest. store_edits (tables_in (state g.S.Store c.args.store.now).now) (tables_in (state g.S.Store c.edit.new.self).now) c.args.edit.now (map written_of c.in_ok-edit.field-0.items)
    (c.in_ok-edit.ensures.edited clean))
