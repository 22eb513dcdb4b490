-- `statements::create`: what it ensures.
use Rattle.std.proofs.Common.{map, ◌∙◌}
use Rattle.std.specs.Prelude.{string_bytes}
use Rattle.std.proofs.lemmas.Result.{err_from_is_err_and}
use Rattle.sqlite.specs.Held.{state}
use Rattle.cs_store.specs.Store.{tables_in}
use Rattle.cs_shell_replies.specs.Replies.{Silent}
use Rattle.cs_shell_executor.specs.LineAnswers.{CreateGives}
use Rattle.cs_shell_executor.specs.Works.{Gave}
use Rattle.cs_shell_executor.proofs.StatementLemmas.{create_unknown, create_refused, create_declares}
use Rattle.cs_shell_executor.proofs.TurnLemmas.{works_still, works_refused, turns_done}
use Rattle.cs_shell_executor.proofs.statements.create.Goals as goal

pub returns-in_err-marks : goal.returns-in_err-marks
returns-in_err-marks g c = λ session.
    let p = err_from_is_err_and c.from_residual.result c.from_residual.ensures.1 in
    rw (p.1, p.2)
    (works_still (λ old. CreateGives old c.args.name.now (map string_bytes c.args.columns.now) c.args.refuses.now (map string_bytes c.args.keys.now)) session _ (state g.S.Store c.args.store.now)
    (λ t slots. create_unknown _ c.args.name.now _ _ _ c.in_err-marks.field-0.0 c.in_err-marks.ensures.refused))

pub returns-in_err-declare : goal.returns-in_err-declare
returns-in_err-declare g c = λ session.
    let p = err_from_is_err_and c.from_residual-in_err-declare.result c.from_residual-in_err-declare.ensures.1 in
    let is = c.deref.ensures.value ∙ c.in_ok-marks.ensures.marked in
    rw (p.1, p.2)
    (works_refused (λ old. CreateGives old c.args.name.now (map string_bytes c.args.columns.now) c.args.refuses.now (map string_bytes c.args.keys.now)) session _ (state g.S.Store c.args.store.now) (state g.S.Store c.declare.new.self)
    c.declare.ensures.transacts.atomic.survives (λ clean. c.in_err-declare.ensures.transacts.kept clean)
    (λ clean shut old. create_refused old c.args.name.now c.args.columns.now c.args.refuses.now (map string_bytes c.args.keys.now) c.deref.result.now c.in_err-declare.field-0.0 is c.in_ok-marks.ensures.known (c.in_err-declare.ensures.shut clean shut old.tables))
    (λ clean here slots. create_refused _ c.args.name.now c.args.columns.now c.args.refuses.now (map string_bytes c.args.keys.now) c.deref.result.now c.in_err-declare.field-0.0 is c.in_ok-marks.ensures.known (c.in_err-declare.ensures.refused clean)))

pub returns : goal.returns
returns g c = λ session.
    turns_done (Gave session session (λ old. CreateGives old c.args.name.now (map string_bytes c.args.columns.now) c.args.refuses.now (map string_bytes c.args.keys.now)) Silent)
    (state g.S.Store c.args.store.now) (state g.S.Store c.declare.new.self) c.declare.ensures.transacts.atomic.survives (λ clean. c.in_ok-declare.ensures.transacts.at_rest clean) (λ clean shut. c.in_ok-declare.ensures.shut clean shut) c.database_law.ensures (λ clean. c.in_ok-declare.ensures.transacts.others clean)
    (λ clean rest. create_declares (tables_in (state g.S.Store c.args.store.now).now) (tables_in (state g.S.Store c.declare.new.self).now) c.args.name.now c.args.columns.now c.args.refuses.now (map string_bytes c.args.keys.now) c.deref.result.now session
    (c.deref.ensures.value ∙ c.in_ok-marks.ensures.marked) c.in_ok-marks.ensures.known (c.in_ok-declare.ensures.declared clean))
