-- `statements::select`: what it ensures.
use Rattle.std.proofs.Common.{inr}
use Rattle.std.proofs.lemmas.Result.{err_from_is_err_and}
use Rattle.sqlite.specs.Held.{state}
use Rattle.cs_shell_executor.specs.LineAnswers.{SelectGives}
use Rattle.cs_shell_executor.proofs.StatementLemmas.{select_refused, select_gives}
use Rattle.cs_shell_executor.proofs.TurnLemmas.{works_read}
use Rattle.cs_shell_executor.proofs.statements.select.Goals as goal

pub returns-in_err-rows : goal.returns-in_err-rows
returns-in_err-rows g c = λ session.
    let p = err_from_is_err_and c.from_residual.result c.from_residual.ensures.1 in
    rw (p.1, p.2)
    (works_read (λ old. SelectGives old c.args.table.now) session _ (state g.S.Store c.args.store.now) (state g.S.Store c.rows.new.self) c.rows.ensures.kept
    (λ clean shut old. select_refused old c.args.table.now c.in_err-rows.field-0.0 (inr (c.in_err-rows.ensures.shut clean shut)))
    (λ clean slots. select_refused _ c.args.table.now c.in_err-rows.field-0.0 (c.in_err-rows.ensures.refused clean)))

pub returns : goal.returns
returns g c = λ session.
    works_read (λ old. SelectGives old c.args.table.now) session _ (state g.S.Store c.args.store.now) (state g.S.Store c.rows.new.self) c.rows.ensures.kept
    (λ clean shut old. absurd (c.in_ok-rows.ensures.shut clean shut))
    (λ clean slots. select_gives _ c.args.table.now _ (c.in_ok-rows.ensures.declared clean) (c.in_ok-rows.ensures.listed clean))
