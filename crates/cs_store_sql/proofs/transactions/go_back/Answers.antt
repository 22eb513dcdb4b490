-- `transactions::go_back`: the clauses `back`, `undone`, `failed` and `survives`.
use Rattle.std.proofs.Common.{inr, refl, arith}
use Rattle.sqlite.specs.Held.{state}
use Rattle.cs_store_sql.proofs.ContentLemmas.{idle_undone, in_autocommit, in_transaction}
use Rattle.cs_store_sql.proofs.FailureLemmas.{failure}
use Rattle.cs_store_sql.proofs.QueryLemmas.{on_err}
use Rattle.cs_store_sql.proofs.MarkLemmas.{back_fails, back_keeps_crash, back_undone, gone_back, gone_back_keeps_crash, not_gone_back, not_gone_back_fails}
use Rattle.cs_store_sql.proofs.transactions.go_back.Goals as goal

pub returns-then-is_autocommit-clause-undone : goal.returns-then-is_autocommit-clause-undone
returns-then-is_autocommit-clause-undone g c has clean =
    let known = c.if-is_autocommit.ensures in
    idle_undone (state g.S.Store c.args.conn.now) (in_autocommit _ known.value) (known.settled refl)

pub returns-in_err-execute-clause-undone : goal.returns-in_err-execute-clause-undone
returns-in_err-execute-clause-undone g c has clean =
    let it = has (in_transaction _ c.if-is_autocommit.ensures.value) in
    on_err c.from_residual.result _ (back_undone _ _ it.0 it.1 it.2 _ (c.in_err-execute.ensures.runs clean))

pub returns-in_err-execute-clause-failed : goal.returns-in_err-execute-clause-failed
returns-in_err-execute-clause-failed g c has clean =
    let it = has (in_transaction _ c.if-is_autocommit.ensures.value) in
    failure c.from_residual.result _ c.in_err-execute.field-0.0 c.from_residual.ensures.1
    (λ other. inr (back_fails _ _ it.0 it.1 it.2 _ other (c.in_err-execute.ensures.runs clean)))

pub returns-in_err-execute-clause-survives : goal.returns-in_err-execute-clause-survives
returns-in_err-execute-clause-survives g c has = back_keeps_crash _ _ c.execute.ensures.survives

pub returns-in_err-execute-2-clause-undone : goal.returns-in_err-execute-2-clause-undone
returns-in_err-execute-2-clause-undone g c has clean =
    let it = has (in_transaction _ c.if-is_autocommit.ensures.value) in
    let second = c.execute-2.ensures in
    on_err c.from_residual-in_err-execute-2.result _
    (not_gone_back _ (state g.S.Store c.execute.new.self) _ _ it.0 it.1 it.2 (c.in_ok-execute.ensures.runs (omega (arith, second.survives.clean, clean))) _ (c.in_err-execute-2.ensures.runs clean))

pub returns-in_err-execute-2-clause-failed : goal.returns-in_err-execute-2-clause-failed
returns-in_err-execute-2-clause-failed g c has clean =
    let it = has (in_transaction _ c.if-is_autocommit.ensures.value) in
    let second = c.execute-2.ensures in
    failure c.from_residual-in_err-execute-2.result _ c.in_err-execute-2.field-0.0 c.from_residual-in_err-execute-2.ensures.1
    (λ other. inr (not_gone_back_fails _ (state g.S.Store c.execute.new.self) _ _ it.0 it.1 it.2 (c.in_ok-execute.ensures.runs (omega (arith, second.survives.clean, clean)))
    (back_keeps_crash _ _ c.execute.ensures.survives) _ other (c.in_err-execute-2.ensures.runs clean)))

pub returns-in_err-execute-2-clause-survives : goal.returns-in_err-execute-2-clause-survives
returns-in_err-execute-2-clause-survives g c has =
    gone_back_keeps_crash _ (state g.S.Store c.execute.new.self) _ _ (λ clean. has clean (in_transaction _ c.if-is_autocommit.ensures.value))
    (λ clean. c.in_ok-execute.ensures.runs clean) c.execute.ensures.survives c.execute-2.ensures.survives

pub returns-clause-back : goal.returns-clause-back
returns-clause-back g c before db marked clean =
    let inside = in_transaction _ c.if-is_autocommit.ensures.value in
    let second = c.execute-2.ensures in
    let back = gone_back _ (state g.S.Store c.execute.new.self) _ _ before db (marked inside) (c.in_ok-execute.ensures.runs (omega (arith, second.survives.clean, clean))) _ (c.in_ok-execute-2.ensures.runs clean) in
    (inside, back.0, back.1)

pub returns-clause-survives : goal.returns-clause-survives
returns-clause-survives g c has =
    gone_back_keeps_crash _ (state g.S.Store c.execute.new.self) _ _ (λ clean. has clean (in_transaction _ c.if-is_autocommit.ensures.value))
    (λ clean. c.in_ok-execute.ensures.runs clean) c.execute.ensures.survives c.execute-2.ensures.survives
