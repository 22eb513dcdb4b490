-- `transactions::mark`: the clauses `undone`, `failed`, `survives` and `marked`.
use Rattle.std.proofs.Common.{inr, refl}
use Rattle.sqlite.specs.Held.{state}
use Rattle.cs_store_sql.proofs.ContentLemmas.{idle_undone, in_autocommit, in_transaction}
use Rattle.cs_store_sql.proofs.FailureLemmas.{failure}
use Rattle.cs_store_sql.proofs.QueryLemmas.{on_err}
use Rattle.cs_store_sql.proofs.MarkLemmas.{marks, mark_fails, mark_undone, mark_keeps_crash}
use Rattle.cs_store_sql.proofs.transactions.mark.Goals as goal

pub returns-then-is_autocommit-clause-undone : goal.returns-then-is_autocommit-clause-undone
returns-then-is_autocommit-clause-undone g c clean =
    let known = c.if-is_autocommit.ensures in
    idle_undone (state g.S.Store c.args.conn.now) (in_autocommit _ known.value) (known.settled refl)

pub returns-in_err-execute-clause-undone : goal.returns-in_err-execute-clause-undone
returns-in_err-execute-clause-undone g c clean = on_err c.from_residual.result _ (mark_undone _ _ _ (c.in_err-execute.ensures.runs clean))

pub returns-in_err-execute-clause-failed : goal.returns-in_err-execute-clause-failed
returns-in_err-execute-clause-failed g c clean =
    failure c.from_residual.result _ c.in_err-execute.field-0.0 c.from_residual.ensures.1
    (λ other. inr (mark_fails _ _ _ other (c.in_err-execute.ensures.runs clean)))

pub returns-in_err-execute-clause-survives : goal.returns-in_err-execute-clause-survives
returns-in_err-execute-clause-survives g c = mark_keeps_crash _ _ c.execute.ensures.survives

pub returns-clause-marked : goal.returns-clause-marked
returns-clause-marked g c clean = marks _ _ _ (in_transaction _ c.if-is_autocommit.ensures.value) (c.in_ok-execute.ensures.runs clean)

pub returns-clause-survives : goal.returns-clause-survives
returns-clause-survives g c = mark_keeps_crash _ _ c.execute.ensures.survives
