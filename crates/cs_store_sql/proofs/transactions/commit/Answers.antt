-- `transactions::commit`: the clauses `undone`, `failed`, `survives` and `committed`.
use Rattle.std.proofs.Common.{inr, refl}
use Rattle.sqlite.specs.Held.{state}
use Rattle.cs_store_sql.proofs.ContentLemmas.{idle_undone, idle_survives}
use Rattle.cs_store_sql.proofs.FailureLemmas.{failure}
use Rattle.cs_store_sql.proofs.QueryLemmas.{on_err}
use Rattle.cs_store_sql.proofs.ContentLemmas.{in_autocommit, in_transaction}
use Rattle.cs_store_sql.proofs.TransactionLemmas.{commits, commit_fails, commit_undone, commit_survives}
use Rattle.cs_store_sql.proofs.transactions.commit.Goals as goal

pub returns-then-is_autocommit-clause-undone : goal.returns-then-is_autocommit-clause-undone
returns-then-is_autocommit-clause-undone g c clean =
    let known = c.if-is_autocommit.ensures in
    idle_undone (state g.S.Store c.args.conn.now) (in_autocommit _ known.value) (known.settled refl)

pub returns-then-is_autocommit-clause-survives : goal.returns-then-is_autocommit-clause-survives
returns-then-is_autocommit-clause-survives g c = idle_survives (state g.S.Store c.args.conn.now) _

pub returns-in_err-execute-clause-undone : goal.returns-in_err-execute-clause-undone
returns-in_err-execute-clause-undone g c clean = on_err c.from_residual.result _ (commit_undone _ _ (in_transaction _ c.if-is_autocommit.ensures.value) _ (c.in_err-execute.ensures.runs clean))

pub returns-in_err-execute-clause-failed : goal.returns-in_err-execute-clause-failed
returns-in_err-execute-clause-failed g c clean =
    failure c.from_residual.result _ c.in_err-execute.field-0.0 c.from_residual.ensures.1
    (λ other. inr (commit_fails _ _ (in_transaction _ c.if-is_autocommit.ensures.value) _ other (c.in_err-execute.ensures.runs clean)))

pub returns-in_err-execute-clause-survives : goal.returns-in_err-execute-clause-survives
returns-in_err-execute-clause-survives g c = commit_survives _ _ (in_transaction _ c.if-is_autocommit.ensures.value) c.execute.ensures.survives

pub returns-clause-committed : goal.returns-clause-committed
returns-clause-committed g c clean = commits _ _ _ (c.in_ok-execute.ensures.runs clean)

pub returns-clause-survives : goal.returns-clause-survives
returns-clause-survives g c = commit_survives _ _ (in_transaction _ c.if-is_autocommit.ensures.value) c.execute.ensures.survives
