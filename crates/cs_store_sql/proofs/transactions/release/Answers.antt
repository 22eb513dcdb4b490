-- `transactions::release`: the clauses `undone`, `failed`, `survives` and `released`.
use Rattle.cs_store_sql.proofs.FailureLemmas.{failure}
use Rattle.cs_store_sql.proofs.QueryLemmas.{on_err}
use Rattle.cs_store_sql.proofs.MarkLemmas.{releases, release_fails, release_undone, release_keeps_crash}
use Rattle.cs_store_sql.proofs.transactions.release.Goals as goal

pub returns-in_err-execute-clause-undone : goal.returns-in_err-execute-clause-undone
returns-in_err-execute-clause-undone g c has clean = on_err c.from_residual.result _ (release_undone _ _ has.0 has.1 has.2 _ (c.in_err-execute.ensures.runs clean))

pub returns-in_err-execute-clause-failed : goal.returns-in_err-execute-clause-failed
returns-in_err-execute-clause-failed g c has clean =
    failure c.from_residual.result _ c.in_err-execute.field-0.0 c.from_residual.ensures.1
    (λ other. release_fails _ _ has.0 has.1 has.2 _ other (c.in_err-execute.ensures.runs clean))

pub returns-in_err-execute-clause-survives : goal.returns-in_err-execute-clause-survives
returns-in_err-execute-clause-survives g c has = release_keeps_crash _ _ has c.execute.ensures.survives

pub returns-clause-released : goal.returns-clause-released
returns-clause-released g c before db marked clean = releases _ _ before db marked _ (c.in_ok-execute.ensures.runs clean)

pub returns-clause-survives : goal.returns-clause-survives
returns-clause-survives g c has = release_keeps_crash _ _ has c.execute.ensures.survives
