-- `transactions::begin`: the clauses `kept`, `failed`, `survives`, `begun` and `settled`.
use Rattle.std.proofs.Common.{inr, not, ap, ◌∙◌, refl}
use Rattle.cs_store_sql.proofs.QueryLemmas.{on_err}
use Rattle.cs_store_sql.proofs.FailureLemmas.{failure}
use Rattle.cs_store_sql.proofs.StatementLemmas.{refusal_rests}
use Rattle.cs_store_sql.proofs.ContentLemmas.{rests_keeps_content, in_autocommit}
use Rattle.cs_store_sql.proofs.TransactionLemmas.{begins, begin_fails, begin_keeps_crash}
use Rattle.cs_store_sql.proofs.transactions.begin.Goals as goal

pub returns-in_err-execute-clause-kept : goal.returns-in_err-execute-clause-kept
returns-in_err-execute-clause-kept g c clean =
    let rests = refusal_rests _ _ _ _ _ (c.in_err-execute.ensures.runs clean) in
    let known = c.if-not-is_autocommit.ensures in
    on_err c.from_residual.result _ (rests_keeps_content _ _ rests (in_autocommit _ known.value) (known.settled refl))

pub returns-in_err-execute-clause-survives : goal.returns-in_err-execute-clause-survives
returns-in_err-execute-clause-survives g c = begin_keeps_crash _ _ c.execute.ensures.survives

pub returns-clause-begun : goal.returns-clause-begun
returns-clause-begun g c clean = begins _ _ _ (c.in_ok-execute.ensures.runs clean)

pub returns-clause-settled : goal.returns-clause-settled
returns-clause-settled g c clean =
    let began = begins _ _ _ (c.in_ok-execute.ensures.runs clean) in
    c.is_autocommit.ensures.settled (c.is_autocommit.ensures.value ∙ ap not began.0) began.1.was_open

pub returns-clause-survives : goal.returns-clause-survives
returns-clause-survives g c = begin_keeps_crash _ _ c.execute.ensures.survives

pub returns-in_err-execute-clause-failed : goal.returns-in_err-execute-clause-failed
returns-in_err-execute-clause-failed g c clean =
    failure c.from_residual.result _ c.in_err-execute.field-0.0 c.from_residual.ensures.1
    (λ other. inr (begin_fails _ _ (in_autocommit _ c.if-not-is_autocommit.ensures.value) _ other (c.in_err-execute.ensures.runs clean)))
