-- `applying::finish`: the report of an apply, or its fault, is read of the tables.
use Rattle.std.proofs.Common.{Ok, Err}
use Rattle.std.proofs.lemmas.Result.{err_from_is_err_and}
use Rattle.sqlite.specs.Held.{state}
use Rattle.cs_calls_answers.specs.declared.answer.Answer.TheVariants.{Report}
use Rattle.cs_calls_conversions.specs.Conflicts.{of_conflict, reported_by}
use Rattle.cs_calls_executor.proofs.WorkLemmas.{conflict_finishes, fault_finishes, reported_finishes, stopped_finishes, unsent_finishes}
use Rattle.cs_calls_executor.proofs.applying.finish.Goals as goal

pub returns-in_err-answer-in-Ok : goal.returns-in_err-answer-in-Ok
returns-in_err-answer-in-Ok g c is_open =
    let p = err_from_is_err_and c.from_residual.result c.from_residual.ensures.1 in
    rw (p.1, p.2) (stopped_finishes (state g.S.Store c.args.transaction.now) (state g.S.Store c.reported.new.transaction) c.args.outcome (λ tables. Report (reported_by tables c.in-Ok.report)) c.in_err-answer-in-Ok.field-0.0
    (c.in_err-answer-in-Ok.ensures (rw c.in-Ok.is at is_open)))

pub returns-in_err-bytes-in-Ok : goal.returns-in_err-bytes-in-Ok
returns-in_err-bytes-in-Ok g c is_open =
    let p = err_from_is_err_and c.from_residual-in_err-bytes-in-Ok.result c.from_residual-in_err-bytes-in-Ok.ensures.1 in
    rw (p.1, p.2, c.in-Ok.is) (unsent_finishes (state g.S.Store c.args.transaction.now) (state g.S.Store c.reported.new.transaction) c.in-Ok.report c.in_ok-answer-in-Ok.answer (c.in_ok-answer-in-Ok.ensures (rw c.in-Ok.is at is_open))
    c.in_err-bytes-in-Ok.field-0.0 c.in_err-bytes-in-Ok.ensures.err)

pub returns-in_ok-bytes-in-Ok : goal.returns-in_ok-bytes-in-Ok
returns-in_ok-bytes-in-Ok g c is_open =
    rw c.in-Ok.is (reported_finishes (state g.S.Store c.args.transaction.now) (state g.S.Store c.reported.new.transaction) c.in-Ok.report c.in_ok-answer-in-Ok.answer (c.in_ok-answer-in-Ok.ensures (rw c.in-Ok.is at is_open))
    c.in_ok-bytes-in-Ok.bytes c.in_ok-bytes-in-Ok.ensures.ok)

pub returns-in-Ok-fault_refusal : goal.returns-in-Ok-fault_refusal
returns-in-Ok-fault_refusal g c is_open =
    rw c.in-Err.is (fault_finishes (state g.S.Store c.args.transaction.now) c.in-Err.fault c.in-Ok-fault_refusal.refused c.in-Ok-fault_refusal.ensures)

pub returns-in_ok-refused-in-Err-fault_refusal : goal.returns-in_ok-refused-in-Err-fault_refusal
returns-in_ok-refused-in-Err-fault_refusal g c is_open =
    let told = c.in-Err-fault_refusal in
    rw c.in-Err.is (conflict_finishes (state g.S.Store c.args.transaction.now) (state g.S.Store c.conflict_refusal.new.transaction) c.in-Err.fault told.code told.conflict told.ensures
    c.in_ok-refused-in-Err-fault_refusal.refused c.in_ok-refused-in-Err-fault_refusal.ensures)

pub returns-in_err-refused-in-Err-fault_refusal : goal.returns-in_err-refused-in-Err-fault_refusal
returns-in_err-refused-in-Err-fault_refusal g c is_open =
    let told = c.in-Err-fault_refusal in
    let p = err_from_is_err_and c.from_residual-in_err-refused-in-Err-fault_refusal.result c.from_residual-in_err-refused-in-Err-fault_refusal.ensures.1 in
    rw (p.1, p.2) (stopped_finishes (state g.S.Store c.args.transaction.now) (state g.S.Store c.conflict_refusal.new.transaction) c.args.outcome (λ tables. of_conflict told.code tables told.conflict)
    c.in_err-refused-in-Err-fault_refusal.field-0.0 c.in_err-refused-in-Err-fault_refusal.ensures)
