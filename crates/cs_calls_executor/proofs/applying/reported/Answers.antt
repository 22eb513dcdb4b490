-- `applying::reported`: there is no memory for the names of skipped tables.
use Rattle.std.proofs.Common.{rules, map, Ok, Err, inl, inr, is_ok, true≢false, ap}
use Rattle.std.proofs.lemmas.Result.{err_from_is_err_and}
use Rattle.sqlite.specs.Held.{state}
use Rattle.cs_calls_answers.specs.declared.answer.Answer.{Answer}
use Rattle.cs_calls_answers.specs.declared.answer.Answer.TheVariants.{Report}
use Rattle.cs_calls_answers.specs.Refusals.{out_of_memory}
use Rattle.cs_calls_conversions.specs.Conflicts.{met_by, reported_by}
use Rattle.cs_calls_executor.proofs.ApplyLemmas.{reported_is}
use Rattle.cs_calls_executor.proofs.ReadLemmas.{no_memory, reads_on, reads_refused}
use Rattle.cs_calls_executor.proofs.applying.reported.Goals as goal

pub returns-in_err-skipped : goal.returns-in_err-skipped
returns-in_err-skipped g c is_open =
    let report = c.args.report.now in
    let p = err_from_is_err_and c.from_residual-in_err-skipped.result c.from_residual-in_err-skipped.ensures.1 in
    rw (p.1, p.2) (reads_on (λ tables. Ok (map (met_by tables) report.conflicts.items)) (λ tables. Ok (Report (reported_by tables report))) (state g.S.Store c.args.transaction.now) (state g.S.Store c.met_conflicts.new.transaction) c.in_ok-conflicts.conflicts (Err out_of_memory)
    (λ tables found. inr no_memory) (rw c.deref.ensures.value at (c.in_ok-conflicts.ensures is_open)))

pub returns-in_err-conflicts : goal.returns-in_err-conflicts
returns-in_err-conflicts g c is_open =
    let report = c.args.report.now in
    let p = err_from_is_err_and c.from_residual.result c.from_residual.ensures.1 in
    rw (p.1, p.2) (reads_refused (λ tables. Ok (map (met_by tables) report.conflicts.items)) (λ tables. Ok (Report (reported_by tables report))) (state g.S.Store c.args.transaction.now) (state g.S.Store c.met_conflicts.new.transaction) c.in_err-conflicts.field-0.0
    (λ tables missing. absurd (true≢false (ap is_ok missing))) (rw c.deref.ensures.value at (c.in_err-conflicts.ensures is_open)))

pub returns : goal.returns
returns g c is_open =
    let report = c.args.report.now in
    let given = c.in_ok-conflicts.conflicts in
    reads_on (λ tables. Ok (map (met_by tables) report.conflicts.items)) (λ tables. Ok (Report (reported_by tables report))) (state g.S.Store c.args.transaction.now) (state g.S.Store c.met_conflicts.new.transaction) given _
    (λ tables found. inl (ap (λ (a : Answer). Ok a) (reported_is tables report c.len.result c.in_ok-skipped.skipped given (search rules) (rw c.deref-2.ensures.value at c.in_ok-skipped.ensures) found))) (rw c.deref.ensures.value at (c.in_ok-conflicts.ensures is_open))
