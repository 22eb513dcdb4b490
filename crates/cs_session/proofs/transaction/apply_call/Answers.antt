-- `transaction::apply_call`: what `apply_rows` asks for, the clauses `recorded`, `refused`, `within` and `caused`.
use Rattle.std.proofs.Common.{◌≡◌, Bool, true, inl, IfErr, IsTrue, map, subst}
use Rattle.std.proofs.lemmas.Result.{err_from_is_err_and}
use Rattle.sqlite.specs.Effect.{Database}
use Rattle.sqlite.specs.Held.{state}
use Rattle.sqlite.specs.State.{HasCleanDisk}
use Rattle.std.specs.Prelude.{IfOk}
use Rattle.std.specs.Fn.{FnReturnsAt}
use Rattle.cs_apply_engine.specs.declared.report.Report.{Report}
use Rattle.cs_apply.specs.Crash.{AppliesInto}
use Rattle.cs_apply.proofs.TransactionLemmas.{report_into}
use Rattle.cs_store.specs.Laws.{was_clean}
use Rattle.cs_store.specs.Store.{tables_in}
use Rattle.cs_store.specs.Within.{EndsCall}
use Rattle.cs_store.proofs.WithinLemmas.{call_within, ended_within, makes_inside, mark_there, marked_fails, release_fails, shown_holds, unreleased_within}
use Rattle.cs_session_notes.specs.Changes.{IsRowsRefusal, is_answered}
use Rattle.cs_session_notes.specs.Views.{attached_of}
use Rattle.cs_session_notes.proofs.CauseLemmas.{answered_goes_on, answered_inside, caused_so, rows_caused_on}
use Rattle.cs_session.specs.Recording.{RecordsApply, RefusesApply}
use Rattle.cs_session.proofs.TransactionLemmas.{marked_state, resource_refusal}
use Rattle.cs_session.proofs.transaction.apply_call.Goals as goal

pub apply_rows-result-requires-clause-state : goal.apply_rows-result-requires-clause-state
apply_rows-result-requires-clause-state g c clean =
    let old = state g.S.Store c.args.transaction.now in
    let marked = state g.S.Store c.mark.new.self in
    marked_state old marked (λ clean. (c.in_ok-mark.ensures.marked clean).1) c.mark.ensures.survives c.store_law.ensures.holds clean

pub returns-in_err-mark-clause-within : goal.returns-in_err-mark-clause-within
returns-in_err-mark-clause-within g c =
    let p = err_from_is_err_and c.from_residual.result c.from_residual.ensures.1 in
    rw (p.1, p.2) (ended_within _ _ IsRowsRefusal _ _ (λ clean. inl (resource_refusal _ c.in_err-mark.ensures.refused)) c.mark.ensures.survives c.in_err-mark.ensures.undone)

pub returns-in_err-end_call-clause-within : goal.returns-in_err-end_call-clause-within
returns-in_err-end_call-clause-within g c =
    let old = state g.S.Store c.args.transaction.now in
    let marked = state g.S.Store c.mark.new.self in
    let mid = state g.S.Store c.apply_rows-result.new.rows in
    let new = state g.S.Store c.end_call.new.self in
    let p = err_from_is_err_and c.from_residual-in_err-end_call.result c.from_residual-in_err-end_call.ensures.1 in
    rw (p.1, p.2) (unreleased_within old marked mid c.in_ok-mark.ensures.marked c.mark.ensures.survives c.apply_rows-result.ensures.kept.0 new _ (AppliesInto (FnReturnsAt g.H.Fn c.args.handler.now) c.args.noop c.args.file.now c.args.direction (tables_in old.now))
    IsRowsRefusal (resource_refusal _ c.in_err-end_call.ensures.refused) c.end_call.ensures.survives c.in_err-end_call.ensures.undone)

pub returns-in_err-end_call-clause-caused : goal.returns-in_err-end_call-clause-caused
returns-in_err-end_call-clause-caused g c clean =
    let old = state g.S.Store c.args.transaction.now in
    let marked = state g.S.Store c.mark.new.self in
    let mid = state g.S.Store c.apply_rows-result.new.rows in
    let new = state g.S.Store c.end_call.new.self in
    rows_caused_on c.from_residual-in_err-end_call.result _ _ c.in_err-end_call.field-0.0 c.from_residual-in_err-end_call.ensures.1
    (λ why. release_fails old marked mid c.in_ok-mark.ensures.marked c.mark.ensures.survives c.apply_rows-result.ensures.kept.0 new _ why (was_clean mid new c.end_call.ensures.survives clean) c.end_call.ensures.survives.counts)
    (c.in_err-end_call.ensures.caused clean)

pub returns-clause-recorded : goal.returns-clause-recorded
returns-clause-recorded g c clean =
    let old = state g.S.Store c.args.transaction.now in
    let marked = state g.S.Store c.mark.new.self in
    let mid = state g.S.Store c.apply_rows-result.new.rows in
    let new = state g.S.Store c.end_call.new.self in
    let r = c.apply_rows-result.result in
    let keeps = c.apply_rows-result.ensures.kept in
    let before = was_clean mid new c.end_call.ensures.survives clean in
    let shown = (c.in_ok-mark.ensures.marked (was_clean marked mid keeps.0.crash before)).1 in
    let Makes : Database → Report → Database → Type 0 = λ one report two. RecordsApply (FnReturnsAt g.H.Fn c.args.handler.now) c.args.noop c.args.file.now c.args.direction (tables_in one) (map attached_of c.args.tables.now) report (tables_in two) (map attached_of c.apply_rows-result.new.tables) in
    shown_holds r (Makes old.now) old.marks old.now mid new (answered_inside r (IsTrue mid.in_transaction) (λ answered. (keeps.1 answered before).inside shown.mode))
    (subst (λ (b : Bool). EndsCall b old.marks old.now mid new) c.is_ok.ensures.value (c.in_ok-end_call.ensures.ends old.marks old.now (mark_there old marked mid c.in_ok-mark.ensures.marked c.mark.ensures.survives keeps.0 before) clean))
    (subst (λ (db : Database). IfOk r (λ report. Makes db report mid.now)) shown.now_is (c.apply_rows-result.ensures.recorded before))

pub returns-clause-refused : goal.returns-clause-refused
returns-clause-refused g c clean =
    let marked = state g.S.Store c.mark.new.self in
    let mid = state g.S.Store c.apply_rows-result.new.rows in
    let new = state g.S.Store c.end_call.new.self in
    let before = was_clean mid new c.end_call.ensures.survives clean in
    let shown = (c.in_ok-mark.ensures.marked (was_clean marked mid c.apply_rows-result.ensures.kept.0.crash before)).1 in
    subst (λ (db : Database). IfErr c.apply_rows-result.result (RefusesApply (FnReturnsAt g.H.Fn c.args.handler.now) c.args.noop c.args.file.now c.args.direction (tables_in db) (map attached_of c.args.tables.now))) shown.now_is (c.apply_rows-result.ensures.refused before)

pub returns-clause-caused : goal.returns-clause-caused
returns-clause-caused g c clean =
    let old = state g.S.Store c.args.transaction.now in
    let marked = state g.S.Store c.mark.new.self in
    let mid = state g.S.Store c.apply_rows-result.new.rows in
    let new = state g.S.Store c.end_call.new.self in
    let r = c.apply_rows-result.result in
    let before = was_clean mid new c.end_call.ensures.survives clean in
    caused_so r _ _ (λ why. marked_fails old marked mid c.in_ok-mark.ensures.marked c.mark.ensures.survives c.apply_rows-result.ensures.kept.0 new _ why before c.end_call.ensures.survives) (c.apply_rows-result.ensures.caused before)

pub returns-clause-within : goal.returns-clause-within
returns-clause-within g c =
    let old = state g.S.Store c.args.transaction.now in
    let marked = state g.S.Store c.mark.new.self in
    let mid = state g.S.Store c.apply_rows-result.new.rows in
    let new = state g.S.Store c.end_call.new.self in
    let r = c.apply_rows-result.result in
    let keeps = c.apply_rows-result.ensures.kept in
    let inside : HasCleanDisk mid → is_answered r ≡ true → IsTrue mid.in_transaction = λ clean answered.
    (keeps.1 answered clean).inside (c.in_ok-mark.ensures.marked (was_clean marked mid keeps.0.crash clean)).1.mode in
    call_within old marked mid c.in_ok-mark.ensures.marked c.mark.ensures.survives keeps.0 new r (AppliesInto (FnReturnsAt g.H.Fn c.args.handler.now) c.args.noop c.args.file.now c.args.direction) IsRowsRefusal c.end_call.ensures.survives
    (λ clean. makes_inside r _ _ _ (λ report made. report_into report made.applied) (answered_inside r _ (inside clean)) (c.apply_rows-result.ensures.recorded clean))
    (λ clean. answered_goes_on r _ (inside clean))
    (λ before db marks clean. subst (λ (b : Bool). EndsCall b before db mid new) c.is_ok.ensures.value (c.in_ok-end_call.ensures.ends before db marks clean))
