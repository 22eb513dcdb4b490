-- `session::Session::undo_in_transaction`: what `undo_rows` asks for, the clauses `undone`, `refused`, `within` and
-- `caused`.
use Rattle.std.proofs.Common.{◌≡◌, Bool, true, inl, IfErr, IfOk, OnOk, IsTrue, Result, Ok, Err, map, ap, refl, subst, sym, ◌∙◌}
use Rattle.std.proofs.lemmas.Result.{err_from_is_err_and}
use Rattle.sqlite.specs.Effect.{Database}
use Rattle.sqlite.specs.Held.{state}
use Rattle.sqlite.specs.State.{HasCleanDisk}
use Rattle.cs_store.specs.Failing.{BatchFails, Writes}
use Rattle.cs_store.specs.Laws.{was_clean}
use Rattle.cs_store.specs.Store.{tables_in}
use Rattle.cs_store.specs.Within.{EndsCall}
use Rattle.cs_store.proofs.WithinLemmas.{call_within, ended_within, makes_inside, mark_there, marked_fails, release_fails, shown_on, unreleased_within}
use Rattle.cs_apply_engine.specs.declared.report.Report.{Report}
use Rattle.cs_session_notes.specs.declared.fault.SessionFault.{SessionFault}
use Rattle.cs_session_notes.specs.Changes.{IsCaused, IsRowsRefusal, RefusesChanges, is_answered}
use Rattle.cs_session_notes.specs.FirstImages.{Notes}
use Rattle.cs_session_notes.specs.Views.{attached_of}
use Rattle.cs_session_notes.proofs.CauseLemmas.{answered_goes_on, answered_inside, caused_so, rows_caused_on}
use Rattle.cs_session.specs.Undoing.{IsUndoWrite, Undoes, UndoesInto}
use Rattle.cs_session.proofs.TransactionLemmas.{marked_state, resource_refusal}
use Rattle.cs_session.proofs.session.Session.undo_in_transaction.Goals as goal

-- it is shown at the end of the call, from what was shown before the mark
undone_shown : (r : Result Report SessionFault) (notes : Notes) (marked old mid new : Database) → marked ≡ old → OnOk r (new ≡ mid) → IfOk r (λ report. Undoes notes (tables_in marked) report (tables_in mid))
    → IfOk r (λ report. Undoes notes (tables_in old) report (tables_in new))
undone_shown (Ok report) notes marked old mid new same shown undone =
    subst (λ (db : Database). Undoes notes (tables_in db) report (tables_in new)) same (subst (λ (db : Database). Undoes notes (tables_in marked) report (tables_in db)) (sym shown) undone)
undone_shown (Err fault) notes marked old mid new same shown undone = tt

pub undo_rows-result-requires-clause-notes : goal.undo_rows-result-requires-clause-notes
undo_rows-result-requires-clause-notes g c = rw c.as_slice.ensures c.self.invariant.0

pub undo_rows-result-requires-clause-state : goal.undo_rows-result-requires-clause-state
undo_rows-result-requires-clause-state g c clean =
    let old = state g.S.Store c.args.transaction.now in
    let marked = state g.S.Store c.mark.new.self in
    marked_state old marked (λ clean. (c.in_ok-mark.ensures.marked clean).1) c.mark.ensures.survives c.store_law.ensures.holds clean

pub returns-in_err-mark-clause-within : goal.returns-in_err-mark-clause-within
returns-in_err-mark-clause-within g c =
    let p = err_from_is_err_and c.from_residual.result c.from_residual.ensures.1 in
    rw (p.1, p.2) (ended_within _ _ IsRowsRefusal _ _ (λ clean. inl (resource_refusal _ c.in_err-mark.ensures.refused)) c.mark.ensures.survives c.in_err-mark.ensures.undone)

pub returns-in_err-end_call-clause-within : goal.returns-in_err-end_call-clause-within
returns-in_err-end_call-clause-within g c =
    let old = state g.S.Store c.args.transaction.now in
    let marked = state g.S.Store c.mark.new.self in
    let mid = state g.S.Store c.undo_rows-result.new.rows in
    let new = state g.S.Store c.end_call.new.self in
    let p = err_from_is_err_and c.from_residual-in_err-end_call.result c.from_residual-in_err-end_call.ensures.1 in
    rw (p.1, p.2) (unreleased_within old marked mid c.in_ok-mark.ensures.marked c.mark.ensures.survives c.undo_rows-result.ensures.kept.0 new _ (UndoesInto c.args.self.now (tables_in old.now))
    IsRowsRefusal (resource_refusal _ c.in_err-end_call.ensures.refused) c.end_call.ensures.survives c.in_err-end_call.ensures.undone)

pub returns-in_err-end_call-clause-caused : goal.returns-in_err-end_call-clause-caused
returns-in_err-end_call-clause-caused g c clean =
    let old = state g.S.Store c.args.transaction.now in
    let marked = state g.S.Store c.mark.new.self in
    let mid = state g.S.Store c.undo_rows-result.new.rows in
    let new = state g.S.Store c.end_call.new.self in
    rows_caused_on c.from_residual-in_err-end_call.result _ _ c.in_err-end_call.field-0.0 c.from_residual-in_err-end_call.ensures.1
    (λ why. release_fails old marked mid c.in_ok-mark.ensures.marked c.mark.ensures.survives c.undo_rows-result.ensures.kept.0 new _ why (was_clean mid new c.end_call.ensures.survives clean) c.end_call.ensures.survives.counts)
    (c.in_err-end_call.ensures.caused clean)

pub returns-clause-undone : goal.returns-clause-undone
returns-clause-undone g c clean =
    let old = state g.S.Store c.args.transaction.now in
    let marked = state g.S.Store c.mark.new.self in
    let mid = state g.S.Store c.undo_rows-result.new.rows in
    let new = state g.S.Store c.end_call.new.self in
    let r = c.undo_rows-result.result in
    let notes : map attached_of c.as_slice.result.now ≡ c.args.self.now = ap (map attached_of) c.as_slice.ensures ∙ c.self.view_is in
    let keeps = c.undo_rows-result.ensures.kept in
    let before = was_clean mid new c.end_call.ensures.survives clean in
    let shown = (c.in_ok-mark.ensures.marked (was_clean marked mid keeps.0.crash before)).1 in
    let undone = subst (λ (n : Notes). IfOk r (λ report. Undoes n (tables_in marked.now) report (tables_in mid.now))) notes (c.undo_rows-result.ensures.undone before) in
    undone_shown r c.args.self.now marked.now old.now mid.now new.now shown.now_is
    (shown_on r (λ (db : Database). db ≡ mid.now) old.marks old.now mid new (answered_inside r (IsTrue mid.in_transaction) (λ answered. (keeps.1 answered before).inside shown.mode))
    (subst (λ (b : Bool). EndsCall b old.marks old.now mid new) c.is_ok.ensures.value (c.in_ok-end_call.ensures.ends old.marks old.now (mark_there old marked mid c.in_ok-mark.ensures.marked c.mark.ensures.survives keeps.0 before) clean))
    (answered_inside r (mid.now ≡ mid.now) (λ answered. refl)))
    undone

pub returns-clause-refused : goal.returns-clause-refused
returns-clause-refused g c clean =
    let marked = state g.S.Store c.mark.new.self in
    let mid = state g.S.Store c.undo_rows-result.new.rows in
    let before = was_clean mid (state g.S.Store c.end_call.new.self) c.end_call.ensures.survives clean in
    let shown = (c.in_ok-mark.ensures.marked (was_clean marked mid c.undo_rows-result.ensures.kept.0.crash before)).1 in
    rw (← c.self.view_is, ← c.as_slice.ensures)
    (subst (λ (db : Database). IfErr c.undo_rows-result.result (RefusesChanges (tables_in db) (map attached_of c.as_slice.result.now))) shown.now_is (c.undo_rows-result.ensures.refused before))

pub returns-clause-caused : goal.returns-clause-caused
returns-clause-caused g c clean =
    let old = state g.S.Store c.args.transaction.now in
    let marked = state g.S.Store c.mark.new.self in
    let mid = state g.S.Store c.undo_rows-result.new.rows in
    let new = state g.S.Store c.end_call.new.self in
    let r = c.undo_rows-result.result in
    let notes : map attached_of c.as_slice.result.now ≡ c.args.self.now = ap (map attached_of) c.as_slice.ensures ∙ c.self.view_is in
    let before = was_clean mid new c.end_call.ensures.survives clean in
    let shown = (c.in_ok-mark.ensures.marked (was_clean marked mid c.undo_rows-result.ensures.kept.0.crash before)).1 in
    let failed = subst (λ (db : Database). IfErr r (IsCaused (BatchFails (Writes (IsUndoWrite c.args.self.now (tables_in db))) marked mid))) shown.now_is
    (subst (λ (n : Notes). IfErr r (IsCaused (BatchFails (Writes (IsUndoWrite n (tables_in marked.now))) marked mid))) notes (c.undo_rows-result.ensures.caused before)) in
    caused_so r _ _ (λ why. marked_fails old marked mid c.in_ok-mark.ensures.marked c.mark.ensures.survives c.undo_rows-result.ensures.kept.0 new _ why before c.end_call.ensures.survives) failed

pub returns-clause-within : goal.returns-clause-within
returns-clause-within g c =
    let old = state g.S.Store c.args.transaction.now in
    let marked = state g.S.Store c.mark.new.self in
    let mid = state g.S.Store c.undo_rows-result.new.rows in
    let new = state g.S.Store c.end_call.new.self in
    let r = c.undo_rows-result.result in
    let notes : map attached_of c.as_slice.result.now ≡ c.args.self.now = ap (map attached_of) c.as_slice.ensures ∙ c.self.view_is in
    let keeps = c.undo_rows-result.ensures.kept in
    let inside : HasCleanDisk mid → is_answered r ≡ true → IsTrue mid.in_transaction = λ clean answered.
    (keeps.1 answered clean).inside (c.in_ok-mark.ensures.marked (was_clean marked mid keeps.0.crash clean)).1.mode in
    call_within old marked mid c.in_ok-mark.ensures.marked c.mark.ensures.survives keeps.0 new r (UndoesInto c.args.self.now) IsRowsRefusal c.end_call.ensures.survives
    (λ clean. makes_inside r (λ report. Undoes c.args.self.now (tables_in marked.now) report (tables_in mid.now)) _ _ (λ report undone. undone.rewound) (answered_inside r _ (inside clean)) (subst (λ (n : Notes). IfOk r (λ report. Undoes n (tables_in marked.now) report (tables_in mid.now))) notes (c.undo_rows-result.ensures.undone clean)))
    (λ clean. answered_goes_on r _ (inside clean))
    (λ before db marks clean. subst (λ (b : Bool). EndsCall b before db mid new) c.is_ok.ensures.value (c.in_ok-end_call.ensures.ends before db marks clean))
