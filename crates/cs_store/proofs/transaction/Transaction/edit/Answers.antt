-- `transaction::Transaction::edit`: what it ensures.
use Rattle.std.proofs.Common.{◌≡◌, ◌⊎◌, IsTrue, Ok, Err, IfErr, Vec, Global, Bool, true, inl, inr, subst}
use Rattle.std.specs.Prelude.{IfOk, map}
use Rattle.std.proofs.lemmas.Result.{err_from_is_err_and}
use Rattle.sqlite.specs.Effect.{Database}
use Rattle.sqlite.specs.Held.{state}
use Rattle.sqlite.specs.State.{HasCleanDisk}
use Rattle.cs_rows.specs.declared.edit.Written.{Written}
use Rattle.cs_rows.specs.Editing.{EditsInto, IsWriteOf, edited, written_of}
use Rattle.cs_rows.specs.Faults.{IsCaused, IsReadRefusal, IsResource, is_answered}
use Rattle.cs_rows.proofs.CauseLemmas.{caused_on, caused_so}
use Rattle.cs_store_tables.specs.Failing.{BatchFails, Writes}
use Rattle.cs_store_tables.specs.Laws.{was_clean}
use Rattle.cs_store_tables.specs.Store.{tables_in}
use Rattle.cs_store.specs.Within.{EndsCall}
use Rattle.cs_store.proofs.FailureLemmas.{refused_on, unaccepted}
use Rattle.cs_store.proofs.WithinLemmas.{answered_goes_on, answered_inside, call_within, ended_within, makes_inside, mark_there, marked_fails, release_fails, shown_holds, unreleased_within}
use Rattle.cs_store.proofs.transaction.Transaction.edit.Goals as goal

pub returns-in_err-mark-clause-within : goal.returns-in_err-mark-clause-within
returns-in_err-mark-clause-within g c =
    let p = err_from_is_err_and c.from_residual.result c.from_residual.ensures.1 in
    rw (p.1, p.2) (ended_within _ _ IsReadRefusal _ _ (λ clean. inl (inr c.in_err-mark.ensures.refused)) c.mark.ensures.survives c.in_err-mark.ensures.undone)

pub returns-in_err-end_call-clause-within : goal.returns-in_err-end_call-clause-within
returns-in_err-end_call-clause-within g c =
    let old = state g.S.Store c.args.self.now in
    let marked = state g.S.Store c.mark.new.self in
    let mid = state g.S.Store c.edit_in-result.new.rows in
    let new = state g.S.Store c.end_call.new.self in
    let p = err_from_is_err_and c.from_residual-in_err-end_call.result c.from_residual-in_err-end_call.ensures.1 in
    rw (p.1, p.2) (unreleased_within old marked mid c.in_ok-mark.ensures.marked c.mark.ensures.survives c.edit_in-result.ensures.kept.0 new _ (EditsInto (tables_in old.now) c.args.edit.now)
    IsReadRefusal (inr c.in_err-end_call.ensures.refused) c.end_call.ensures.survives c.in_err-end_call.ensures.undone)

pub returns-in_err-end_call-clause-caused : goal.returns-in_err-end_call-clause-caused
returns-in_err-end_call-clause-caused g c clean =
    let old = state g.S.Store c.args.self.now in
    let marked = state g.S.Store c.mark.new.self in
    let mid = state g.S.Store c.edit_in-result.new.rows in
    let new = state g.S.Store c.end_call.new.self in
    caused_on c.from_residual-in_err-end_call.result _ _ c.in_err-end_call.field-0.0 c.from_residual-in_err-end_call.ensures.1
    (λ why. release_fails old marked mid c.in_ok-mark.ensures.marked c.mark.ensures.survives c.edit_in-result.ensures.kept.0 new _ why (was_clean mid new c.end_call.ensures.survives clean) c.end_call.ensures.survives.counts)
    (c.in_err-end_call.ensures.caused clean)

pub returns-clause-edited : goal.returns-clause-edited
returns-clause-edited g c clean =
    let old = state g.S.Store c.args.self.now in
    let marked = state g.S.Store c.mark.new.self in
    let mid = state g.S.Store c.edit_in-result.new.rows in
    let new = state g.S.Store c.end_call.new.self in
    let r = c.edit_in-result.result in
    let keeps = c.edit_in-result.ensures.kept in
    let before = was_clean mid new c.end_call.ensures.survives clean in
    let shown = (c.in_ok-mark.ensures.marked (was_clean marked mid keeps.0.crash before)).1 in
    let Makes : Database → Vec Written Global → Database → Type 0 = λ one w two. edited (tables_in one) c.args.edit.now ≡ Ok (record { state = tables_in two; written = map written_of w.items }) in
    shown_holds r (Makes old.now) old.marks old.now mid new (answered_inside r (IsTrue mid.in_transaction) (λ answered. (keeps.1 answered before).inside shown.mode))
    (subst (λ (b : Bool). EndsCall b old.marks old.now mid new) c.is_ok.ensures.value (c.in_ok-end_call.ensures.ends old.marks old.now (mark_there old marked mid c.in_ok-mark.ensures.marked c.mark.ensures.survives keeps.0 before) clean))
    (subst (λ (db : Database). IfOk r (λ w. Makes db w mid.now)) shown.now_is (c.edit_in-result.ensures.edited before))

pub returns-clause-refused : goal.returns-clause-refused
returns-clause-refused g c clean =
    let marked = state g.S.Store c.mark.new.self in
    let mid = state g.S.Store c.edit_in-result.new.rows in
    let new = state g.S.Store c.end_call.new.self in
    let before = was_clean mid new c.end_call.ensures.survives clean in
    let shown = (c.in_ok-mark.ensures.marked (was_clean marked mid c.edit_in-result.ensures.kept.0.crash before)).1 in
    subst (λ (db : Database). IfErr c.edit_in-result.result (λ e. (edited (tables_in db) c.args.edit.now ≡ Err e) ⊎ IsResource e)) shown.now_is (c.edit_in-result.ensures.refused before)

pub returns-clause-caused : goal.returns-clause-caused
returns-clause-caused g c clean =
    let old = state g.S.Store c.args.self.now in
    let marked = state g.S.Store c.mark.new.self in
    let mid = state g.S.Store c.edit_in-result.new.rows in
    let new = state g.S.Store c.end_call.new.self in
    let r = c.edit_in-result.result in
    let before = was_clean mid new c.end_call.ensures.survives clean in
    let shown = (c.in_ok-mark.ensures.marked (was_clean marked mid c.edit_in-result.ensures.kept.0.crash before)).1 in
    let failed = subst (λ (db : Database). IfErr r (IsCaused (BatchFails (Writes (IsWriteOf (tables_in db) c.args.edit.now)) marked mid))) shown.now_is (c.edit_in-result.ensures.caused before) in
    caused_so r _ _ (λ why. marked_fails old marked mid c.in_ok-mark.ensures.marked c.mark.ensures.survives c.edit_in-result.ensures.kept.0 new _ why before c.end_call.ensures.survives) failed

pub returns-clause-within : goal.returns-clause-within
returns-clause-within g c =
    let old = state g.S.Store c.args.self.now in
    let marked = state g.S.Store c.mark.new.self in
    let mid = state g.S.Store c.edit_in-result.new.rows in
    let new = state g.S.Store c.end_call.new.self in
    let r = c.edit_in-result.result in
    let keeps = c.edit_in-result.ensures.kept in
    let inside : HasCleanDisk mid → is_answered r ≡ true → IsTrue mid.in_transaction = λ clean answered.
    (keeps.1 answered clean).inside (c.in_ok-mark.ensures.marked (was_clean marked mid keeps.0.crash clean)).1.mode in
    call_within old marked mid c.in_ok-mark.ensures.marked c.mark.ensures.survives keeps.0 new r (λ before. EditsInto before c.args.edit.now) IsReadRefusal c.end_call.ensures.survives
    (λ clean. makes_inside r _ _ _ (λ w made. (map written_of w.items, made)) (answered_inside r _ (inside clean)) (c.edit_in-result.ensures.edited clean))
    (λ clean. answered_goes_on r _ (inside clean))
    (λ before db marks clean. subst (λ (b : Bool). EndsCall b before db mid new) c.is_ok.ensures.value (c.in_ok-end_call.ensures.ends before db marks clean))

pub returns-in_err-mark-clause-edited : goal.returns-in_err-mark-clause-edited
returns-in_err-mark-clause-edited g c clean = unaccepted c.from_residual.result _ _ c.from_residual.ensures.1

pub returns-in_err-mark-clause-refused : goal.returns-in_err-mark-clause-refused
returns-in_err-mark-clause-refused g c clean = refused_on c.from_residual.result _ c.in_err-mark.field-0.0 c.from_residual.ensures.1 (inr c.in_err-mark.ensures.refused)

pub returns-in_err-mark-clause-named : goal.returns-in_err-mark-clause-named
returns-in_err-mark-clause-named g c = refused_on c.from_residual.result _ c.in_err-mark.field-0.0 c.from_residual.ensures.1 (inr (inr (inr (inr (inr (inr (inr c.in_err-mark.ensures.refused)))))))

pub returns-in_err-mark-clause-over : goal.returns-in_err-mark-clause-over
returns-in_err-mark-clause-over g c clean outside = refused_on c.from_residual.result _ c.in_err-mark.field-0.0 c.from_residual.ensures.1 (c.in_err-mark.ensures.refused)

pub returns-in_err-end_call-clause-edited : goal.returns-in_err-end_call-clause-edited
returns-in_err-end_call-clause-edited g c clean = unaccepted c.from_residual-in_err-end_call.result _ _ c.from_residual-in_err-end_call.ensures.1

pub returns-in_err-end_call-clause-refused : goal.returns-in_err-end_call-clause-refused
returns-in_err-end_call-clause-refused g c clean = refused_on c.from_residual-in_err-end_call.result _ c.in_err-end_call.field-0.0 c.from_residual-in_err-end_call.ensures.1 (inr c.in_err-end_call.ensures.refused)

pub returns-in_err-end_call-clause-named : goal.returns-in_err-end_call-clause-named
returns-in_err-end_call-clause-named g c = refused_on c.from_residual-in_err-end_call.result _ c.in_err-end_call.field-0.0 c.from_residual-in_err-end_call.ensures.1 (inr (inr (inr (inr (inr (inr (inr c.in_err-end_call.ensures.refused)))))))

pub returns-in_err-end_call-clause-over : goal.returns-in_err-end_call-clause-over
returns-in_err-end_call-clause-over g c clean outside = refused_on c.from_residual-in_err-end_call.result _ c.in_err-end_call.field-0.0 c.from_residual-in_err-end_call.ensures.1 (c.in_err-end_call.ensures.refused)
