-- `session::Session::changeset_in_transaction`: the clauses `made`, `attached`, `leads`, `same`, `refused`, `within` and
-- `caused`.
use Rattle.std.proofs.Common.{◌≡◌, Bool, true, inl, IfErr, IsTrue, map, subst, ◌∙◌}
use Rattle.std.proofs.lemmas.Result.{err_from_is_err_and}
use Rattle.sqlite.specs.Effect.{Database}
use Rattle.sqlite.specs.Held.{state}
use Rattle.sqlite.specs.State.{HasCleanDisk}
use Rattle.cs_value.specs.State.{State}
use Rattle.cs_store.specs.Laws.{was_clean}
use Rattle.cs_store.specs.Store.{tables_in}
use Rattle.cs_store.specs.Within.{EndsCall}
use Rattle.cs_store.proofs.WithinLemmas.{call_within, ended_within, leaves_inside, mark_there, marked_fails, release_fails, shown_on, unreleased_within}
use Rattle.cs_session_notes.specs.Changes.{IsRowsRefusal, RefusesChanges, is_answered}
use Rattle.cs_session_notes.specs.Views.{attached_of}
use Rattle.cs_session_notes.proofs.CauseLemmas.{answered_goes_on, answered_inside, caused_so, rows_caused_on}
use Rattle.cs_session.proofs.OutcomeLemmas.{read_attached, read_leads, read_made}
use Rattle.cs_session.proofs.TransactionLemmas.{marked_state, nothing_made, resource_refusal}
use Rattle.cs_session.proofs.session.Session.changeset_in_transaction.Goals as goal

abbrev Left : State → State → Type 0
Left before left = left ≡ before

pub returns-in_err-mark-clause-within : goal.returns-in_err-mark-clause-within
returns-in_err-mark-clause-within g c =
    let p = err_from_is_err_and c.from_residual.result c.from_residual.ensures.1 in
    rw (p.1, p.2) (ended_within _ _ IsRowsRefusal _ _ (λ clean. inl (resource_refusal _ c.in_err-mark.ensures.refused)) c.mark.ensures.survives c.in_err-mark.ensures.undone)

pub returns-in_err-end_call-clause-within : goal.returns-in_err-end_call-clause-within
returns-in_err-end_call-clause-within g c =
    let old = state g.S.Store c.args.transaction.now in
    let marked = state g.S.Store c.mark.new.self in
    let mid = state g.S.Store c.net_changeset-result.new.rows in
    let new = state g.S.Store c.end_call.new.self in
    let p = err_from_is_err_and c.from_residual-in_err-end_call.result c.from_residual-in_err-end_call.ensures.1 in
    rw (p.1, p.2) (unreleased_within old marked mid c.in_ok-mark.ensures.marked c.mark.ensures.survives c.net_changeset-result.ensures.kept.0 new _ (Left (tables_in old.now))
    IsRowsRefusal (resource_refusal _ c.in_err-end_call.ensures.refused) c.end_call.ensures.survives c.in_err-end_call.ensures.undone)

pub returns-in_err-end_call-clause-caused : goal.returns-in_err-end_call-clause-caused
returns-in_err-end_call-clause-caused g c clean =
    let old = state g.S.Store c.args.transaction.now in
    let marked = state g.S.Store c.mark.new.self in
    let mid = state g.S.Store c.net_changeset-result.new.rows in
    let new = state g.S.Store c.end_call.new.self in
    rows_caused_on c.from_residual-in_err-end_call.result _ _ c.in_err-end_call.field-0.0 c.from_residual-in_err-end_call.ensures.1
    (λ why. release_fails old marked mid c.in_ok-mark.ensures.marked c.mark.ensures.survives c.net_changeset-result.ensures.kept.0 new _ why (was_clean mid new c.end_call.ensures.survives clean) c.end_call.ensures.survives.counts)
    (c.in_err-end_call.ensures.caused clean)

pub returns-clause-made : goal.returns-clause-made
returns-clause-made g c clean =
    let old = state g.S.Store c.args.transaction.now in
    let marked = state g.S.Store c.mark.new.self in
    let mid = state g.S.Store c.net_changeset-result.new.rows in
    let before = was_clean mid (state g.S.Store c.end_call.new.self) c.end_call.ensures.survives clean in
    let shown = (c.in_ok-mark.ensures.marked (was_clean marked mid c.net_changeset-result.ensures.kept.0.crash before)).1 in
    rw (← c.self.view_is, ← c.as_slice.ensures) (read_made c.net_changeset-result.result marked.now old.now shown.now_is (map attached_of c.as_slice.result.now) (c.net_changeset-result.ensures.made before))

pub returns-clause-attached : goal.returns-clause-attached
returns-clause-attached g c clean =
    let old = state g.S.Store c.args.transaction.now in
    let marked = state g.S.Store c.mark.new.self in
    let mid = state g.S.Store c.net_changeset-result.new.rows in
    let before = was_clean mid (state g.S.Store c.end_call.new.self) c.end_call.ensures.survives clean in
    let shown = (c.in_ok-mark.ensures.marked (was_clean marked mid c.net_changeset-result.ensures.kept.0.crash before)).1 in
    rw (← c.self.view_is, ← c.as_slice.ensures) (read_attached c.net_changeset-result.result marked.now old.now shown.now_is (map attached_of c.as_slice.result.now) (c.net_changeset-result.ensures.attached before))

pub returns-clause-leads : goal.returns-clause-leads
returns-clause-leads g c clean =
    let old = state g.S.Store c.args.transaction.now in
    let marked = state g.S.Store c.mark.new.self in
    let mid = state g.S.Store c.net_changeset-result.new.rows in
    let before = was_clean mid (state g.S.Store c.end_call.new.self) c.end_call.ensures.survives clean in
    let marked_clean = was_clean marked mid c.net_changeset-result.ensures.kept.0.crash before in
    let shown = (c.in_ok-mark.ensures.marked marked_clean).1 in
    let is_state = marked_state old marked (λ clean. (c.in_ok-mark.ensures.marked clean).1) c.mark.ensures.survives c.store_law.ensures.holds marked_clean in
    let notes = rw (← c.as_slice.ensures) at c.self.invariant.0 in
    rw (← c.self.view_is, ← c.as_slice.ensures)
    (read_leads c.net_changeset-result.result marked.now old.now shown.now_is is_state (map attached_of c.as_slice.result.now) notes (c.net_changeset-result.ensures.attached before)
    (c.net_changeset-result.ensures.made before))

pub returns-clause-same : goal.returns-clause-same
returns-clause-same g c clean =
    let old = state g.S.Store c.args.transaction.now in
    let marked = state g.S.Store c.mark.new.self in
    let mid = state g.S.Store c.net_changeset-result.new.rows in
    let new = state g.S.Store c.end_call.new.self in
    let r = c.net_changeset-result.result in
    let keeps = c.net_changeset-result.ensures.kept in
    let before = was_clean mid new c.end_call.ensures.survives clean in
    let shown = (c.in_ok-mark.ensures.marked (was_clean marked mid keeps.0.crash before)).1 in
    shown_on r (λ (db : Database). db ≡ old.now) old.marks old.now mid new (answered_inside r (IsTrue mid.in_transaction) (λ answered. (keeps.1 answered before).inside shown.mode))
    (subst (λ (b : Bool). EndsCall b old.marks old.now mid new) c.is_ok.ensures.value (c.in_ok-end_call.ensures.ends old.marks old.now (mark_there old marked mid c.in_ok-mark.ensures.marked c.mark.ensures.survives keeps.0 before) clean))
    (answered_inside r (mid.now ≡ old.now) (λ answered. nothing_made (keeps.1 answered before).leads ∙ shown.now_is))

pub returns-clause-refused : goal.returns-clause-refused
returns-clause-refused g c clean =
    let marked = state g.S.Store c.mark.new.self in
    let mid = state g.S.Store c.net_changeset-result.new.rows in
    let before = was_clean mid (state g.S.Store c.end_call.new.self) c.end_call.ensures.survives clean in
    let shown = (c.in_ok-mark.ensures.marked (was_clean marked mid c.net_changeset-result.ensures.kept.0.crash before)).1 in
    rw (← c.self.view_is, ← c.as_slice.ensures)
    (subst (λ (db : Database). IfErr c.net_changeset-result.result (RefusesChanges (tables_in db) (map attached_of c.as_slice.result.now))) shown.now_is (c.net_changeset-result.ensures.refused before))

pub returns-clause-caused : goal.returns-clause-caused
returns-clause-caused g c clean =
    let old = state g.S.Store c.args.transaction.now in
    let marked = state g.S.Store c.mark.new.self in
    let mid = state g.S.Store c.net_changeset-result.new.rows in
    let new = state g.S.Store c.end_call.new.self in
    let before = was_clean mid new c.end_call.ensures.survives clean in
    caused_so c.net_changeset-result.result _ _ (λ why. marked_fails old marked mid c.in_ok-mark.ensures.marked c.mark.ensures.survives c.net_changeset-result.ensures.kept.0 new _ why before c.end_call.ensures.survives)
    (c.net_changeset-result.ensures.caused before)

pub returns-clause-within : goal.returns-clause-within
returns-clause-within g c =
    let old = state g.S.Store c.args.transaction.now in
    let marked = state g.S.Store c.mark.new.self in
    let mid = state g.S.Store c.net_changeset-result.new.rows in
    let new = state g.S.Store c.end_call.new.self in
    let r = c.net_changeset-result.result in
    let keeps = c.net_changeset-result.ensures.kept in
    let inside : HasCleanDisk mid → is_answered r ≡ true → IsTrue mid.in_transaction = λ clean answered.
    (keeps.1 answered clean).inside (c.in_ok-mark.ensures.marked (was_clean marked mid keeps.0.crash clean)).1.mode in
    call_within old marked mid c.in_ok-mark.ensures.marked c.mark.ensures.survives keeps.0 new r Left IsRowsRefusal c.end_call.ensures.survives
    (λ clean. leaves_inside r _ _ _ (λ made. made) (answered_inside r _ (inside clean)) (c.net_changeset-result.ensures.same clean))
    (λ clean. answered_goes_on r _ (inside clean))
    (λ before db marks clean. subst (λ (b : Bool). EndsCall b before db mid new) c.is_ok.ensures.value (c.in_ok-end_call.ensures.ends before db marks clean))
