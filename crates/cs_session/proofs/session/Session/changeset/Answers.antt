-- `session::Session::changeset`: the clauses `caused`, `made`, `attached` and `leads`.
use Rattle.std.proofs.Common.{◌≡◌, map, sym, ◌∙◌}
use Rattle.sqlite.specs.Held.{state}
use Rattle.cs_store.specs.Laws.{was_clean}
use Rattle.cs_session_notes.specs.Views.{attached_of}
use Rattle.cs_session.proofs.OutcomeLemmas.{begun_state, read_made, read_attached, read_leads}
use Rattle.cs_store.specs.Failing.{BeginFails, Writes}
use Rattle.cs_store.specs.Faults as stores
use Rattle.cs_store.proofs.FailureLemmas.{begin_fails, work_fails}
use Rattle.cs_session_notes.proofs.CauseLemmas.{caused_so, rows_caused_on}
use Rattle.cs_session.proofs.session.Session.changeset.Goals as goal

pub returns-clause-made : goal.returns-clause-made
returns-clause-made g c = λ clean.
    let old = state g.S.Store c.args.store.now in
    let begun = state g.S.Store c.in_ok-batch.batch.store.now in
    let mid = state g.S.Store c.net_changeset.new.rows.store.now in
    let last = state g.S.Store c.drop-batch.new.self.0 in
    let same : c.drop-batch.new.self.0 ≡ c.store-2-1.given.0 = sym (c.store-2-1.given.1 (sym (c.net_changeset.ensures.kept.0 ∙ c.in_ok-batch.ensures.same_reference))) in
    let mid_clean = was_clean mid last c.drop-batch.ensures.survives (rw (same) clean) in
    let shown = (c.in_ok-batch.ensures.begun (c.net_changeset.ensures.was_honest mid_clean)).shown in
    rw (← c.self.view_is, ← c.as_slice.ensures) (read_made c.net_changeset.result begun.now old.now shown.now_is (map attached_of c.as_slice.result.now) (c.net_changeset.ensures.made mid_clean))

pub returns-clause-attached : goal.returns-clause-attached
returns-clause-attached g c = λ clean.
    let old = state g.S.Store c.args.store.now in
    let begun = state g.S.Store c.in_ok-batch.batch.store.now in
    let mid = state g.S.Store c.net_changeset.new.rows.store.now in
    let last = state g.S.Store c.drop-batch.new.self.0 in
    let same : c.drop-batch.new.self.0 ≡ c.store-2-1.given.0 = sym (c.store-2-1.given.1 (sym (c.net_changeset.ensures.kept.0 ∙ c.in_ok-batch.ensures.same_reference))) in
    let mid_clean = was_clean mid last c.drop-batch.ensures.survives (rw (same) clean) in
    let shown = (c.in_ok-batch.ensures.begun (c.net_changeset.ensures.was_honest mid_clean)).shown in
    rw (← c.self.view_is, ← c.as_slice.ensures) (read_attached c.net_changeset.result begun.now old.now shown.now_is (map attached_of c.as_slice.result.now) (c.net_changeset.ensures.attached mid_clean))

pub returns-clause-leads : goal.returns-clause-leads
returns-clause-leads g c = λ clean.
    let old = state g.S.Store c.args.store.now in
    let begun = state g.S.Store c.in_ok-batch.batch.store.now in
    let mid = state g.S.Store c.net_changeset.new.rows.store.now in
    let last = state g.S.Store c.drop-batch.new.self.0 in
    let same : c.drop-batch.new.self.0 ≡ c.store-2-1.given.0 = sym (c.store-2-1.given.1 (sym (c.net_changeset.ensures.kept.0 ∙ c.in_ok-batch.ensures.same_reference))) in
    let mid_clean = was_clean mid last c.drop-batch.ensures.survives (rw (same) clean) in
    let begun_clean = c.net_changeset.ensures.was_honest mid_clean in
    let shown = (c.in_ok-batch.ensures.begun begun_clean).shown in
    let is_state = begun_state old begun c.in_ok-batch.ensures.survives c.in_ok-batch.ensures.begun c.tables_law.ensures begun_clean in
    let notes = rw (← c.as_slice.ensures) at c.self.invariant.0 in
    rw (← c.self.view_is, ← c.as_slice.ensures)
    (read_leads c.net_changeset.result begun.now old.now shown.now_is is_state (map attached_of c.as_slice.result.now) notes (c.net_changeset.ensures.attached mid_clean)
    (c.net_changeset.ensures.made mid_clean))

pub returns-in_err-batch-clause-caused : goal.returns-in_err-batch-clause-caused
returns-in_err-batch-clause-caused g c clean =
    let old = state g.S.Store c.args.store.now in
    let new = state g.S.Store c.begin.follows.lender-at-none in
    let rests = rw c.in_err-batch.was at c.begin.follows.holds-at-none in
    let failed : stores.IsCaused (BeginFails old new) c.in_err-batch.field-0.0 = rests.2 clean in
    rows_caused_on c.from_residual.result _ _ c.in_err-batch.field-0.0 c.from_residual.ensures.1 (begin_fails _ old new) failed

pub returns-clause-caused : goal.returns-clause-caused
returns-clause-caused g c clean =
    let old = state g.S.Store c.args.store.now in
    let begun = state g.S.Store c.in_ok-batch.batch.store.now in
    let mid = state g.S.Store c.net_changeset.new.rows.store.now in
    let last = state g.S.Store c.drop-batch.new.self.0 in
    let same : c.drop-batch.new.self.0 ≡ c.store-2-1.given.0 = sym (c.store-2-1.given.1 (sym (c.net_changeset.ensures.kept.0 ∙ c.in_ok-batch.ensures.same_reference))) in
    let mid_clean = was_clean mid last c.drop-batch.ensures.survives (rw same clean) in
    rw (← same) (caused_so c.net_changeset.result _ _ (work_fails (Writes (λ held write. ⊥)) old begun mid last c.in_ok-batch.ensures.begun c.in_ok-batch.ensures.survives c.net_changeset.ensures.kept.1
    mid_clean c.drop-batch.ensures.survives) (c.net_changeset.ensures.caused mid_clean))
