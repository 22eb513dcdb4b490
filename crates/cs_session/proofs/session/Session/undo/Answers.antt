-- `session::Session::undo`: what `undo_rows` asks for, the clauses `undone`, `refused`, `caused`, `transacts`.
use Rattle.std.proofs.Common.{◌≡◌, ap, map, refl, subst, sym, ◌∙◌}
use Rattle.std.proofs.lemmas.Result.{err_from_is_err_and}
use Rattle.sqlite.specs.Held.{state}
use Rattle.sqlite.specs.State.{HasCleanDisk}
use Rattle.cs_store.specs.Laws.{was_clean}
use Rattle.cs_store.specs.Store.{tables_in}
use Rattle.cs_store.proofs.CrashLemmas.{begun_tables, made_tables}
use Rattle.cs_store.proofs.TransactLemmas.{unbegun_transacts, dropped_transacts, uncommitted_transacts, committed_transacts}
use Rattle.cs_session.specs.Undoing.{IsUndoWrite, Undoes, UndoesInto}
use Rattle.cs_session_notes.specs.Views.{attached_of}
use Rattle.cs_session.proofs.OutcomeLemmas.{begun_state}
use Rattle.cs_store.specs.Failing.{BatchFails, BeginFails, Writes}
use Rattle.cs_store.specs.Faults as stores
use Rattle.cs_store.proofs.FailureLemmas.{begin_fails, commit_fails, work_fails}
use Rattle.cs_session_notes.proofs.CauseLemmas.{caused_on, rows_caused_on}
use Rattle.cs_value.specs.State.{State}
use Rattle.cs_session_notes.specs.Changes.{IsCaused, RefusesChanges}
use Rattle.cs_session.proofs.session.Session.undo.Goals as goal

pub undo_rows-requires-clause-state : goal.undo_rows-requires-clause-state
undo_rows-requires-clause-state g c =
    begun_state (state g.S.Store c.args.store.now) (state g.S.Store c.in_ok-batch.batch.store.now) c.in_ok-batch.ensures.survives c.in_ok-batch.ensures.begun c.tables_law.ensures

pub returns-in_err-batch-clause-transacts : goal.returns-in_err-batch-clause-transacts
returns-in_err-batch-clause-transacts g c =
    let old = state g.S.Store c.args.store.now in
    let new = state g.S.Store c.begin.follows.lender-at-none in
    let rests = rw c.in_err-batch.was at c.begin.follows.holds-at-none in
    let p = err_from_is_err_and c.from_residual.result c.from_residual.ensures.1 in
    rw p.1 (unbegun_transacts g.S.Store g.met.S.Store.settled g.met.S.Store.stays c.args.store.now c.begin.follows.lender-at-none c.crash_law.ensures _ (UndoesInto c.args.self.now (tables_in old.now)) rests.0 rests.1)

pub returns-in_err-report-clause-transacts : goal.returns-in_err-report-clause-transacts
returns-in_err-report-clause-transacts g c =
    let old = state g.S.Store c.args.store.now in
    let begun = state g.S.Store c.in_ok-batch.batch.store.now in
    let mid = state g.S.Store c.undo_rows.new.rows.store.now in
    let same : c.drop-batch.new.self.0 ≡ c.store-in_err-report-1.given.0 = sym (c.store-in_err-report-1.given.1 (sym (c.undo_rows.ensures.kept.0 ∙ c.in_ok-batch.ensures.same_reference))) in
    let p = err_from_is_err_and c.from_residual-in_err-report.result c.from_residual-in_err-report.ensures.1 in
    rw (p.1, ← same) (dropped_transacts g.S.Store g.met.S.Store.settled g.met.S.Store.stays c.args.store.now c.drop-batch.new.self.0 c.crash_law.ensures begun mid c.in_ok-batch.ensures.begun c.in_ok-batch.ensures.survives c.undo_rows.ensures.kept.1
    _ (UndoesInto c.args.self.now (tables_in old.now)) c.drop-batch.ensures.survives c.drop-batch.ensures.undone)

pub returns-in_err-commit-clause-transacts : goal.returns-in_err-commit-clause-transacts
returns-in_err-commit-clause-transacts g c =
    let begun = state g.S.Store c.in_ok-batch.batch.store.now in
    let mid = state g.S.Store c.undo_rows.new.rows.store.now in
    let same : c.commit.new.self.0 ≡ c.store-2-1.given.0 = sym (c.store-2-1.given.1 (sym (c.undo_rows.ensures.kept.0 ∙ c.in_ok-batch.ensures.same_reference))) in
    let notes : map attached_of c.as_slice.result.now ≡ c.args.self.now = ap (map attached_of) c.as_slice.ensures ∙ c.self.view_is in
    let p = err_from_is_err_and c.from_residual-in_err-commit.result c.from_residual-in_err-commit.ensures.1 in
    rw (p.1, ← same) (uncommitted_transacts g.S.Store g.met.S.Store.settled g.met.S.Store.stays c.args.store.now c.commit.new.self.0 c.crash_law.ensures begun mid c.in_ok-batch.ensures.begun c.in_ok-batch.ensures.survives c.undo_rows.ensures.kept.1
    (UndoesInto c.args.self.now) (λ clean. rw notes at ((c.in_ok-report.ensures.undone clean).rewound)) c.commit.ensures.atomic.survives _ c.in_err-commit.ensures.undone)

pub returns-clause-transacts : goal.returns-clause-transacts
returns-clause-transacts g c =
    let begun = state g.S.Store c.in_ok-batch.batch.store.now in
    let mid = state g.S.Store c.undo_rows.new.rows.store.now in
    let same : c.commit.new.self.0 ≡ c.store-2-1.given.0 = sym (c.store-2-1.given.1 (sym (c.undo_rows.ensures.kept.0 ∙ c.in_ok-batch.ensures.same_reference))) in
    let notes : map attached_of c.as_slice.result.now ≡ c.args.self.now = ap (map attached_of) c.as_slice.ensures ∙ c.self.view_is in
    rw (← same) (committed_transacts g.S.Store g.met.S.Store.settled g.met.S.Store.stays c.args.store.now c.commit.new.self.0 c.crash_law.ensures begun mid c.in_ok-batch.ensures.begun c.in_ok-batch.ensures.survives c.undo_rows.ensures.kept.1
    (UndoesInto c.args.self.now) (λ clean. rw notes at ((c.in_ok-report.ensures.undone clean).rewound)) c.commit.ensures.atomic.survives _ c.in_ok-commit.ensures.committed c.in_ok-commit.ensures.others c.in_ok-commit.ensures.left)

pub returns-clause-undone : goal.returns-clause-undone
returns-clause-undone g c =
    let old = state g.S.Store c.args.store.now in
    let begun = state g.S.Store c.in_ok-batch.batch.store.now in
    let mid = state g.S.Store c.undo_rows.new.rows.store.now in
    let last = state g.S.Store c.commit.new.self.0 in
    let same : c.commit.new.self.0 ≡ c.store-2-1.given.0 = sym (c.store-2-1.given.1 (sym (c.undo_rows.ensures.kept.0 ∙ c.in_ok-batch.ensures.same_reference))) in
    let notes : map attached_of c.as_slice.result.now ≡ c.args.self.now = ap (map attached_of) c.as_slice.ensures ∙ c.self.view_is in
    let undone = rw notes at c.in_ok-report.ensures.undone in
    rw (← same) (made_tables old begun mid last (λ before after. Undoes c.args.self.now before c.in_ok-report.report after)
    c.in_ok-batch.ensures.begun c.undo_rows.ensures.kept.1 c.commit.ensures.atomic.survives undone c.in_ok-commit.ensures.committed)

pub returns-in_err-batch-clause-caused : goal.returns-in_err-batch-clause-caused
returns-in_err-batch-clause-caused g c clean =
    let old = state g.S.Store c.args.store.now in
    let new = state g.S.Store c.begin.follows.lender-at-none in
    let rests = rw c.in_err-batch.was at c.begin.follows.holds-at-none in
    let failed : stores.IsCaused (BeginFails old new) c.in_err-batch.field-0.0 = rests.2 clean in
    rows_caused_on c.from_residual.result _ _ c.in_err-batch.field-0.0 c.from_residual.ensures.1 (begin_fails _ old new) failed

pub returns-in_err-report-clause-caused : goal.returns-in_err-report-clause-caused
returns-in_err-report-clause-caused g c clean =
    let old = state g.S.Store c.args.store.now in
    let begun = state g.S.Store c.in_ok-batch.batch.store.now in
    let mid = state g.S.Store c.undo_rows.new.rows.store.now in
    let last = state g.S.Store c.drop-batch.new.self.0 in
    let same : c.drop-batch.new.self.0 ≡ c.store-in_err-report-1.given.0 = sym (c.store-in_err-report-1.given.1 (sym (c.undo_rows.ensures.kept.0 ∙ c.in_ok-batch.ensures.same_reference))) in
    let last_clean : HasCleanDisk last = rw same clean in
    let keeps = c.undo_rows.ensures.kept.1 in
    let mid_clean = was_clean mid last c.drop-batch.ensures.survives last_clean in
    let tables = begun_tables old begun mid c.in_ok-batch.ensures.begun keeps mid_clean in
    let notes : map attached_of c.as_slice.result.now ≡ c.args.self.now = ap (map attached_of) c.as_slice.ensures ∙ c.self.view_is in
    let failed = subst (λ (s : State). IsCaused (BatchFails (Writes (IsUndoWrite (map attached_of c.as_slice.result.now) s)) begun mid) c.in_err-report.field-0.0) tables
    (c.in_err-report.ensures.caused mid_clean) in
    rw (← same) (caused_on c.from_residual-in_err-report.result _ _ c.in_err-report.field-0.0 c.from_residual-in_err-report.ensures.1
    (work_fails _ old begun mid last c.in_ok-batch.ensures.begun c.in_ok-batch.ensures.survives keeps mid_clean c.drop-batch.ensures.survives) (rw notes at failed))

pub returns-in_err-commit-clause-caused : goal.returns-in_err-commit-clause-caused
returns-in_err-commit-clause-caused g c clean =
    let old = state g.S.Store c.args.store.now in
    let begun = state g.S.Store c.in_ok-batch.batch.store.now in
    let mid = state g.S.Store c.undo_rows.new.rows.store.now in
    let last = state g.S.Store c.commit.new.self.0 in
    let same : c.commit.new.self.0 ≡ c.store-2-1.given.0 = sym (c.store-2-1.given.1 (sym (c.undo_rows.ensures.kept.0 ∙ c.in_ok-batch.ensures.same_reference))) in
    let last_clean : HasCleanDisk last = rw same clean in
    let kept = c.in_ok-report.ensures.kept in
    let survives = c.commit.ensures.atomic.survives in
    let mid_clean = was_clean mid last survives last_clean in
    rw (← same) (rows_caused_on c.from_residual-in_err-commit.result _ _ c.in_err-commit.field-0.0 c.from_residual-in_err-commit.ensures.1
    (commit_fails _ old begun mid last c.in_ok-batch.ensures.begun c.in_ok-batch.ensures.survives kept.1 mid_clean survives.counts (kept.2 refl mid_clean).inside) (c.in_err-commit.ensures.caused last_clean))

pub returns-in_err-report-clause-refused : goal.returns-in_err-report-clause-refused
returns-in_err-report-clause-refused g c clean =
    let old = state g.S.Store c.args.store.now in
    let begun = state g.S.Store c.in_ok-batch.batch.store.now in
    let mid = state g.S.Store c.undo_rows.new.rows.store.now in
    let last = state g.S.Store c.drop-batch.new.self.0 in
    let same : c.drop-batch.new.self.0 ≡ c.store-in_err-report-1.given.0 = sym (c.store-in_err-report-1.given.1 (sym (c.undo_rows.ensures.kept.0 ∙ c.in_ok-batch.ensures.same_reference))) in
    let last_clean : HasCleanDisk last = rw same clean in
    let keeps = c.undo_rows.ensures.kept.1 in
    let mid_clean = was_clean mid last c.drop-batch.ensures.survives last_clean in
    let tables = begun_tables old begun mid c.in_ok-batch.ensures.begun keeps mid_clean in
    let notes : map attached_of c.as_slice.result.now ≡ c.args.self.now = ap (map attached_of) c.as_slice.ensures ∙ c.self.view_is in
    let refused = subst (λ (s : State). RefusesChanges s (map attached_of c.as_slice.result.now) c.in_err-report.field-0.0) tables (c.in_err-report.ensures.refused mid_clean) in
    let p = err_from_is_err_and c.from_residual-in_err-report.result c.from_residual-in_err-report.ensures.1 in
    rw (p.1, p.2) (rw notes at refused)
