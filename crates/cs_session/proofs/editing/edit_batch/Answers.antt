-- `editing::edit_batch`: what `edit_rows` asks for, the clauses `recorded`, `refused`, `named`, `caused`,
-- `transacts`.
use Rattle.std.proofs.Common.{◌≡◌, rules, map, refl, subst, sym, ◌∙◌}
use Rattle.std.proofs.lemmas.Result.{err_from_is_err_and}
use Rattle.sqlite.specs.Held.{state}
use Rattle.sqlite.specs.State.{HasCleanDisk}
use Rattle.cs_store.specs.Editing.{EditsInto}
use Rattle.cs_store.specs.Laws.{was_clean}
use Rattle.cs_store.specs.Store.{tables_in}
use Rattle.cs_store.proofs.CrashLemmas.{begun_tables, made_tables}
use Rattle.cs_store.proofs.TransactLemmas.{unbegun_transacts, dropped_transacts, uncommitted_transacts, committed_transacts}
use Rattle.cs_session.proofs.OutcomeLemmas.{begun_state}
use Rattle.cs_store.specs.Failing.{BatchFails, BeginFails, Writes}
use Rattle.cs_store.specs.Faults as stores
use Rattle.cs_store.proofs.FailureLemmas.{begin_fails, commit_fails, work_fails}
use Rattle.cs_session_notes.proofs.CauseLemmas.{caused_on, rows_caused_on}
use Rattle.cs_value.specs.State.{State}
use Rattle.cs_rows.specs.Editing.{IsWriteOf}
use Rattle.cs_session_notes.specs.Changes.{IsCaused}
use Rattle.cs_session.specs.Recording.{Records, RefusesEdit}
use Rattle.cs_session_notes.specs.Views.{attached_of}
use Rattle.cs_session.proofs.editing.edit_batch.Goals as goal

pub edit_rows-requires-clause-state : goal.edit_rows-requires-clause-state
edit_rows-requires-clause-state g c =
    begun_state (state g.S.Store c.args.store.now) (state g.S.Store c.in_ok-batch.batch.store.now) c.in_ok-batch.ensures.survives c.in_ok-batch.ensures.begun c.tables_law.ensures

pub returns-in_err-batch-clause-transacts : goal.returns-in_err-batch-clause-transacts
returns-in_err-batch-clause-transacts g c =
    let old = state g.S.Store c.args.store.now in
    let new = state g.S.Store c.begin.follows.lender-at-none in
    let rests = rw c.in_err-batch.was at c.begin.follows.holds-at-none in
    let p = err_from_is_err_and c.from_residual.result c.from_residual.ensures.1 in
    rw p.1 (unbegun_transacts g.S.Store g.met.S.Store.settled g.met.S.Store.stays c.args.store.now c.begin.follows.lender-at-none c.crash_law.ensures _ (EditsInto (tables_in old.now) c.args.edit.now) rests.0 rests.1)

pub returns-in_err-edit_rows-clause-transacts : goal.returns-in_err-edit_rows-clause-transacts
returns-in_err-edit_rows-clause-transacts g c =
    let old = state g.S.Store c.args.store.now in
    let begun = state g.S.Store c.in_ok-batch.batch.store.now in
    let mid = state g.S.Store c.edit_rows.new.rows.store.now in
    let same : c.drop-batch.new.self.0 ≡ c.store-in_err-edit_rows-1.given.0 = sym (c.store-in_err-edit_rows-1.given.1 (sym (c.edit_rows.ensures.kept.0 ∙ c.in_ok-batch.ensures.same_reference))) in
    let p = err_from_is_err_and c.from_residual-in_err-edit_rows.result c.from_residual-in_err-edit_rows.ensures.1 in
    rw (p.1, ← same) (dropped_transacts g.S.Store g.met.S.Store.settled g.met.S.Store.stays c.args.store.now c.drop-batch.new.self.0 c.crash_law.ensures begun mid c.in_ok-batch.ensures.begun c.in_ok-batch.ensures.survives c.edit_rows.ensures.kept.1
    _ (EditsInto (tables_in old.now) c.args.edit.now) c.drop-batch.ensures.survives c.drop-batch.ensures.undone)

pub returns-in_err-commit-clause-transacts : goal.returns-in_err-commit-clause-transacts
returns-in_err-commit-clause-transacts g c =
    let begun = state g.S.Store c.in_ok-batch.batch.store.now in
    let mid = state g.S.Store c.edit_rows.new.rows.store.now in
    let same : c.commit.new.self.0 ≡ c.store-2-1.given.0 = sym (c.store-2-1.given.1 (sym (c.edit_rows.ensures.kept.0 ∙ c.in_ok-batch.ensures.same_reference))) in
    let p = err_from_is_err_and c.from_residual-in_err-commit.result c.from_residual-in_err-commit.ensures.1 in
    rw (p.1, ← same) (uncommitted_transacts g.S.Store g.met.S.Store.settled g.met.S.Store.stays c.args.store.now c.commit.new.self.0 c.crash_law.ensures begun mid c.in_ok-batch.ensures.begun c.in_ok-batch.ensures.survives c.edit_rows.ensures.kept.1
    (λ before. EditsInto before c.args.edit.now) (λ clean. let done = c.in_ok-edit_rows.ensures.recorded clean in (done.written, done.edited)) c.commit.ensures.atomic.survives _ c.in_err-commit.ensures.undone)

pub returns-clause-transacts : goal.returns-clause-transacts
returns-clause-transacts g c =
    let begun = state g.S.Store c.in_ok-batch.batch.store.now in
    let mid = state g.S.Store c.edit_rows.new.rows.store.now in
    let same : c.commit.new.self.0 ≡ c.store-2-1.given.0 = sym (c.store-2-1.given.1 (sym (c.edit_rows.ensures.kept.0 ∙ c.in_ok-batch.ensures.same_reference))) in
    rw (← same) (committed_transacts g.S.Store g.met.S.Store.settled g.met.S.Store.stays c.args.store.now c.commit.new.self.0 c.crash_law.ensures begun mid c.in_ok-batch.ensures.begun c.in_ok-batch.ensures.survives c.edit_rows.ensures.kept.1
    (λ before. EditsInto before c.args.edit.now) (λ clean. let done = c.in_ok-edit_rows.ensures.recorded clean in (done.written, done.edited)) c.commit.ensures.atomic.survives _ c.in_ok-commit.ensures.committed c.in_ok-commit.ensures.others c.in_ok-commit.ensures.left)

pub returns-clause-recorded : goal.returns-clause-recorded
returns-clause-recorded g c =
    let old = state g.S.Store c.args.store.now in
    let begun = state g.S.Store c.in_ok-batch.batch.store.now in
    let mid = state g.S.Store c.edit_rows.new.rows.store.now in
    let last = state g.S.Store c.commit.new.self.0 in
    let same : c.commit.new.self.0 ≡ c.store-2-1.given.0 = sym (c.store-2-1.given.1 (sym (c.edit_rows.ensures.kept.0 ∙ c.in_ok-batch.ensures.same_reference))) in
    rw (← same) (made_tables old begun mid last (λ before after. Records before c.args.edit.now (map attached_of c.args.tables.now) after (map attached_of c.edit_rows.new.tables))
    c.in_ok-batch.ensures.begun c.edit_rows.ensures.kept.1 c.commit.ensures.atomic.survives c.in_ok-edit_rows.ensures.recorded c.in_ok-commit.ensures.committed)

pub returns-in_err-batch-clause-caused : goal.returns-in_err-batch-clause-caused
returns-in_err-batch-clause-caused g c clean =
    let old = state g.S.Store c.args.store.now in
    let new = state g.S.Store c.begin.follows.lender-at-none in
    let rests = rw c.in_err-batch.was at c.begin.follows.holds-at-none in
    let failed : stores.IsCaused (BeginFails old new) c.in_err-batch.field-0.0 = rests.2 clean in
    rows_caused_on c.from_residual.result _ _ c.in_err-batch.field-0.0 c.from_residual.ensures.1 (begin_fails _ old new) failed

pub returns-in_err-edit_rows-clause-caused : goal.returns-in_err-edit_rows-clause-caused
returns-in_err-edit_rows-clause-caused g c clean =
    let old = state g.S.Store c.args.store.now in
    let begun = state g.S.Store c.in_ok-batch.batch.store.now in
    let mid = state g.S.Store c.edit_rows.new.rows.store.now in
    let last = state g.S.Store c.drop-batch.new.self.0 in
    let same : c.drop-batch.new.self.0 ≡ c.store-in_err-edit_rows-1.given.0 = sym (c.store-in_err-edit_rows-1.given.1 (sym (c.edit_rows.ensures.kept.0 ∙ c.in_ok-batch.ensures.same_reference))) in
    let last_clean : HasCleanDisk last = rw same clean in
    let keeps = c.edit_rows.ensures.kept.1 in
    let mid_clean = was_clean mid last c.drop-batch.ensures.survives last_clean in
    let tables = begun_tables old begun mid c.in_ok-batch.ensures.begun keeps mid_clean in
    let failed = subst (λ (s : State). IsCaused (BatchFails (Writes (IsWriteOf s c.args.edit.now)) begun mid) c.in_err-edit_rows.field-0.0) tables (c.in_err-edit_rows.ensures.caused mid_clean) in
    rw (← same) (caused_on c.from_residual-in_err-edit_rows.result _ _ c.in_err-edit_rows.field-0.0 c.from_residual-in_err-edit_rows.ensures.1
    (work_fails _ old begun mid last c.in_ok-batch.ensures.begun c.in_ok-batch.ensures.survives keeps mid_clean c.drop-batch.ensures.survives) failed)

pub returns-in_err-edit_rows-clause-refused : goal.returns-in_err-edit_rows-clause-refused
returns-in_err-edit_rows-clause-refused g c clean =
    let old = state g.S.Store c.args.store.now in
    let begun = state g.S.Store c.in_ok-batch.batch.store.now in
    let mid = state g.S.Store c.edit_rows.new.rows.store.now in
    let last = state g.S.Store c.drop-batch.new.self.0 in
    let same : c.drop-batch.new.self.0 ≡ c.store-in_err-edit_rows-1.given.0 = sym (c.store-in_err-edit_rows-1.given.1 (sym (c.edit_rows.ensures.kept.0 ∙ c.in_ok-batch.ensures.same_reference))) in
    let mid_clean = was_clean mid last c.drop-batch.ensures.survives (rw same clean) in
    let tables = begun_tables old begun mid c.in_ok-batch.ensures.begun c.edit_rows.ensures.kept.1 mid_clean in
    let p = err_from_is_err_and c.from_residual-in_err-edit_rows.result c.from_residual-in_err-edit_rows.ensures.1 in
    rw (p.1, p.2) (subst (λ (s : State). RefusesEdit s c.args.edit.now (map attached_of c.args.tables.now) c.in_err-edit_rows.field-0.0) tables (c.in_err-edit_rows.ensures.refused mid_clean))

pub returns-in_err-commit-clause-caused : goal.returns-in_err-commit-clause-caused
returns-in_err-commit-clause-caused g c clean =
    let old = state g.S.Store c.args.store.now in
    let begun = state g.S.Store c.in_ok-batch.batch.store.now in
    let mid = state g.S.Store c.edit_rows.new.rows.store.now in
    let last = state g.S.Store c.commit.new.self.0 in
    let same : c.commit.new.self.0 ≡ c.store-2-1.given.0 = sym (c.store-2-1.given.1 (sym (c.edit_rows.ensures.kept.0 ∙ c.in_ok-batch.ensures.same_reference))) in
    let last_clean : HasCleanDisk last = rw same clean in
    let kept = c.in_ok-edit_rows.ensures.kept in
    let survives = c.commit.ensures.atomic.survives in
    let mid_clean = was_clean mid last survives last_clean in
    rw (← same) (rows_caused_on c.from_residual-in_err-commit.result _ _ c.in_err-commit.field-0.0 c.from_residual-in_err-commit.ensures.1
    (commit_fails _ old begun mid last c.in_ok-batch.ensures.begun c.in_ok-batch.ensures.survives kept.1 mid_clean survives.counts (kept.2 refl mid_clean).inside) (c.in_err-commit.ensures.caused last_clean))

pub returns-in_err-commit-clause-named : goal.returns-in_err-commit-clause-named
returns-in_err-commit-clause-named g c =
    let p = err_from_is_err_and c.from_residual-in_err-commit.result c.from_residual-in_err-commit.ensures.1 in
    rw p.1 (search rules)
