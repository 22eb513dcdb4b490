-- `store::Store::edit`: what it ensures.
use Rattle.std.proofs.Common.{◌≡◌, ◌⊎◌, inr, sym, ◌∙◌}
use Rattle.std.specs.Prelude.{map}
use Rattle.sqlite.specs.Held.{state}
use Rattle.cs_rows.specs.Editing.{EditsInto, edited, written_of}
use Rattle.sqlite.specs.State.{HasCleanDisk}
use Rattle.cs_store_tables.specs.Laws.{was_clean}
use Rattle.cs_store_tables.specs.Store.{tables_in}
use Rattle.cs_store.proofs.CrashLemmas.{made_tables}
use Rattle.cs_store.proofs.TransactLemmas.{unbegun_transacts, dropped_transacts, uncommitted_transacts, committed_transacts}
use Rattle.std.proofs.Common.{Ok, Err, refl, subst}
use Rattle.std.proofs.lemmas.Result.{err_from_is_err_and}
use Rattle.cs_value.specs.State.{State}
use Rattle.cs_rows.specs.Editing.{IsWriteOf}
use Rattle.cs_rows.specs.Faults.{IsCaused, IsResource}
use Rattle.cs_store_tables.specs.Failing.{BatchFails, BeginFails, Writes}
use Rattle.cs_store_tables.proofs.FailureLemmas.{so_caused}
use Rattle.cs_store.proofs.CrashLemmas.{begun_tables}
use Rattle.cs_store.proofs.FailureLemmas.{begin_fails, begun_open, commit_fails, passed_on, refused_on, unaccepted, work_fails}
use Rattle.cs_store.proofs.store.Store.edit.Goals as goal

pub returns-clause-edited : goal.returns-clause-edited
returns-clause-edited g c =
    let old = state g.S.Store c.args.self.now in
    let begun = state g.S.Store c.in_ok-batch.batch.store.now in
    let mid = state g.S.Store c.edit_in.new.rows.store.now in
    let last = state g.S.Store c.commit.new.self.0 in
    let same : c.commit.new.self.0 ≡ c.self-2-1.given.0 = sym (c.self-2-1.given.1 (sym (c.edit_in.ensures.kept.0 ∙ c.in_ok-batch.ensures.same_reference))) in
    rw (← same) (made_tables old begun mid last (λ before after. edited before c.args.edit.now ≡ Ok (record { state = after; written = map written_of c.in_ok-written.written.items }))
    c.in_ok-batch.ensures.begun c.edit_in.ensures.kept.1 c.commit.ensures.atomic.survives c.in_ok-written.ensures.edited c.in_ok-commit.ensures.committed)

pub returns-in_err-written-clause-refused : goal.returns-in_err-written-clause-refused
returns-in_err-written-clause-refused g c clean =
    let old = state g.S.Store c.args.self.now in
    let begun = state g.S.Store c.in_ok-batch.batch.store.now in
    let mid = state g.S.Store c.edit_in.new.rows.store.now in
    let last = state g.S.Store c.drop-batch.new.self.0 in
    let same : c.drop-batch.new.self.0 ≡ c.self-in_err-written-1.given.0 = sym (c.self-in_err-written-1.given.1 (sym (c.edit_in.ensures.kept.0 ∙ c.in_ok-batch.ensures.same_reference))) in
    let last_clean : HasCleanDisk last = rw same clean in
    let mid_clean = was_clean mid last c.drop-batch.ensures.survives last_clean in
    let tables = begun_tables old begun mid c.in_ok-batch.ensures.begun c.edit_in.ensures.kept.1 mid_clean in
    let e = c.in_err-written.field-0.0 in
    let p = err_from_is_err_and c.from_residual-in_err-written.result c.from_residual-in_err-written.ensures.1 in
    rw (p.1, p.2) (subst (λ (s : State). (edited s c.args.edit.now ≡ Err e) ⊎ IsResource e) tables (c.in_err-written.ensures.refused mid_clean))

pub returns-in_err-batch-clause-transacts : goal.returns-in_err-batch-clause-transacts
returns-in_err-batch-clause-transacts g c =
    let old = state g.S.Store c.args.self.now in
    let new = state g.S.Store c.begin.follows.lender-at-none in
    let rests = rw c.in_err-batch.was at c.begin.follows.holds-at-none in
    let p = err_from_is_err_and c.from_residual.result c.from_residual.ensures.1 in
    rw (p.1, p.2) (unbegun_transacts g.S.Store g.met.S.Store.settled g.met.S.Store.stays c.args.self.now c.begin.follows.lender-at-none c.crash_law.ensures _ (EditsInto (tables_in old.now) c.args.edit.now) rests.0 rests.1)

pub returns-in_err-written-clause-transacts : goal.returns-in_err-written-clause-transacts
returns-in_err-written-clause-transacts g c =
    let old = state g.S.Store c.args.self.now in
    let begun = state g.S.Store c.in_ok-batch.batch.store.now in
    let mid = state g.S.Store c.edit_in.new.rows.store.now in
    let same : c.drop-batch.new.self.0 ≡ c.self-in_err-written-1.given.0 = sym (c.self-in_err-written-1.given.1 (sym (c.edit_in.ensures.kept.0 ∙ c.in_ok-batch.ensures.same_reference))) in
    let p = err_from_is_err_and c.from_residual-in_err-written.result c.from_residual-in_err-written.ensures.1 in
    rw (p.1, p.2, ← same) (dropped_transacts g.S.Store g.met.S.Store.settled g.met.S.Store.stays c.args.self.now c.drop-batch.new.self.0 c.crash_law.ensures begun mid c.in_ok-batch.ensures.begun c.in_ok-batch.ensures.survives c.edit_in.ensures.kept.1
    _ (EditsInto (tables_in old.now) c.args.edit.now) c.drop-batch.ensures.survives c.drop-batch.ensures.undone)

pub returns-in_err-commit-clause-transacts : goal.returns-in_err-commit-clause-transacts
returns-in_err-commit-clause-transacts g c =
    let begun = state g.S.Store c.in_ok-batch.batch.store.now in
    let mid = state g.S.Store c.edit_in.new.rows.store.now in
    let same : c.commit.new.self.0 ≡ c.self-2-1.given.0 = sym (c.self-2-1.given.1 (sym (c.edit_in.ensures.kept.0 ∙ c.in_ok-batch.ensures.same_reference))) in
    let p = err_from_is_err_and c.from_residual-in_err-commit.result c.from_residual-in_err-commit.ensures.1 in
    rw (p.1, p.2, ← same) (uncommitted_transacts g.S.Store g.met.S.Store.settled g.met.S.Store.stays c.args.self.now c.commit.new.self.0 c.crash_law.ensures begun mid c.in_ok-batch.ensures.begun c.in_ok-batch.ensures.survives c.edit_in.ensures.kept.1
    (λ before. EditsInto before c.args.edit.now) (λ clean. (map written_of c.in_ok-written.written.items, c.in_ok-written.ensures.edited clean)) c.commit.ensures.atomic.survives _ c.in_err-commit.ensures.undone)

pub returns-clause-transacts : goal.returns-clause-transacts
returns-clause-transacts g c =
    let begun = state g.S.Store c.in_ok-batch.batch.store.now in
    let mid = state g.S.Store c.edit_in.new.rows.store.now in
    let same : c.commit.new.self.0 ≡ c.self-2-1.given.0 = sym (c.self-2-1.given.1 (sym (c.edit_in.ensures.kept.0 ∙ c.in_ok-batch.ensures.same_reference))) in
    rw (← same) (committed_transacts g.S.Store g.met.S.Store.settled g.met.S.Store.stays c.args.self.now c.commit.new.self.0 c.crash_law.ensures begun mid c.in_ok-batch.ensures.begun c.in_ok-batch.ensures.survives c.edit_in.ensures.kept.1
    (λ before. EditsInto before c.args.edit.now) (λ clean. (map written_of c.in_ok-written.written.items, c.in_ok-written.ensures.edited clean)) c.commit.ensures.atomic.survives _ c.in_ok-commit.ensures.committed c.in_ok-commit.ensures.others c.in_ok-commit.ensures.left)

pub returns-in_err-batch-clause-caused : goal.returns-in_err-batch-clause-caused
returns-in_err-batch-clause-caused g c clean =
    let old = state g.S.Store c.args.self.now in
    let new = state g.S.Store c.begin.follows.lender-at-none in
    let rests = rw c.in_err-batch.was at c.begin.follows.holds-at-none in
    let failed : IsCaused (BeginFails old new) c.in_err-batch.field-0.0 = rests.2 clean in
    let p = err_from_is_err_and c.from_residual.result c.from_residual.ensures.1 in
    rw (p.1, p.2) (so_caused _ _ c.in_err-batch.field-0.0 (begin_fails _ old new) failed)

pub returns-in_err-written-clause-caused : goal.returns-in_err-written-clause-caused
returns-in_err-written-clause-caused g c clean =
    let old = state g.S.Store c.args.self.now in
    let begun = state g.S.Store c.in_ok-batch.batch.store.now in
    let mid = state g.S.Store c.edit_in.new.rows.store.now in
    let last = state g.S.Store c.drop-batch.new.self.0 in
    let same : c.drop-batch.new.self.0 ≡ c.self-in_err-written-1.given.0 = sym (c.self-in_err-written-1.given.1 (sym (c.edit_in.ensures.kept.0 ∙ c.in_ok-batch.ensures.same_reference))) in
    let last_clean : HasCleanDisk last = rw same clean in
    let keeps = c.edit_in.ensures.kept.1 in
    let mid_clean = was_clean mid last c.drop-batch.ensures.survives last_clean in
    let tables = begun_tables old begun mid c.in_ok-batch.ensures.begun keeps mid_clean in
    let failed = subst (λ (s : State). IsCaused (BatchFails (Writes (IsWriteOf s c.args.edit.now)) begun mid) c.in_err-written.field-0.0) tables (c.in_err-written.ensures.caused mid_clean) in
    let p = err_from_is_err_and c.from_residual-in_err-written.result c.from_residual-in_err-written.ensures.1 in
    rw (p.1, p.2, ← same) (so_caused _ _ c.in_err-written.field-0.0 (work_fails _ old begun mid last c.in_ok-batch.ensures.begun c.in_ok-batch.ensures.survives keeps mid_clean c.drop-batch.ensures.survives) failed)

pub returns-in_err-commit-clause-caused : goal.returns-in_err-commit-clause-caused
returns-in_err-commit-clause-caused g c clean =
    let old = state g.S.Store c.args.self.now in
    let begun = state g.S.Store c.in_ok-batch.batch.store.now in
    let mid = state g.S.Store c.edit_in.new.rows.store.now in
    let last = state g.S.Store c.commit.new.self.0 in
    let same : c.commit.new.self.0 ≡ c.self-2-1.given.0 = sym (c.self-2-1.given.1 (sym (c.edit_in.ensures.kept.0 ∙ c.in_ok-batch.ensures.same_reference))) in
    let last_clean : HasCleanDisk last = rw same clean in
    let kept = c.in_ok-written.ensures.kept in
    let survives = c.commit.ensures.atomic.survives in
    let mid_clean = was_clean mid last survives last_clean in
    let p = err_from_is_err_and c.from_residual-in_err-commit.result c.from_residual-in_err-commit.ensures.1 in
    rw (p.1, p.2, ← same) (so_caused _ _ c.in_err-commit.field-0.0 (commit_fails _ old begun mid last c.in_ok-batch.ensures.begun c.in_ok-batch.ensures.survives kept.1 mid_clean survives.counts (kept.2 refl mid_clean).inside)
    (c.in_err-commit.ensures.caused last_clean))

pub returns-in_err-batch-clause-edited : goal.returns-in_err-batch-clause-edited
returns-in_err-batch-clause-edited g c clean = unaccepted c.from_residual.result _ _ c.from_residual.ensures.1

pub returns-in_err-batch-clause-refused : goal.returns-in_err-batch-clause-refused
returns-in_err-batch-clause-refused g c clean = refused_on c.from_residual.result _ c.in_err-batch.field-0.0 c.from_residual.ensures.1 (inr c.in_err-batch.ensures.named)

pub returns-in_err-batch-clause-shut : goal.returns-in_err-batch-clause-shut
returns-in_err-batch-clause-shut g c clean shut = passed_on c.from_residual.result _ c.in_err-batch.field-0.0 c.from_residual.ensures.1 c.in_err-batch.ensures.named

pub returns-in_err-batch-clause-named : goal.returns-in_err-batch-clause-named
returns-in_err-batch-clause-named g c = refused_on c.from_residual.result _ c.in_err-batch.field-0.0 c.from_residual.ensures.1 (inr (inr (inr (inr (inr (inr (inr c.in_err-batch.ensures.named)))))))

pub returns-in_err-written-clause-edited : goal.returns-in_err-written-clause-edited
returns-in_err-written-clause-edited g c clean = unaccepted c.from_residual-in_err-written.result _ _ c.from_residual-in_err-written.ensures.1

pub returns-in_err-written-clause-named : goal.returns-in_err-written-clause-named
returns-in_err-written-clause-named g c = refused_on c.from_residual-in_err-written.result _ c.in_err-written.field-0.0 c.from_residual-in_err-written.ensures.1 c.in_err-written.ensures.named

pub returns-in_err-written-clause-shut : goal.returns-in_err-written-clause-shut
returns-in_err-written-clause-shut g c clean shut =
    let old = state g.S.Store c.args.self.now in
    let begun = state g.S.Store c.in_ok-batch.batch.store.now in
    let mid = state g.S.Store c.edit_in.new.rows.store.now in
    let last = state g.S.Store c.drop-batch.new.self.0 in
    let same : c.drop-batch.new.self.0 ≡ c.self-in_err-written-1.given.0 = sym (c.self-in_err-written-1.given.1 (sym (c.edit_in.ensures.kept.0 ∙ c.in_ok-batch.ensures.same_reference))) in
    let last_clean : HasCleanDisk last = rw same clean in
    begun_open (λ held statement. ⊥) old begun mid last c.in_ok-batch.ensures.begun c.in_ok-batch.ensures.survives c.edit_in.ensures.kept.1 (was_clean mid last c.drop-batch.ensures.survives last_clean) shut

pub returns-in_err-commit-clause-edited : goal.returns-in_err-commit-clause-edited
returns-in_err-commit-clause-edited g c clean = unaccepted c.from_residual-in_err-commit.result _ _ c.from_residual-in_err-commit.ensures.1

pub returns-in_err-commit-clause-refused : goal.returns-in_err-commit-clause-refused
returns-in_err-commit-clause-refused g c clean = refused_on c.from_residual-in_err-commit.result _ c.in_err-commit.field-0.0 c.from_residual-in_err-commit.ensures.1 (inr c.in_err-commit.ensures.refused)

pub returns-in_err-commit-clause-shut : goal.returns-in_err-commit-clause-shut
returns-in_err-commit-clause-shut g c clean shut = passed_on c.from_residual-in_err-commit.result _ c.in_err-commit.field-0.0 c.from_residual-in_err-commit.ensures.1 c.in_err-commit.ensures.refused

pub returns-in_err-commit-clause-named : goal.returns-in_err-commit-clause-named
returns-in_err-commit-clause-named g c = refused_on c.from_residual-in_err-commit.result _ c.in_err-commit.field-0.0 c.from_residual-in_err-commit.ensures.1 (inr (inr (inr (inr (inr (inr (inr c.in_err-commit.ensures.refused)))))))

pub returns-clause-shut : goal.returns-clause-shut
returns-clause-shut g c clean shut =
    let old = state g.S.Store c.args.self.now in
    let begun = state g.S.Store c.in_ok-batch.batch.store.now in
    let mid = state g.S.Store c.edit_in.new.rows.store.now in
    let last = state g.S.Store c.commit.new.self.0 in
    let same : c.commit.new.self.0 ≡ c.self-2-1.given.0 = sym (c.self-2-1.given.1 (sym (c.edit_in.ensures.kept.0 ∙ c.in_ok-batch.ensures.same_reference))) in
    let last_clean : HasCleanDisk last = rw same clean in
    begun_open (λ held statement. ⊥) old begun mid last c.in_ok-batch.ensures.begun c.in_ok-batch.ensures.survives c.edit_in.ensures.kept.1 (was_clean mid last c.commit.ensures.atomic.survives last_clean) shut

pub returns-clause-refused : goal.returns-clause-refused
returns-clause-refused g c clean = tt

pub returns-clause-caused : goal.returns-clause-caused
returns-clause-caused g c clean = tt

pub returns-clause-named : goal.returns-clause-named
returns-clause-named g c = tt
