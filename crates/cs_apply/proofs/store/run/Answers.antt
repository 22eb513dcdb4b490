-- `store::run`: the clauses `refused`, `transacts` and `caused`.
use Rattle.std.proofs.Common.{◌≡◌, ℕ, List, refl, rules, sym, ◌∙◌}
use Rattle.std.proofs.lemmas.Result.{err_from_is_err_and}
use Rattle.std.specs.Fn.{FnReturnsAt}
use Rattle.sqlite.specs.Held.{state}
use Rattle.sqlite.specs.State.{HasCleanDisk}
use Rattle.cs_store.specs.Store.{tables_in}
use Rattle.cs_store.proofs.TransactLemmas.{unbegun_transacts, dropped_transacts, uncommitted_transacts, committed_transacts}
use Rattle.cs_value.specs.State as tables
use Rattle.cs_apply_conflict_kinds.specs.declared.conflict.Noop.{Noop}
use Rattle.cs_apply_engine.specs.declared.running.Direction.{Direction}
use Rattle.cs_apply_engine.specs.declared.tally.Tally.{Tally}
use Rattle.cs_apply_engine.specs.Running.{Handler, AppliesTallied}
use Rattle.cs_apply.specs.Crash.{AppliesInto}
use Rattle.cs_store.proofs.FailureLemmas.{begin_fails, commit_fails, work_fails}
use Rattle.cs_store.specs.Failing.{BeginFails}
use Rattle.cs_store.specs.Faults as stores
use Rattle.cs_store.specs.Laws.{was_clean}
use Rattle.cs_apply_engine.proofs.CauseLemmas.{caused_on, rows_caused_on}
use Rattle.cs_apply.proofs.store.run.Goals as goal

-- what a tally has is what the state was made with
into : {chooses : Handler} {noop : Noop} {file : List ℕ} {direction : Direction} {before after : tables.State} (tally : Tally) → AppliesTallied chooses noop file direction before tally after → AppliesInto chooses noop file direction before after
into tally reported = record { met = tally.conflicts.items; skips = _; writes = reported.writes; passed = tally.ignored; applies = reported.applies }

pub returns-in_err-batch-clause-transacts : goal.returns-in_err-batch-clause-transacts
returns-in_err-batch-clause-transacts g c =
    let old = state g.S.Store c.args.store.now in
    let new = state g.S.Store c.begin.follows.lender-at-none in
    let rests = rw c.in_err-batch.was at c.begin.follows.holds-at-none in
    let p = err_from_is_err_and c.from_residual.result c.from_residual.ensures.1 in
    rw p.1 (unbegun_transacts g.S.Store g.met.S.Store.settled g.met.S.Store.stays c.args.store.now c.begin.follows.lender-at-none c.crash_law.ensures _ (AppliesInto (FnReturnsAt g.H.Fn c.args.handler.now) c.args.noop c.args.file.now c.args.direction (tables_in old.now)) rests.0 rests.1)

pub returns-in_err-tally-clause-transacts : goal.returns-in_err-tally-clause-transacts
returns-in_err-tally-clause-transacts g c =
    let old = state g.S.Store c.args.store.now in
    let begun = state g.S.Store c.in_ok-batch.batch.store.now in
    let mid = state g.S.Store c.tally_in.new.rows.store.now in
    let same : c.drop-batch.new.self.0 ≡ c.store-in_err-tally-1.given.0 = sym (c.store-in_err-tally-1.given.1 (sym (c.tally_in.ensures.kept.0 ∙ c.in_ok-batch.ensures.same_reference))) in
    let p = err_from_is_err_and c.from_residual-in_err-tally.result c.from_residual-in_err-tally.ensures.1 in
    rw (p.1, ← same) (dropped_transacts g.S.Store g.met.S.Store.settled g.met.S.Store.stays c.args.store.now c.drop-batch.new.self.0 c.crash_law.ensures begun mid c.in_ok-batch.ensures.begun c.in_ok-batch.ensures.survives c.tally_in.ensures.kept.1
    _ (AppliesInto (FnReturnsAt g.H.Fn c.args.handler.now) c.args.noop c.args.file.now c.args.direction (tables_in old.now)) c.drop-batch.ensures.survives c.drop-batch.ensures.undone)

pub returns-in_err-commit-clause-transacts : goal.returns-in_err-commit-clause-transacts
returns-in_err-commit-clause-transacts g c =
    let begun = state g.S.Store c.in_ok-batch.batch.store.now in
    let mid = state g.S.Store c.tally_in.new.rows.store.now in
    let same : c.commit.new.self.0 ≡ c.store-2-1.given.0 = sym (c.store-2-1.given.1 (sym (c.tally_in.ensures.kept.0 ∙ c.in_ok-batch.ensures.same_reference))) in
    let p = err_from_is_err_and c.from_residual-in_err-commit.result c.from_residual-in_err-commit.ensures.1 in
    rw (p.1, ← same) (uncommitted_transacts g.S.Store g.met.S.Store.settled g.met.S.Store.stays c.args.store.now c.commit.new.self.0 c.crash_law.ensures begun mid c.in_ok-batch.ensures.begun c.in_ok-batch.ensures.survives c.tally_in.ensures.kept.1
    (AppliesInto (FnReturnsAt g.H.Fn c.args.handler.now) c.args.noop c.args.file.now c.args.direction) (λ clean. into c.in_ok-tally.tally (c.in_ok-tally.ensures.applied clean)) c.commit.ensures.atomic.survives _ c.in_err-commit.ensures.undone)

pub returns-clause-transacts : goal.returns-clause-transacts
returns-clause-transacts g c =
    let begun = state g.S.Store c.in_ok-batch.batch.store.now in
    let mid = state g.S.Store c.tally_in.new.rows.store.now in
    let same : c.commit.new.self.0 ≡ c.store-2-1.given.0 = sym (c.store-2-1.given.1 (sym (c.tally_in.ensures.kept.0 ∙ c.in_ok-batch.ensures.same_reference))) in
    rw (← same) (committed_transacts g.S.Store g.met.S.Store.settled g.met.S.Store.stays c.args.store.now c.commit.new.self.0 c.crash_law.ensures begun mid c.in_ok-batch.ensures.begun c.in_ok-batch.ensures.survives c.tally_in.ensures.kept.1
    (AppliesInto (FnReturnsAt g.H.Fn c.args.handler.now) c.args.noop c.args.file.now c.args.direction) (λ clean. into c.in_ok-tally.tally (c.in_ok-tally.ensures.applied clean)) c.commit.ensures.atomic.survives _ c.in_ok-commit.ensures.committed c.in_ok-commit.ensures.others c.in_ok-commit.ensures.left)

pub returns-in_err-tally-clause-refused : goal.returns-in_err-tally-clause-refused
returns-in_err-tally-clause-refused g c clean =
    let was : HasCleanDisk (state g.S.Store c.tally_in.new.rows.store.now) = search rules in
    let refused = c.in_err-tally.ensures.refused was in
    let began = c.in_ok-batch.ensures.begun (c.tally_in.ensures.was_honest was) in
    search rules

pub returns-in_err-batch-clause-caused : goal.returns-in_err-batch-clause-caused
returns-in_err-batch-clause-caused g c clean =
    let old = state g.S.Store c.args.store.now in
    let new = state g.S.Store c.begin.follows.lender-at-none in
    let rests = rw c.in_err-batch.was at c.begin.follows.holds-at-none in
    let failed : stores.IsCaused (BeginFails old new) c.in_err-batch.field-0.0 = rests.2 clean in
    rows_caused_on c.from_residual.result _ _ c.in_err-batch.field-0.0 c.from_residual.ensures.1 (begin_fails _ old new) failed

pub returns-in_err-tally-clause-caused : goal.returns-in_err-tally-clause-caused
returns-in_err-tally-clause-caused g c clean =
    let old = state g.S.Store c.args.store.now in
    let begun = state g.S.Store c.in_ok-batch.batch.store.now in
    let mid = state g.S.Store c.tally_in.new.rows.store.now in
    let last = state g.S.Store c.drop-batch.new.self.0 in
    let same : c.drop-batch.new.self.0 ≡ c.store-in_err-tally-1.given.0 = sym (c.store-in_err-tally-1.given.1 (sym (c.tally_in.ensures.kept.0 ∙ c.in_ok-batch.ensures.same_reference))) in
    let last_clean : HasCleanDisk last = rw same clean in
    let mid_clean = was_clean mid last c.drop-batch.ensures.survives last_clean in
    rw (← same) (caused_on c.from_residual-in_err-tally.result _ _ c.in_err-tally.field-0.0 c.from_residual-in_err-tally.ensures.1
    (work_fails _ old begun mid last c.in_ok-batch.ensures.begun c.in_ok-batch.ensures.survives c.tally_in.ensures.kept.1 mid_clean c.drop-batch.ensures.survives) (c.in_err-tally.ensures.caused mid_clean))

pub returns-in_err-commit-clause-caused : goal.returns-in_err-commit-clause-caused
returns-in_err-commit-clause-caused g c clean =
    let old = state g.S.Store c.args.store.now in
    let begun = state g.S.Store c.in_ok-batch.batch.store.now in
    let mid = state g.S.Store c.tally_in.new.rows.store.now in
    let last = state g.S.Store c.commit.new.self.0 in
    let same : c.commit.new.self.0 ≡ c.store-2-1.given.0 = sym (c.store-2-1.given.1 (sym (c.tally_in.ensures.kept.0 ∙ c.in_ok-batch.ensures.same_reference))) in
    let last_clean : HasCleanDisk last = rw same clean in
    let kept = c.in_ok-tally.ensures.kept in
    let survives = c.commit.ensures.atomic.survives in
    let mid_clean = was_clean mid last survives last_clean in
    rw (← same) (rows_caused_on c.from_residual-in_err-commit.result _ _ c.in_err-commit.field-0.0 c.from_residual-in_err-commit.ensures.1
    (commit_fails _ old begun mid last c.in_ok-batch.ensures.begun c.in_ok-batch.ensures.survives kept.1 mid_clean survives.counts (kept.2 refl mid_clean).inside) (c.in_err-commit.ensures.caused last_clean))
