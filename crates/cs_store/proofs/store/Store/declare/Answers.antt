-- `store::Store::declare`: what it ensures.
use Rattle.std.proofs.Common.{◌≡◌, inr, Ok, refl, subst, sym, ◌∙◌, rules}
use Rattle.std.proofs.lemmas.Result.{err_from_is_err_and}
use Rattle.cs_value.specs.Table.{IsName}
use Rattle.cs_value.specs.State.{SchemaData, State, IsSchema}
use Rattle.cs_rows.specs.Editing.{Declares, schema_of}
use Rattle.cs_store_tables.specs.Store.{AddsTable, tables_in}
use Rattle.cs_store.proofs.CrashLemmas.{begun_tables, made_tables}
use Rattle.cs_store.proofs.TransactLemmas.{unmoved_transacts, unbegun_transacts, dropped_transacts, uncommitted_transacts, committed_transacts}
use Rattle.cs_store.proofs.DeclareLemmas.{added_declares, taken_declares}
use Rattle.sqlite.specs.Held.{state}
use Rattle.sqlite.specs.State.{HasCleanDisk}
use Rattle.cs_store_tables.specs.Laws.{was_clean}
use Rattle.cs_rows.specs.Faults.{IsCaused}
use Rattle.cs_store_tables.specs.Failing.{BatchFails, BeginFails, IsDeclarationOf}
use Rattle.cs_store_tables.proofs.FailureLemmas.{so_caused}
use Rattle.cs_store.proofs.FailureLemmas.{begin_fails, begun_open, commit_fails, passed_on, refused_on, undone_on, work_fails}
use Rattle.cs_store.proofs.store.Store.declare.Goals as goal

pub returns-in_err-declare-clause-refused : goal.returns-in_err-declare-clause-refused
returns-in_err-declare-clause-refused g c clean =
    let old = state g.S.Store c.args.self.now in
    let begun = state g.S.Store c.in_ok-batch.batch.store.now in
    let mid = state g.S.Store c.declare.new.self.store.now in
    let last = state g.S.Store c.drop-batch.new.self.0 in
    let same : c.drop-batch.new.self.0 ≡ c.self-in_err-declare-1.given.0 = sym (c.self-in_err-declare-1.given.1 (sym (c.in_err-declare.ensures.same_reference ∙ c.in_ok-batch.ensures.same_reference))) in
    let last_clean : HasCleanDisk last = rw same clean in
    let mid_clean = was_clean mid last c.drop-batch.ensures.survives last_clean in
    let named : IsName c.args.name.now = search rules in
    let is : IsSchema (schema_of c.args.columns.now c.args.keys.now c.args.refuses.now) = subst IsSchema (c.schema.view_is ∙ c.in_ok-schema.ensures.made) c.schema.invariant in
    let p = err_from_is_err_and c.from_residual-in_err-declare.result c.from_residual-in_err-declare.ensures.1 in
    rw (p.1, p.2) (taken_declares old begun mid c.in_ok-batch.ensures.begun c.declare.ensures.kept mid_clean c.args.name.now _ c.in_err-declare.field-0.0 (named, is) (c.in_err-declare.ensures.refused mid_clean))

pub returns-clause-declared : goal.returns-clause-declared
returns-clause-declared g c =
    let old = state g.S.Store c.args.self.now in
    let begun = state g.S.Store c.in_ok-batch.batch.store.now in
    let mid = state g.S.Store c.declare.new.self.store.now in
    let last = state g.S.Store c.commit.new.self.0 in
    let same : c.commit.new.self.0 ≡ c.self-2-1.given.0 = sym (c.self-2-1.given.1 (sym (c.in_ok-declare.ensures.same_reference ∙ c.in_ok-batch.ensures.same_reference))) in
    let named : IsName c.args.name.now = search rules in
    let made = c.in_ok-schema.ensures.made in
    let schema = schema_of c.args.columns.now c.args.keys.now c.args.refuses.now in
    let is : IsSchema schema = subst IsSchema (c.schema.view_is ∙ made) c.schema.invariant in
    rw (← same) (made_tables old begun mid last (λ before left. Declares before c.args.name.now schema (Ok left)) c.in_ok-batch.ensures.begun c.declare.ensures.kept c.commit.ensures.atomic.survives
    (λ clean. added_declares (tables_in begun.now) (tables_in mid.now) c.args.name.now schema (named, is)
    (subst (λ (s : SchemaData). AddsTable (tables_in begun.now) c.args.name.now s (tables_in mid.now)) made (c.in_ok-declare.ensures.declared clean))) c.in_ok-commit.ensures.committed)

pub returns-then-not-is_table_name-clause-transacts : goal.returns-then-not-is_table_name-clause-transacts
returns-then-not-is_table_name-clause-transacts g c =
    let old = state g.S.Store c.args.self.now in
    unmoved_transacts g.S.Store g.met.S.Store.settled g.met.S.Store.stays c.args.self.now c.args.self.now c.crash_law.ensures _ (λ left. Declares (tables_in old.now) c.args.name.now (schema_of c.args.columns.now c.args.keys.now c.args.refuses.now) (Ok left)) refl

pub returns-in_err-schema-clause-transacts : goal.returns-in_err-schema-clause-transacts
returns-in_err-schema-clause-transacts g c =
    let old = state g.S.Store c.args.self.now in
    let p = err_from_is_err_and c.from_residual.result c.from_residual.ensures.1 in
    rw (p.1, p.2) (unmoved_transacts g.S.Store g.met.S.Store.settled g.met.S.Store.stays c.args.self.now c.args.self.now c.crash_law.ensures _ (λ left. Declares (tables_in old.now) c.args.name.now (schema_of c.args.columns.now c.args.keys.now c.args.refuses.now) (Ok left)) refl)

pub returns-in_err-batch-clause-transacts : goal.returns-in_err-batch-clause-transacts
returns-in_err-batch-clause-transacts g c =
    let old = state g.S.Store c.args.self.now in
    let new = state g.S.Store c.begin.follows.lender-at-none in
    let rests = rw c.in_err-batch.was at c.begin.follows.holds-at-none in
    let p = err_from_is_err_and c.from_residual-in_err-batch.result c.from_residual-in_err-batch.ensures.1 in
    rw (p.1, p.2) (unbegun_transacts g.S.Store g.met.S.Store.settled g.met.S.Store.stays c.args.self.now c.begin.follows.lender-at-none c.crash_law.ensures _ (λ left. Declares (tables_in old.now) c.args.name.now (schema_of c.args.columns.now c.args.keys.now c.args.refuses.now) (Ok left)) rests.0 rests.1)

pub returns-in_err-declare-clause-transacts : goal.returns-in_err-declare-clause-transacts
returns-in_err-declare-clause-transacts g c =
    let old = state g.S.Store c.args.self.now in
    let begun = state g.S.Store c.in_ok-batch.batch.store.now in
    let mid = state g.S.Store c.declare.new.self.store.now in
    let same : c.drop-batch.new.self.0 ≡ c.self-in_err-declare-1.given.0 = sym (c.self-in_err-declare-1.given.1 (sym (c.in_err-declare.ensures.same_reference ∙ c.in_ok-batch.ensures.same_reference))) in
    let p = err_from_is_err_and c.from_residual-in_err-declare.result c.from_residual-in_err-declare.ensures.1 in
    rw (p.1, p.2, ← same) (dropped_transacts g.S.Store g.met.S.Store.settled g.met.S.Store.stays c.args.self.now c.drop-batch.new.self.0 c.crash_law.ensures begun mid c.in_ok-batch.ensures.begun c.in_ok-batch.ensures.survives c.declare.ensures.kept
    _ (λ left. Declares (tables_in old.now) c.args.name.now (schema_of c.args.columns.now c.args.keys.now c.args.refuses.now) (Ok left)) c.drop-batch.ensures.survives c.drop-batch.ensures.undone)

pub returns-in_err-commit-clause-transacts : goal.returns-in_err-commit-clause-transacts
returns-in_err-commit-clause-transacts g c =
    let begun = state g.S.Store c.in_ok-batch.batch.store.now in
    let mid = state g.S.Store c.declare.new.self.store.now in
    let same : c.commit.new.self.0 ≡ c.self-2-1.given.0 = sym (c.self-2-1.given.1 (sym (c.in_ok-declare.ensures.same_reference ∙ c.in_ok-batch.ensures.same_reference))) in
    let named : IsName c.args.name.now = search rules in
    let made = c.in_ok-schema.ensures.made in
    let schema = schema_of c.args.columns.now c.args.keys.now c.args.refuses.now in
    let is : IsSchema schema = subst IsSchema (c.schema.view_is ∙ made) c.schema.invariant in
    let p = err_from_is_err_and c.from_residual-in_err-commit.result c.from_residual-in_err-commit.ensures.1 in
    rw (p.1, p.2, ← same) (uncommitted_transacts g.S.Store g.met.S.Store.settled g.met.S.Store.stays c.args.self.now c.commit.new.self.0 c.crash_law.ensures begun mid c.in_ok-batch.ensures.begun c.in_ok-batch.ensures.survives c.declare.ensures.kept
    (λ before left. Declares before c.args.name.now schema (Ok left)) (λ clean. added_declares (tables_in begun.now) (tables_in mid.now) c.args.name.now schema (named, is)
    (subst (λ (s : SchemaData). AddsTable (tables_in begun.now) c.args.name.now s (tables_in mid.now)) made (c.in_ok-declare.ensures.declared clean))) c.commit.ensures.atomic.survives _ c.in_err-commit.ensures.undone)

pub returns-clause-transacts : goal.returns-clause-transacts
returns-clause-transacts g c =
    let begun = state g.S.Store c.in_ok-batch.batch.store.now in
    let mid = state g.S.Store c.declare.new.self.store.now in
    let same : c.commit.new.self.0 ≡ c.self-2-1.given.0 = sym (c.self-2-1.given.1 (sym (c.in_ok-declare.ensures.same_reference ∙ c.in_ok-batch.ensures.same_reference))) in
    let named : IsName c.args.name.now = search rules in
    let made = c.in_ok-schema.ensures.made in
    let schema = schema_of c.args.columns.now c.args.keys.now c.args.refuses.now in
    let is : IsSchema schema = subst IsSchema (c.schema.view_is ∙ made) c.schema.invariant in
    rw (← same) (committed_transacts g.S.Store g.met.S.Store.settled g.met.S.Store.stays c.args.self.now c.commit.new.self.0 c.crash_law.ensures begun mid c.in_ok-batch.ensures.begun c.in_ok-batch.ensures.survives c.declare.ensures.kept
    (λ before left. Declares before c.args.name.now schema (Ok left)) (λ clean. added_declares (tables_in begun.now) (tables_in mid.now) c.args.name.now schema (named, is)
    (subst (λ (s : SchemaData). AddsTable (tables_in begun.now) c.args.name.now s (tables_in mid.now)) made (c.in_ok-declare.ensures.declared clean))) c.commit.ensures.atomic.survives _ c.in_ok-commit.ensures.committed c.in_ok-commit.ensures.others c.in_ok-commit.ensures.left)

pub returns-in_err-batch-clause-caused : goal.returns-in_err-batch-clause-caused
returns-in_err-batch-clause-caused g c clean =
    let old = state g.S.Store c.args.self.now in
    let new = state g.S.Store c.begin.follows.lender-at-none in
    let rests = rw c.in_err-batch.was at c.begin.follows.holds-at-none in
    let failed : IsCaused (BeginFails old new) c.in_err-batch.field-0.0 = rests.2 clean in
    let p = err_from_is_err_and c.from_residual-in_err-batch.result c.from_residual-in_err-batch.ensures.1 in
    rw (p.1, p.2) (so_caused _ _ c.in_err-batch.field-0.0 (begin_fails _ old new) failed)

pub returns-in_err-declare-clause-caused : goal.returns-in_err-declare-clause-caused
returns-in_err-declare-clause-caused g c clean =
    let old = state g.S.Store c.args.self.now in
    let begun = state g.S.Store c.in_ok-batch.batch.store.now in
    let mid = state g.S.Store c.declare.new.self.store.now in
    let last = state g.S.Store c.drop-batch.new.self.0 in
    let same : c.drop-batch.new.self.0 ≡ c.self-in_err-declare-1.given.0 = sym (c.self-in_err-declare-1.given.1 (sym (c.in_err-declare.ensures.same_reference ∙ c.in_ok-batch.ensures.same_reference))) in
    let last_clean : HasCleanDisk last = rw same clean in
    let mid_clean = was_clean mid last c.drop-batch.ensures.survives last_clean in
    let tables = begun_tables old begun mid c.in_ok-batch.ensures.begun c.declare.ensures.kept mid_clean in
    let failed = subst (λ (s : SchemaData). IsCaused (BatchFails (IsDeclarationOf (tables_in begun.now) c.args.name.now s) begun mid) c.in_err-declare.field-0.0) c.in_ok-schema.ensures.made (c.in_err-declare.ensures.caused mid_clean) in
    let there = subst (λ (s : State). IsCaused (BatchFails (IsDeclarationOf s c.args.name.now (schema_of c.args.columns.now c.args.keys.now c.args.refuses.now)) begun mid) c.in_err-declare.field-0.0) tables failed in
    let p = err_from_is_err_and c.from_residual-in_err-declare.result c.from_residual-in_err-declare.ensures.1 in
    rw (p.1, p.2, ← same) (so_caused _ _ c.in_err-declare.field-0.0 (work_fails _ old begun mid last c.in_ok-batch.ensures.begun c.in_ok-batch.ensures.survives c.declare.ensures.kept mid_clean c.drop-batch.ensures.survives) there)

pub returns-in_err-commit-clause-caused : goal.returns-in_err-commit-clause-caused
returns-in_err-commit-clause-caused g c clean =
    let old = state g.S.Store c.args.self.now in
    let begun = state g.S.Store c.in_ok-batch.batch.store.now in
    let mid = state g.S.Store c.declare.new.self.store.now in
    let last = state g.S.Store c.commit.new.self.0 in
    let same : c.commit.new.self.0 ≡ c.self-2-1.given.0 = sym (c.self-2-1.given.1 (sym (c.in_ok-declare.ensures.same_reference ∙ c.in_ok-batch.ensures.same_reference))) in
    let last_clean : HasCleanDisk last = rw same clean in
    let survives = c.commit.ensures.atomic.survives in
    let mid_clean = was_clean mid last survives last_clean in
    let Is = IsDeclarationOf (tables_in old.now) c.args.name.now (schema_of c.args.columns.now c.args.keys.now c.args.refuses.now) in
    let p = err_from_is_err_and c.from_residual-in_err-commit.result c.from_residual-in_err-commit.ensures.1 in
    rw (p.1, p.2, ← same) (so_caused _ _ c.in_err-commit.field-0.0 (commit_fails Is old begun mid last c.in_ok-batch.ensures.begun c.in_ok-batch.ensures.survives c.declare.ensures.kept mid_clean survives.counts
    (c.in_ok-declare.ensures.leads mid_clean refl).inside) (c.in_err-commit.ensures.caused last_clean))

pub returns-in_err-batch-clause-refused : goal.returns-in_err-batch-clause-refused
returns-in_err-batch-clause-refused g c clean = refused_on c.from_residual-in_err-batch.result _ c.in_err-batch.field-0.0 c.from_residual-in_err-batch.ensures.1 (inr c.in_err-batch.ensures.named)

pub returns-in_err-batch-clause-shut : goal.returns-in_err-batch-clause-shut
returns-in_err-batch-clause-shut g c clean shut = passed_on c.from_residual-in_err-batch.result _ c.in_err-batch.field-0.0 c.from_residual-in_err-batch.ensures.1 (λ held. inr c.in_err-batch.ensures.named)

pub returns-in_err-batch-clause-named : goal.returns-in_err-batch-clause-named
returns-in_err-batch-clause-named g c = refused_on c.from_residual-in_err-batch.result _ c.in_err-batch.field-0.0 c.from_residual-in_err-batch.ensures.1 (inr (inr (inr c.in_err-batch.ensures.named)))

pub returns-in_err-declare-clause-named : goal.returns-in_err-declare-clause-named
returns-in_err-declare-clause-named g c = refused_on c.from_residual-in_err-declare.result _ c.in_err-declare.field-0.0 c.from_residual-in_err-declare.ensures.1 (inr c.in_err-declare.ensures.named)

pub returns-in_err-declare-clause-shut : goal.returns-in_err-declare-clause-shut
returns-in_err-declare-clause-shut g c clean shut =
    let old = state g.S.Store c.args.self.now in
    let begun = state g.S.Store c.in_ok-batch.batch.store.now in
    let mid = state g.S.Store c.declare.new.self.store.now in
    let last = state g.S.Store c.drop-batch.new.self.0 in
    let same : c.drop-batch.new.self.0 ≡ c.self-in_err-declare-1.given.0 = sym (c.self-in_err-declare-1.given.1 (sym (c.in_err-declare.ensures.same_reference ∙ c.in_ok-batch.ensures.same_reference))) in
    let last_clean : HasCleanDisk last = rw same clean in
    begun_open (λ held statement. ⊥) old begun mid last c.in_ok-batch.ensures.begun c.in_ok-batch.ensures.survives c.declare.ensures.kept (was_clean mid last c.drop-batch.ensures.survives last_clean) shut

pub returns-in_err-commit-clause-refused : goal.returns-in_err-commit-clause-refused
returns-in_err-commit-clause-refused g c clean = refused_on c.from_residual-in_err-commit.result _ c.in_err-commit.field-0.0 c.from_residual-in_err-commit.ensures.1 (inr c.in_err-commit.ensures.refused)

pub returns-in_err-commit-clause-shut : goal.returns-in_err-commit-clause-shut
returns-in_err-commit-clause-shut g c clean shut = passed_on c.from_residual-in_err-commit.result _ c.in_err-commit.field-0.0 c.from_residual-in_err-commit.ensures.1 (λ held. inr c.in_err-commit.ensures.refused)

pub returns-in_err-commit-clause-named : goal.returns-in_err-commit-clause-named
returns-in_err-commit-clause-named g c = refused_on c.from_residual-in_err-commit.result _ c.in_err-commit.field-0.0 c.from_residual-in_err-commit.ensures.1 (inr (inr (inr c.in_err-commit.ensures.refused)))

pub returns-clause-shut : goal.returns-clause-shut
returns-clause-shut g c clean shut =
    let old = state g.S.Store c.args.self.now in
    let begun = state g.S.Store c.in_ok-batch.batch.store.now in
    let mid = state g.S.Store c.declare.new.self.store.now in
    let last = state g.S.Store c.commit.new.self.0 in
    let same : c.commit.new.self.0 ≡ c.self-2-1.given.0 = sym (c.self-2-1.given.1 (sym (c.in_ok-declare.ensures.same_reference ∙ c.in_ok-batch.ensures.same_reference))) in
    let last_clean : HasCleanDisk last = rw same clean in
    begun_open (λ held statement. ⊥) old begun mid last c.in_ok-batch.ensures.begun c.in_ok-batch.ensures.survives c.declare.ensures.kept (was_clean mid last c.commit.ensures.atomic.survives last_clean) shut

pub returns-clause-refused : goal.returns-clause-refused
returns-clause-refused g c clean = tt

pub returns-clause-caused : goal.returns-clause-caused
returns-clause-caused g c clean = tt

pub returns-clause-named : goal.returns-clause-named
returns-clause-named g c = tt

pub returns-in_err-batch-clause-declared : goal.returns-in_err-batch-clause-declared
returns-in_err-batch-clause-declared g c clean = undone_on c.from_residual-in_err-batch.result _ _ c.from_residual-in_err-batch.ensures.1

pub returns-in_err-declare-clause-declared : goal.returns-in_err-declare-clause-declared
returns-in_err-declare-clause-declared g c clean = undone_on c.from_residual-in_err-declare.result _ _ c.from_residual-in_err-declare.ensures.1

pub returns-in_err-commit-clause-declared : goal.returns-in_err-commit-clause-declared
returns-in_err-commit-clause-declared g c clean = undone_on c.from_residual-in_err-commit.result _ _ c.from_residual-in_err-commit.ensures.1

pub returns-in_err-schema-clause-declared : goal.returns-in_err-schema-clause-declared
returns-in_err-schema-clause-declared g c clean = undone_on c.from_residual.result _ _ c.from_residual.ensures.1
