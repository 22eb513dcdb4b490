-- `transaction::Transaction::declare`: what it ensures.
use Rattle.std.proofs.Common.{Bool, IsTrue, Ok, IfErr, true, inl, inr, ap, subst, ◌≡◌, ◌∙◌, rules}
use Rattle.std.specs.Prelude.{OnOk}
use Rattle.std.proofs.lemmas.Result.{IfErr-weaker, err_from_is_err_and, on_ok_weaker as on_ok_then}
use Rattle.sqlite.specs.Effect.{Database}
use Rattle.sqlite.specs.Held.{state}
use Rattle.sqlite.specs.State.{HasCleanDisk}
use Rattle.cs_value.specs.State.{SchemaData, IsSchema}
use Rattle.cs_value.specs.Table.{IsName}
use Rattle.cs_rows.specs.Editing.{Declares, schema_of}
use Rattle.cs_rows.specs.Faults.{IsCaused, IsReadRefusal, is_answered}
use Rattle.cs_rows.proofs.CauseLemmas.{caused_on, caused_so}
use Rattle.cs_store_tables.specs.Failing.{BatchFails, IsDeclarationOf}
use Rattle.cs_store_tables.specs.Laws.{was_clean}
use Rattle.cs_store_tables.specs.Store.{AddsTable, tables_in}
use Rattle.cs_store.specs.Within.{EndsCall}
use Rattle.cs_store.proofs.DeclareLemmas.{added_declares, taken_is_declared}
use Rattle.cs_store.proofs.FailureLemmas.{refused_on, undone_on}
use Rattle.cs_store.proofs.WithinLemmas.{answered_goes_on, answered_inside, call_within, ended_within, leaves_inside, mark_there, marked_fails, release_fails, same_within, shown_on, unreleased_within}
use Rattle.cs_store.proofs.transaction.Transaction.declare.Goals as goal

pub returns-then-not-is_table_name-clause-within : goal.returns-then-not-is_table_name-clause-within
returns-then-not-is_table_name-clause-within g c = same_within _ _ IsReadRefusal _ c.store_law.ensures.settled

pub returns-in_err-schema-clause-within : goal.returns-in_err-schema-clause-within
returns-in_err-schema-clause-within g c =
    let p = err_from_is_err_and c.from_residual.result c.from_residual.ensures.1 in
    rw (p.1, p.2) (same_within _ _ IsReadRefusal _ c.store_law.ensures.settled)

pub returns-in_err-mark-clause-within : goal.returns-in_err-mark-clause-within
returns-in_err-mark-clause-within g c =
    let p = err_from_is_err_and c.from_residual-in_err-mark.result c.from_residual-in_err-mark.ensures.1 in
    rw (p.1, p.2) (ended_within _ _ IsReadRefusal _ _ (λ clean. inl (inr c.in_err-mark.ensures.refused)) c.mark.ensures.survives c.in_err-mark.ensures.undone)

pub returns-in_err-end_call-clause-within : goal.returns-in_err-end_call-clause-within
returns-in_err-end_call-clause-within g c =
    let old = state g.S.Store c.args.self.now in
    let marked = state g.S.Store c.mark.new.self in
    let mid = state g.S.Store c.add_table-result.new.self in
    let new = state g.S.Store c.end_call.new.self in
    let p = err_from_is_err_and c.from_residual-in_err-end_call.result c.from_residual-in_err-end_call.ensures.1 in
    rw (p.1, p.2) (unreleased_within old marked mid c.in_ok-mark.ensures.marked c.mark.ensures.survives c.add_table-result.ensures.kept new _
    (λ left. Declares (tables_in old.now) c.args.name.now (schema_of c.args.columns.now c.args.keys.now c.args.refuses.now) (Ok left))
    IsReadRefusal (inr c.in_err-end_call.ensures.refused) c.end_call.ensures.survives c.in_err-end_call.ensures.undone)

pub returns-in_err-end_call-clause-caused : goal.returns-in_err-end_call-clause-caused
returns-in_err-end_call-clause-caused g c clean =
    let old = state g.S.Store c.args.self.now in
    let marked = state g.S.Store c.mark.new.self in
    let mid = state g.S.Store c.add_table-result.new.self in
    let new = state g.S.Store c.end_call.new.self in
    caused_on c.from_residual-in_err-end_call.result _ _ c.in_err-end_call.field-0.0 c.from_residual-in_err-end_call.ensures.1
    (λ why. release_fails old marked mid c.in_ok-mark.ensures.marked c.mark.ensures.survives c.add_table-result.ensures.kept new _ why (was_clean mid new c.end_call.ensures.survives clean) c.end_call.ensures.survives.counts)
    (c.in_err-end_call.ensures.caused clean)

pub returns-clause-declared : goal.returns-clause-declared
returns-clause-declared g c clean =
    let old = state g.S.Store c.args.self.now in
    let marked = state g.S.Store c.mark.new.self in
    let mid = state g.S.Store c.add_table-result.new.self in
    let new = state g.S.Store c.end_call.new.self in
    let r = c.add_table-result.result in
    let kept = c.add_table-result.ensures.kept in
    let before = was_clean mid new c.end_call.ensures.survives clean in
    let shown = (c.in_ok-mark.ensures.marked (was_clean marked mid kept.crash before)).1 in
    let schema = schema_of c.args.columns.now c.args.keys.now c.args.refuses.now in
    let named : IsName c.args.name.now = search rules in
    let made = c.in_ok-schema.ensures.made in
    let is : IsSchema schema = subst IsSchema (c.schema.view_is ∙ made) c.schema.invariant in
    let Adds : Database → SchemaData → Database → Type 0 = λ one schema two. AddsTable (tables_in one) c.args.name.now schema (tables_in two) in
    let added = subst (λ (s : SchemaData). OnOk r (Adds old.now s mid.now)) made (subst (λ (db : Database). OnOk r (Adds db c.in_ok-schema.schema mid.now)) shown.now_is (c.add_table-result.ensures.declared before)) in
    on_ok_then r (added_declares (tables_in old.now) (tables_in new.now) c.args.name.now schema (named, is))
    (shown_on r (Adds old.now schema) old.marks old.now mid new (answered_inside r (IsTrue mid.in_transaction) (λ answered. (c.add_table-result.ensures.leads before answered).inside shown.mode))
    (subst (λ (b : Bool). EndsCall b old.marks old.now mid new) c.is_ok.ensures.value (c.in_ok-end_call.ensures.ends old.marks old.now (mark_there old marked mid c.in_ok-mark.ensures.marked c.mark.ensures.survives kept before) clean))
    added)

pub returns-clause-refused : goal.returns-clause-refused
returns-clause-refused g c clean =
    let old = state g.S.Store c.args.self.now in
    let marked = state g.S.Store c.mark.new.self in
    let mid = state g.S.Store c.add_table-result.new.self in
    let new = state g.S.Store c.end_call.new.self in
    let r = c.add_table-result.result in
    let before = was_clean mid new c.end_call.ensures.survives clean in
    let shown = (c.in_ok-mark.ensures.marked (was_clean marked mid c.add_table-result.ensures.kept.crash before)).1 in
    let named : IsName c.args.name.now = search rules in
    let is : IsSchema (schema_of c.args.columns.now c.args.keys.now c.args.refuses.now) = subst IsSchema (c.schema.view_is ∙ c.in_ok-schema.ensures.made) c.schema.invariant in
    IfErr-weaker r _ _ (λ e. taken_is_declared (tables_in marked.now) (tables_in old.now) (ap tables_in shown.now_is) c.args.name.now _ e (named, is)) (c.add_table-result.ensures.refused before)

pub returns-clause-caused : goal.returns-clause-caused
returns-clause-caused g c clean =
    let old = state g.S.Store c.args.self.now in
    let marked = state g.S.Store c.mark.new.self in
    let mid = state g.S.Store c.add_table-result.new.self in
    let new = state g.S.Store c.end_call.new.self in
    let r = c.add_table-result.result in
    let kept = c.add_table-result.ensures.kept in
    let before = was_clean mid new c.end_call.ensures.survives clean in
    let shown = (c.in_ok-mark.ensures.marked (was_clean marked mid kept.crash before)).1 in
    let there = subst (λ (s : SchemaData). IfErr r (IsCaused (BatchFails (IsDeclarationOf (tables_in marked.now) c.args.name.now s) marked mid))) c.in_ok-schema.ensures.made (c.add_table-result.ensures.caused before) in
    let failed = subst (λ (db : Database). IfErr r (IsCaused (BatchFails (IsDeclarationOf (tables_in db) c.args.name.now (schema_of c.args.columns.now c.args.keys.now c.args.refuses.now)) marked mid))) shown.now_is there in
    caused_so r _ _ (λ why. marked_fails old marked mid c.in_ok-mark.ensures.marked c.mark.ensures.survives kept new _ why before c.end_call.ensures.survives) failed

pub returns-clause-within : goal.returns-clause-within
returns-clause-within g c =
    let old = state g.S.Store c.args.self.now in
    let marked = state g.S.Store c.mark.new.self in
    let mid = state g.S.Store c.add_table-result.new.self in
    let new = state g.S.Store c.end_call.new.self in
    let r = c.add_table-result.result in
    let kept = c.add_table-result.ensures.kept in
    let schema = schema_of c.args.columns.now c.args.keys.now c.args.refuses.now in
    let named : IsName c.args.name.now = search rules in
    let made = c.in_ok-schema.ensures.made in
    let is : IsSchema schema = subst IsSchema (c.schema.view_is ∙ made) c.schema.invariant in
    let inside : HasCleanDisk mid → is_answered r ≡ true → IsTrue mid.in_transaction = λ clean answered.
    (c.add_table-result.ensures.leads clean answered).inside (c.in_ok-mark.ensures.marked (was_clean marked mid kept.crash clean)).1.mode in
    call_within old marked mid c.in_ok-mark.ensures.marked c.mark.ensures.survives kept new r (λ before left. Declares before c.args.name.now schema (Ok left)) IsReadRefusal c.end_call.ensures.survives
    (λ clean. leaves_inside r _ _ _ (added_declares (tables_in marked.now) (tables_in mid.now) c.args.name.now schema (named, is)) (answered_inside r _ (inside clean))
    (subst (λ (s : SchemaData). OnOk r (AddsTable (tables_in marked.now) c.args.name.now s (tables_in mid.now))) made (c.add_table-result.ensures.declared clean)))
    (λ clean. answered_goes_on r _ (inside clean))
    (λ before db marks clean. subst (λ (b : Bool). EndsCall b before db mid new) c.is_ok.ensures.value (c.in_ok-end_call.ensures.ends before db marks clean))

pub returns-in_err-mark-clause-declared : goal.returns-in_err-mark-clause-declared
returns-in_err-mark-clause-declared g c clean = undone_on c.from_residual-in_err-mark.result _ _ c.from_residual-in_err-mark.ensures.1

pub returns-in_err-mark-clause-refused : goal.returns-in_err-mark-clause-refused
returns-in_err-mark-clause-refused g c clean = refused_on c.from_residual-in_err-mark.result _ c.in_err-mark.field-0.0 c.from_residual-in_err-mark.ensures.1 (inr c.in_err-mark.ensures.refused)

pub returns-in_err-mark-clause-named : goal.returns-in_err-mark-clause-named
returns-in_err-mark-clause-named g c = refused_on c.from_residual-in_err-mark.result _ c.in_err-mark.field-0.0 c.from_residual-in_err-mark.ensures.1 (inr (inr (inr c.in_err-mark.ensures.refused)))

pub returns-in_err-mark-clause-over : goal.returns-in_err-mark-clause-over
returns-in_err-mark-clause-over g c clean outside = refused_on c.from_residual-in_err-mark.result _ c.in_err-mark.field-0.0 c.from_residual-in_err-mark.ensures.1 (inr c.in_err-mark.ensures.refused)

pub returns-in_err-end_call-clause-declared : goal.returns-in_err-end_call-clause-declared
returns-in_err-end_call-clause-declared g c clean = undone_on c.from_residual-in_err-end_call.result _ _ c.from_residual-in_err-end_call.ensures.1

pub returns-in_err-end_call-clause-refused : goal.returns-in_err-end_call-clause-refused
returns-in_err-end_call-clause-refused g c clean = refused_on c.from_residual-in_err-end_call.result _ c.in_err-end_call.field-0.0 c.from_residual-in_err-end_call.ensures.1 (inr c.in_err-end_call.ensures.refused)

pub returns-in_err-end_call-clause-named : goal.returns-in_err-end_call-clause-named
returns-in_err-end_call-clause-named g c = refused_on c.from_residual-in_err-end_call.result _ c.in_err-end_call.field-0.0 c.from_residual-in_err-end_call.ensures.1 (inr (inr (inr c.in_err-end_call.ensures.refused)))

pub returns-in_err-end_call-clause-over : goal.returns-in_err-end_call-clause-over
returns-in_err-end_call-clause-over g c clean outside = refused_on c.from_residual-in_err-end_call.result _ c.in_err-end_call.field-0.0 c.from_residual-in_err-end_call.ensures.1 (inr c.in_err-end_call.ensures.refused)
