-- `known::add_table`: the clauses `named`, `caused`, `leads` and `kept`.
use Rattle.std.proofs.lemmas.Result.{IfErr-weaker}
use Rattle.sqlite.specs.Held.{state}
use Rattle.std.proofs.Common.{inr, subst, sym, ◌∙◌, true≢false, IfErr}
use Rattle.sqlite.specs.Effect.{Database}
use Rattle.cs_rows.specs.Faults.{IsCaused, IsReadRefusal}
use Rattle.cs_rows.proofs.CauseLemmas.{not_own}
use Rattle.cs_store_tables.specs.Store.{tables_in}
use Rattle.cs_store_tables.specs.Failing.{BatchFails, IsDeclarationOf, LeadsOn}
use Rattle.cs_store_tables.specs.Laws.{batch_then, keeps_then, leads_on_then, leads_so, was_clean}
use Rattle.cs_store_tables.proofs.FailureLemmas.{answered, caused_so, read_fails, so_caused}
use Rattle.cs_store_tables.proofs.known.add_table.Goals as goal

pub returns-in-Ok-None-clause-named : goal.returns-in-Ok-None-clause-named
returns-in-Ok-None-clause-named g c = IfErr-weaker c.put_table.result _ _ (λ e resource. inr (inr resource)) c.put_table.ensures.refused

pub returns-in-Ok-None-clause-kept : goal.returns-in-Ok-None-clause-kept
returns-in-Ok-None-clause-kept g c = keeps_then c.find_schema.ensures.kept c.put_table.ensures.kept

pub returns-clause-named : goal.returns-clause-named
returns-clause-named g c = inr c.in-Err.ensures.named

pub returns-clause-caused : goal.returns-clause-caused
returns-clause-caused g c clean =
    let old = state g.S.Store c.args.conn.now in
    so_caused _ _ c.in-Err.error (read_fails (IsDeclarationOf (tables_in old.now) c.args.name.now c.args.schema.now) old (state g.S.Store c.find_schema.new.conn)) (c.in-Err.ensures.caused clean)

pub returns-in-Ok-None-clause-caused : goal.returns-in-Ok-None-clause-caused
returns-in-Ok-None-clause-caused g c clean =
    let old = state g.S.Store c.args.conn.now in
    let mid = state g.S.Store c.find_schema.new.conn in
    let new = state g.S.Store c.put_table.new.conn in
    let kept = c.find_schema.ensures.kept in
    let then = c.put_table.ensures.kept in
    let was = was_clean mid new then.crash clean in
    let Is = IsDeclarationOf (tables_in old.now) c.args.name.now c.args.schema.now in
    let leads = leads_so (λ held statement. ⊥) Is (λ held statement none. absurd none) (c.in-Ok-None.ensures.leads was) in
    let failed = subst (λ (db : Database). IfErr c.put_table.result (IsCaused (BatchFails (IsDeclarationOf (tables_in db) c.args.name.now c.args.schema.now) mid new))) (c.in-Ok-None.ensures.same was) (c.put_table.ensures.caused clean) in
    caused_so c.put_table.result _ _ (λ why. batch_then Is old mid new why kept.crash was then.crash leads) failed

pub returns-in-Ok-Some-clause-leads : goal.returns-in-Ok-Some-clause-leads
returns-in-Ok-Some-clause-leads g c clean is = leads_so (λ held statement. ⊥) _ (λ held statement none. absurd none) (c.in-Ok-Some.ensures.leads clean)

pub returns-clause-leads : goal.returns-clause-leads
returns-clause-leads g c clean is = absurd (true≢false (sym is ∙ not_own _ c.in-Err.ensures.named))

pub returns-in-Ok-None-clause-leads : goal.returns-in-Ok-None-clause-leads
returns-in-Ok-None-clause-leads g c clean is =
    let old = state g.S.Store c.args.conn.now in
    let mid = state g.S.Store c.find_schema.new.conn in
    let new = state g.S.Store c.put_table.new.conn in
    let was = was_clean mid new c.put_table.ensures.kept.crash clean in
    let Is = IsDeclarationOf (tables_in old.now) c.args.name.now c.args.schema.now in
    let leads = leads_so (λ held statement. ⊥) Is (λ held statement none. absurd none) (c.in-Ok-None.ensures.leads was) in
    let refused = IfErr-weaker c.put_table.result _ IsReadRefusal (λ e resource. inr resource) c.put_table.ensures.refused in
    let then = answered c.put_table.result _ refused (c.put_table.ensures.leads clean) is in
    leads_on_then c.find_schema.ensures.kept.crash leads (subst (λ (db : Database). LeadsOn (IsDeclarationOf (tables_in db) c.args.name.now c.args.schema.now) mid new) (c.in-Ok-None.ensures.same was) then)
