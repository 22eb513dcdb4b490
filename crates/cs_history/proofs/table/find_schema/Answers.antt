-- `table::find_schema`: what it ensures.
use Rattle.std.proofs.Common.{◌≡◌, Option, Ok, ap}
use Rattle.sqlite.specs.Held.{state}
use Rattle.cs_store.specs.Store.{tables_in}
use Rattle.cs_value.specs.State.{SchemaData, schema_at}
use Rattle.cs_history.proofs.FaultLemmas.{store_named}
use Rattle.cs_history.proofs.WorkLemmas.{reads_work, works_err, works_ok}
use Rattle.cs_history.proofs.table.find_schema.Goals as goal

pub returns-in_err-schema-clause-works : goal.returns-in_err-schema-clause-works
returns-in_err-schema-clause-works g c = works_err c.from_residual.result _ c.from_residual.ensures.1 c.schema.ensures.kept

pub returns-in_err-schema-clause-named : goal.returns-in_err-schema-clause-named
returns-in_err-schema-clause-named g c = store_named c.from_residual.result c.in_err-schema.field-0.0 c.from_residual.ensures.1

pub returns-clause-works : goal.returns-clause-works
returns-clause-works g c =
    let old = state g.S.Store c.args.transaction.now in
    let new = state g.S.Store c.schema.new.self in
    works_ok (reads_work {X = Option SchemaData} (λ o before after. (after ≡ before) × (o ≡ schema_at before c.args.name.now)) (Ok c.in_ok-schema.field-0) c.schema.ensures.kept c.in_ok-schema.ensures.reads
    (λ clean. (ap tables_in (c.in_ok-schema.ensures.same clean), c.in_ok-schema.ensures.found clean)))
