-- `tables::find_schema`: the clauses `found`, `refused` and `kept`.
use Rattle.std.proofs.Common.{[], sym, ap, ◌∙◌}
use Rattle.sqlite.specs.Held.{state}
use Rattle.sqlite.specs.State.{HasCleanDisk}
use Rattle.cs_value.specs.State.{schema_at}
use Rattle.cs_store_sql.specs.Records.{records_in}
use Rattle.cs_store_tables.specs.Store.{IsSound, Recovers, tables_in}
use Rattle.cs_store_tables.proofs.ReadLemmas.{shows_read, recovers_ok, recovers_err, unnamed, no_elements, some_elements, schema_is, schema_stored}
use Rattle.cs_store_tables.proofs.StoreLemmas.{rests_keeps}
use Rattle.cs_store_tables.proofs.FailureLemmas.{on_ok, read_leads}
use Rattle.cs_store_tables.proofs.tables.find_schema.Goals as goal
use Rattle.cs_store_tables.proofs.tables.find_schema.Goals.{After-schema_in}

pub returns-then-is_empty-clause-found : goal.returns-then-is_empty-clause-found
returns-then-is_empty-clause-found g c sound clean =
    let db = (state g.S.Store c.args.conn.now).now in sym (ap (schema_at (tables_in db)) (no_elements c.args.name.now c.if-is_empty.ensures) ∙ unnamed db)

-- what is read is what is stored
recovered : (g : _) (c : After-schema_in g) → IsSound (state g.S.Store c.args.conn.now) → HasCleanDisk (state g.S.Store c.find_record.new.conn)
    → Recovers c.schema_in.result (schema_at (tables_in (state g.S.Store c.args.conn.now).now) c.args.name.now)
recovered g c sound clean =
    let old = state g.S.Store c.args.conn.now in
    let new = state g.S.Store c.find_record.new.conn in
    let holds = shows_read old new sound c.find_record.ensures.keeps_crash clean (c.in-Ok.ensures.reads clean) in
    let stored = schema_stored old.now c.args.name.now holds (some_elements c.args.name.now c.if-is_empty.ensures) in
    c.schema_in.ensures.found (schema_at (tables_in old.now) c.args.name.now) (schema_is (tables_in old.now) c.args.name.now holds.stores.is_state)
    (c.in-Ok.ensures.found clean holds.records ∙ ap (records_in old.now []) c.as_bytes.ensures.value ∙ stored)

pub returns-else-is_empty-clause-found : goal.returns-else-is_empty-clause-found
returns-else-is_empty-clause-found g c sound clean = recovers_ok c.schema_in.result _ (recovered g c sound clean)

pub returns-else-is_empty-clause-refused : goal.returns-else-is_empty-clause-refused
returns-else-is_empty-clause-refused g c sound clean = recovers_err c.schema_in.result _ (recovered g c sound clean)

pub returns-in-Err-clause-kept : goal.returns-in-Err-clause-kept
returns-in-Err-clause-kept g c = rests_keeps (state g.S.Store c.args.conn.now) (state g.S.Store c.find_record.new.conn) c.find_record.ensures.keeps_crash c.in-Err.ensures.rests

pub returns-then-is_empty-clause-leads : goal.returns-then-is_empty-clause-leads
returns-then-is_empty-clause-leads g c clean = read_leads _ _ (c.in-Ok.ensures.reads clean)

pub returns-else-is_empty-clause-leads : goal.returns-else-is_empty-clause-leads
returns-else-is_empty-clause-leads g c clean = on_ok c.schema_in.result _ (read_leads _ _ (c.in-Ok.ensures.reads clean))
