-- `tables::find_row`: the clauses `found`, `placed`, `refused`, `fits`, `leads` and `kept`.
use Rattle.std.proofs.Common.{◌≡◌, ℤ, ℕ, List, Some, Option, IfSome, Result, ap, ◌∙◌}
use Rattle.std.specs.Option.{option_map}
use Rattle.std.proofs.lemmas.Result.{err_from_is_err_and}
use Rattle.sqlite.specs.Held.{state}
use Rattle.sqlite.specs.State.{State, HasCleanDisk, IsUnchanged}
use Rattle.cs_value.specs.declared.value.OwnedValue.{OwnedValue}
use Rattle.cs_value.specs.State.{SchemaData, row_at, schema_at}
use Rattle.cs_value.specs.Spelling.{row_bytes}
use Rattle.cs_rows.specs.declared.fault.StoreError.{StoreError}
use Rattle.cs_rows.specs.Rows.{IsRowIn}
use Rattle.cs_store_sql.specs.Records.{HoldsRecords, KeepsCrash, records_in}
use Rattle.cs_store_tables.specs.Store.{IsSound, Recovers, tables_in}
use Rattle.cs_store_encoding.proofs.StoredLemmas.{row_stored}
use Rattle.cs_store_tables.proofs.StoreLemmas.{rests_keeps}
use Rattle.cs_store_tables.proofs.ReadLemmas.{shows_read, row_is, declared_named, read_fits}
use Rattle.cs_store_tables.proofs.FailureLemmas.{read_leads}
use Rattle.cs_store_tables.proofs.tables.find_row.Goals as goal

-- what is read is what is stored
recovered : (old new : State) (name key bytes : List ℕ) (schema : SchemaData) (found : Option (ℤ × List ℕ)) (r : Result (Option (List OwnedValue)) StoreError) → IsSound old → KeepsCrash old new
    → HasCleanDisk new → IsUnchanged old new → bytes ≡ key → schema_at (tables_in old.now) name ≡ Some schema
    → (HoldsRecords old.now → option_map (λ (f : ℤ × List ℕ). f.1) found ≡ records_in old.now name bytes)
    → ((o : Option (List OwnedValue)) → IfSome o (IsRowIn schema) → option_map (λ (f : ℤ × List ℕ). f.1) found ≡ option_map row_bytes o → Recovers r o)
    → Recovers r (row_at (tables_in old.now) name key)
recovered old new name key bytes schema found r sound keeps clean reads same has is reader =
    let holds = shows_read old new sound keeps clean reads in
    let stored = row_stored (records_in old.now) (tables_in old.now) name key holds.stores (declared_named old.now name schema has) in
    let fits = row_is (tables_in old.now) name key schema holds.stores.is_state has in
    reader (row_at (tables_in old.now) name key) fits (is holds.records ∙ ap (records_in old.now name) same ∙ stored)

pub returns-in_err-row_in-in-Ok-clause-refused : goal.returns-in_err-row_in-in-Ok-clause-refused
returns-in_err-row_in-in-Ok-clause-refused g c sound clean has =
    let p = err_from_is_err_and c.from_residual.result c.from_residual.ensures.1 in
    rw (p.1, p.2) (rw c.in_err-row_in-in-Ok.was at (recovered (state g.S.Store c.args.conn.now) (state g.S.Store c.find_record.new.conn) c.args.name.now c.args.key.now c.bytes.result.now c.args.schema.now c.in-Ok.found c.row_in.result sound c.find_record.ensures.keeps_crash clean
    (c.in-Ok.ensures.reads clean) c.bytes.ensures has (c.in-Ok.ensures.found clean) c.row_in.ensures.found))

pub returns-in_ok-row_in-in-Ok-clause-found : goal.returns-in_ok-row_in-in-Ok-clause-found
returns-in_ok-row_in-in-Ok-clause-found g c sound clean has = rw c.in_ok-row_in-in-Ok.was at (recovered (state g.S.Store c.args.conn.now) (state g.S.Store c.find_record.new.conn) c.args.name.now c.args.key.now c.bytes.result.now c.args.schema.now c.in-Ok.found c.row_in.result sound c.find_record.ensures.keeps_crash clean
    (c.in-Ok.ensures.reads clean) c.bytes.ensures has (c.in-Ok.ensures.found clean) c.row_in.ensures.found)

pub returns-in_ok-row_in-in-Ok-clause-placed : goal.returns-in_ok-row_in-in-Ok-clause-placed
returns-in_ok-row_in-in-Ok-clause-placed g c sound clean =
    let old = state g.S.Store c.args.conn.now in
    let holds = shows_read old (state g.S.Store c.find_record.new.conn) sound c.find_record.ensures.keeps_crash clean (c.in-Ok.ensures.reads clean) in
    rw c.bytes.ensures at (c.place_of-place.ensures old.now c.args.name.now c.bytes.result.now (c.in-Ok.ensures.at clean holds.records))

pub returns-in_ok-row_in-in-Ok-clause-fits : goal.returns-in_ok-row_in-in-Ok-clause-fits
returns-in_ok-row_in-in-Ok-clause-fits g c sound clean has =
    let old = state g.S.Store c.args.conn.now in
    let holds = shows_read old (state g.S.Store c.find_record.new.conn) sound c.find_record.ensures.keeps_crash clean (c.in-Ok.ensures.reads clean) in
    rw c.in_ok-row_in-in-Ok.was at (read_fits old.now c.args.name.now c.args.key.now c.row_in.result (recovered (state g.S.Store c.args.conn.now) (state g.S.Store c.find_record.new.conn) c.args.name.now c.args.key.now c.bytes.result.now c.args.schema.now c.in-Ok.found c.row_in.result sound c.find_record.ensures.keeps_crash clean
    (c.in-Ok.ensures.reads clean) c.bytes.ensures has (c.in-Ok.ensures.found clean) c.row_in.ensures.found) holds)

pub returns-in_ok-row_in-in-Ok-clause-leads : goal.returns-in_ok-row_in-in-Ok-clause-leads
returns-in_ok-row_in-in-Ok-clause-leads g c clean = read_leads _ _ (c.in-Ok.ensures.reads clean)

pub returns-in-Err-clause-kept : goal.returns-in-Err-clause-kept
returns-in-Err-clause-kept g c = rests_keeps _ _ c.find_record.ensures.keeps_crash (λ clean. c.in-Err.ensures.rests clean)
