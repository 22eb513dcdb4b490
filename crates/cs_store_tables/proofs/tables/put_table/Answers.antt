-- `tables::put_table`: the clauses `declared`, `caused`, `leads` and `kept`.
use Rattle.std.proofs.Common.{◌≡◌, Some, [], false, refl, rules}
use Rattle.cs_store_sql.specs.Failing.{puts}
use Rattle.sqlite.specs.Held.{state}
use Rattle.cs_store_encoding.specs.Declaration.{declaration_bytes}
use Rattle.cs_store_tables.proofs.WriteLemmas.{table_put, no_table, on_ok_both, on_ok_then, shows_state, mapped, written_is, written_keeps}
use Rattle.cs_store_tables.proofs.FailureLemmas.{caused_write, declared, write_leads}
use Rattle.cs_store_tables.proofs.tables.put_table.Goals as goal

pub returns-clause-declared : goal.returns-clause-declared
returns-clause-declared g c sound inside clean =
    let old = state g.S.Store c.args.conn.now in
    let new = state g.S.Store c.put_record.new.conn in
    let h = c.put_record.ensures in
    let spelled : c.deref.result.now ≡ declaration_bytes c.args.schema.now = search rules in
    mapped _ c.put_record.result c.map_err.result _ c.map_err.ensures.cases (on_ok_then c.put_record.result _ _ (λ added. record { free = no_table _ c.args.name.now (c.requires.free (h.was_clean clean)); added = added })
    (written_is old new c.put_record.result [] c.as_bytes.result.now (Some c.deref.result.now) _ sound inside
    (λ before holds set. table_put old.now new.now c.args.name.now c.args.schema.now holds c.requires.named c.in_ok-bytes.ensures.well_formed (c.requires.free before) (rw (c.as_bytes.ensures.value, spelled) at set)) h.survives h.set clean))

pub returns-clause-kept : goal.returns-clause-kept
returns-clause-kept g c sound inside =
    let old = state g.S.Store c.args.conn.now in
    let new = state g.S.Store c.put_record.new.conn in
    let h = c.put_record.ensures in
    let spelled : c.deref.result.now ≡ declaration_bytes c.args.schema.now = search rules in
    written_keeps old new c.put_record.result [] c.as_bytes.result.now (Some c.deref.result.now) _ sound inside
    (λ before holds set. table_put old.now new.now c.args.name.now c.args.schema.now holds c.requires.named c.in_ok-bytes.ensures.well_formed (c.requires.free before) (rw (c.as_bytes.ensures.value, spelled) at set)) h.survives h.set h.goes_on h.marks h.rests

pub returns-clause-caused : goal.returns-clause-caused
returns-clause-caused g c sound inside clean =
    let old = state g.S.Store c.args.conn.now in
    let new = state g.S.Store c.put_record.new.conn in
    let spelled : c.deref.result.now ≡ declaration_bytes c.args.schema.now = search rules in
    caused_write _ old new (puts false [] c.args.name.now (declaration_bytes c.args.schema.now)) c.put_record.result c.map_err.result c.map_err.ensures.cases (λ f e it. it.0)
    (declared old sound (c.put_record.ensures.was_clean clean)) tt (rw (c.as_bytes.ensures.value, spelled) at (c.put_record.ensures.failed clean))

pub returns-clause-leads : goal.returns-clause-leads
returns-clause-leads g c sound inside clean =
    let old = state g.S.Store c.args.conn.now in
    let new = state g.S.Store c.put_record.new.conn in
    let h = c.put_record.ensures in
    let holds = (shows_state old sound inside (h.was_clean clean)).records in
    let spelled : c.deref.result.now ≡ declaration_bytes c.args.schema.now = search rules in
    mapped _ c.put_record.result c.map_err.result _ c.map_err.ensures.cases (on_ok_both c.put_record.result _ _ _
    (write_leads _ old new (puts false [] c.args.name.now (declaration_bytes c.args.schema.now)) ((refl, refl), tt)) (rw (c.as_bytes.ensures.value, spelled) at (h.ends clean holds)) (h.goes_on clean holds inside))
