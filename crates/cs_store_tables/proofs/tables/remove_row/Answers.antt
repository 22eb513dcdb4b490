-- `tables::remove_row`: the clauses `removed`, `caused`, `leads` and `kept`.
use Rattle.std.proofs.Common.{None, refl}
use Rattle.sqlite.specs.Held.{state}
use Rattle.cs_store_tables.proofs.WriteLemmas.{row_removed, mapped, on_ok_both, shows_state, written_is, written_keeps}
use Rattle.cs_store_sql.specs.Failing.{remove_at}
use Rattle.cs_store_tables.specs.Laws.{was_clean}
use Rattle.cs_store_tables.proofs.FailureLemmas.{apt_removal, caused_write, declared, write_leads}
use Rattle.cs_store_tables.proofs.tables.remove_row.Goals as goal

pub returns-clause-removed : goal.returns-clause-removed
returns-clause-removed g c sound inside =
    let old = state g.S.Store c.args.conn.now in
    let new = state g.S.Store c.remove_record.new.conn in
    let h = c.remove_record.ensures in
    λ clean. mapped _ c.remove_record.result c.map_err.result _ c.map_err.ensures.cases (written_is old new c.remove_record.result c.args.name.now c.bytes.result.now None _ sound inside (λ clean holds set. row_removed old.now new.now c.args.name.now c.args.key.now holds (c.requires.declared clean) (rw c.bytes.ensures at set)) h.survives h.set clean)

pub returns-clause-kept : goal.returns-clause-kept
returns-clause-kept g c sound inside =
    let old = state g.S.Store c.args.conn.now in
    let new = state g.S.Store c.remove_record.new.conn in
    let h = c.remove_record.ensures in
    written_keeps old new c.remove_record.result c.args.name.now c.bytes.result.now None _ sound inside (λ clean holds set. row_removed old.now new.now c.args.name.now c.args.key.now holds (c.requires.declared clean) (rw c.bytes.ensures at set)) h.survives h.set h.goes_on h.marks h.rests

pub returns-clause-caused : goal.returns-clause-caused
returns-clause-caused g c sound inside clean =
    let old = state g.S.Store c.args.conn.now in
    let new = state g.S.Store c.remove_record.new.conn in
    let was = was_clean old new (returns-clause-kept g c sound inside).crash clean in
    caused_write _ old new (remove_at c.args.place c.args.name.now c.args.key.now) c.remove_record.result c.map_err.result c.map_err.ensures.cases (λ f e it. it.0)
    (declared old sound was) (apt_removal old.now c.args.place c.args.name.now c.args.key.now (c.requires.placed was)) (rw c.bytes.ensures at (c.remove_record.ensures.failed clean))

pub returns-clause-leads : goal.returns-clause-leads
returns-clause-leads g c sound inside clean =
    let old = state g.S.Store c.args.conn.now in
    let new = state g.S.Store c.remove_record.new.conn in
    let h = c.remove_record.ensures in
    let was = was_clean old new (returns-clause-kept g c sound inside).crash clean in
    let holds = (shows_state old sound inside was).records in
    mapped _ c.remove_record.result c.map_err.result _ c.map_err.ensures.cases (on_ok_both c.remove_record.result _ _ _
    (write_leads _ old new (remove_at c.args.place c.args.name.now c.args.key.now) ((refl, refl), apt_removal old.now c.args.place c.args.name.now c.args.key.now (c.requires.placed was))) (rw c.bytes.ensures at (h.ends clean holds)) (h.goes_on clean holds inside))

pub remove_record-requires : goal.remove_record-requires
remove_record-requires g c = λ clean records. rw c.bytes.ensures (c.requires.placed clean)
