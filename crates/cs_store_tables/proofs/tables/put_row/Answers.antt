-- `tables::put_row`: the clauses `put`, `caused`, `leads` and `kept`.
use Rattle.std.proofs.Common.{◌≡◌, Some, refl, rules}
use Rattle.cs_store_tables.proofs.FailureLemmas.{caused_write, apt_put, declared, write_leads}
use Rattle.cs_store_sql.specs.Failing.{put_at}
use Rattle.sqlite.specs.Held.{state}
use Rattle.cs_value.specs.Spelling.{row_bytes}
use Rattle.cs_store_tables.proofs.WriteLemmas.{put_keeps, row_put, mapped, on_ok_both, shows_state, written_is}
use Rattle.cs_store_tables.proofs.tables.put_row.Goals as goal

pub returns-clause-put : goal.returns-clause-put
returns-clause-put g c sound inside =
    let old = state g.S.Store c.args.conn.now in
    let new = state g.S.Store c.put_record.new.conn in
    let h = c.put_record.ensures in
    let spelled : c.deref.result.now ≡ row_bytes c.args.row.now = search rules in
    λ clean. mapped _ c.put_record.result c.map_err.result _ c.map_err.ensures.cases (written_is old new c.put_record.result c.args.name.now c.bytes.result.now (Some c.deref.result.now) _ sound inside
    (λ clean holds set. row_put old.now new.now c.args.name.now c.args.key.now c.args.row.now holds (c.requires.fits clean) (rw (c.bytes.ensures, spelled) at set)) h.survives h.set clean)

pub returns-clause-kept : goal.returns-clause-kept
returns-clause-kept g c sound inside =
    let old = state g.S.Store c.args.conn.now in
    let new = state g.S.Store c.put_record.new.conn in
    let spelled : c.deref.result.now ≡ row_bytes c.args.row.now = search rules in
    put_keeps old new c.put_record.result c.args.name.now c.args.key.now c.args.row.now c.bytes.result.now c.deref.result.now sound inside c.requires.fits c.bytes.ensures spelled c.put_record.ensures.survives
    c.put_record.ensures.set c.put_record.ensures.goes_on c.put_record.ensures.marks c.put_record.ensures.rests

pub put_record-requires : goal.put_record-requires
put_record-requires g c = λ clean records. rw c.bytes.ensures (c.requires.placed clean)

pub returns-clause-caused : goal.returns-clause-caused
returns-clause-caused g c sound inside clean =
    let old = state g.S.Store c.args.conn.now in
    let new = state g.S.Store c.put_record.new.conn in
    let spelled : c.deref.result.now ≡ row_bytes c.args.row.now = search rules in
    let was = c.put_record.ensures.was_clean clean in
    caused_write _ old new (put_at c.args.place c.args.name.now c.args.key.now (row_bytes c.args.row.now)) c.put_record.result c.map_err.result c.map_err.ensures.cases (λ f e it. it.0) (declared old sound was)
    (apt_put old.now c.args.place c.args.name.now c.args.key.now (row_bytes c.args.row.now) (c.requires.placed was))
    (rw (c.bytes.ensures, spelled) at (c.put_record.ensures.failed clean))

pub returns-clause-leads : goal.returns-clause-leads
returns-clause-leads g c sound inside clean =
    let old = state g.S.Store c.args.conn.now in
    let new = state g.S.Store c.put_record.new.conn in
    let h = c.put_record.ensures in
    let was = h.was_clean clean in
    let holds = (shows_state old sound inside was).records in
    let spelled : c.deref.result.now ≡ row_bytes c.args.row.now = search rules in
    let made = apt_put old.now c.args.place c.args.name.now c.args.key.now (row_bytes c.args.row.now) (c.requires.placed was) in
    mapped _ c.put_record.result c.map_err.result _ c.map_err.ensures.cases (on_ok_both c.put_record.result _ _ _
    (write_leads _ old new (put_at c.args.place c.args.name.now c.args.key.now (row_bytes c.args.row.now)) ((refl, refl), made)) (rw (c.bytes.ensures, spelled) at (h.ends clean holds)) (h.goes_on clean holds inside))
