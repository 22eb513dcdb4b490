-- `tables::add_row`: the clauses `added`, `caused`, `leads` and `kept`.
use Rattle.std.proofs.Common.{◌≡◌, ◌≢◌, Some, None, true, true≢false, refl, sym, ap, subst, ◌∙◌, rules, inl, inr}
use Rattle.std.proofs.lemmas.Result.{IfErr-weaker}
use Rattle.cs_value.specs.Spelling.{row_bytes}
use Rattle.cs_value.specs.State.{State, row_at}
use Rattle.cs_rows.specs.Rows.{IsDeclared, puts_row}
use Rattle.cs_rows.specs.Faults.{IsCaused}
use Rattle.sqlite.specs.Held.{state}
use Rattle.sqlite.specs.State.{IsUnchanged}
use Rattle.cs_store_sql.specs.Faults.{not_unique}
use Rattle.cs_store_sql.specs.Failing.{Statement, puts}
use Rattle.cs_store_sql.specs.declared.fault.RecordsError.TheVariants.{Database}
use Rattle.sqlite.specs.declared.error.Error.{Error}
use Rattle.sqlite.specs.Effect.{Database as Shown}
use Rattle.cs_store_tables.specs.Store.{tables_in}
use Rattle.cs_store_tables.specs.Failing.{BatchFails, ReadFails, Writes}
use Rattle.cs_store_tables.specs.Laws.{keeps_then, leads_on_then, read_then, was_clean}
use Rattle.cs_store_tables.proofs.StoreLemmas.{rests_keeps}
use Rattle.cs_store_tables.proofs.ReadLemmas.{declared_by, free_row, no_record}
use Rattle.cs_store_tables.proofs.WriteLemmas.{on_ok_then, put_keeps, row_put, shows_state, written_is}
use Rattle.cs_store_tables.proofs.FailureLemmas.{add_fails, cannot_write, declared, read_fails, read_leads, refused_fails, so_caused, write_caused, write_leads}
use Rattle.cs_store_tables.proofs.tables.add_row.Goals as goal

pub returns-in-Ok-clause-kept : goal.returns-in-Ok-clause-kept
returns-in-Ok-clause-kept g c sound inside =
    let old = state g.S.Store c.args.conn.now in
    let mid = state g.S.Store c.add_record.new.conn in
    let spelled : c.deref.result.now ≡ row_bytes c.args.row.now = search rules in
    put_keeps old mid c.add_record.result c.args.name.now c.args.key.now c.args.row.now c.bytes.result.now c.deref.result.now sound inside c.requires c.bytes.ensures spelled c.add_record.ensures.writes.survives c.add_record.ensures.writes.set
    c.add_record.ensures.writes.goes_on c.add_record.ensures.writes.marks c.add_record.ensures.writes.rests

pub returns-clause-kept : goal.returns-clause-kept
returns-clause-kept g c sound inside =
    let old = state g.S.Store c.args.conn.now in
    let mid = state g.S.Store c.add_record.new.conn in
    let spelled : c.deref.result.now ≡ row_bytes c.args.row.now = search rules in
    put_keeps old mid c.add_record.result c.args.name.now c.args.key.now c.args.row.now c.bytes.result.now c.deref.result.now sound inside c.requires c.bytes.ensures spelled c.add_record.ensures.writes.survives c.add_record.ensures.writes.set
    c.add_record.ensures.writes.goes_on c.add_record.ensures.writes.marks c.add_record.ensures.writes.rests

pub returns-in-Err-clause-kept : goal.returns-in-Err-clause-kept
returns-in-Err-clause-kept g c sound inside =
    let old = state g.S.Store c.args.conn.now in
    let mid = state g.S.Store c.add_record.new.conn in
    let spelled : c.deref.result.now ≡ row_bytes c.args.row.now = search rules in
    keeps_then (put_keeps old mid c.add_record.result c.args.name.now c.args.key.now c.args.row.now c.bytes.result.now c.deref.result.now sound inside c.requires c.bytes.ensures spelled c.add_record.ensures.writes.survives c.add_record.ensures.writes.set
    c.add_record.ensures.writes.goes_on c.add_record.ensures.writes.marks c.add_record.ensures.writes.rests) (rests_keeps _ _ c.expect_row.ensures.keeps_crash (λ clean. c.expect_row.ensures.rests clean))

pub returns-in-Ok-clause-added : goal.returns-in-Ok-clause-added
returns-in-Ok-clause-added g c sound inside clean =
    let old = state g.S.Store c.args.conn.now in
    let mid = state g.S.Store c.add_record.new.conn in
    let h = c.add_record.ensures.writes in
    let was = h.was_clean clean in
    let holds = shows_state old sound inside was in
    let fits = c.requires was in
    let spelled : c.deref.result.now ≡ row_bytes c.args.row.now = search rules in
    let put = written_is old mid c.add_record.result c.args.name.now c.bytes.result.now (Some c.deref.result.now) _ sound inside
    (λ clean holds set. row_put old.now mid.now c.args.name.now c.args.key.now c.args.row.now holds (c.requires clean) (rw (c.bytes.ensures, spelled) at set)) h.survives h.set clean in
    (free_row old.now c.args.name.now c.args.key.now c.args.row.now holds fits (rw c.bytes.ensures at (c.in-Ok.ensures.free clean holds.records)), rw c.in-Ok.is at put)

pub returns-in-Ok-clause-leads : goal.returns-in-Ok-clause-leads
returns-in-Ok-clause-leads g c sound inside clean =
    let old = state g.S.Store c.args.conn.now in
    let mid = state g.S.Store c.add_record.new.conn in
    let holds = (shows_state old sound inside (c.add_record.ensures.writes.was_clean clean)).records in
    let spelled : c.deref.result.now ≡ row_bytes c.args.row.now = search rules in
    write_leads (Writes (λ held write. (held ≡ tables_in old.now) × (write ≡ puts_row c.args.name.now c.args.key.now c.args.row.now))) old mid (puts true c.args.name.now c.args.key.now (row_bytes c.args.row.now))
    ((puts_row c.args.name.now c.args.key.now c.args.row.now, (refl, refl, refl), (refl, refl)), rw c.bytes.ensures at (c.in-Ok.ensures.free clean holds))
    (rw (c.bytes.ensures, spelled) at (c.in-Ok.ensures.writes.ends clean holds)) (c.in-Ok.ensures.writes.goes_on clean holds inside)

pub returns-in-Err-clause-leads : goal.returns-in-Err-clause-leads
returns-in-Err-clause-leads g c sound inside clean =
    let old = state g.S.Store c.args.conn.now in
    let mid = state g.S.Store c.add_record.new.conn in
    let new = state g.S.Store c.expect_row.new.conn in
    let now = was_clean mid new c.expect_row.ensures.keeps_crash clean in
    let same : IsUnchanged old mid = c.in-Err.ensures.refused now (c.is_not_unique.ensures.0 c.if-is_not_unique.true) in
    let first = c.add_record.ensures.writes.survives (λ was. (shows_state old sound inside was).records) (λ was. inside) in
    on_ok_then c.expect_row.result _ _ (λ read. leads_on_then first (read_leads old mid same) (read_leads mid new read)) (c.expect_row.ensures.reads clean)

pub returns-clause-caused : goal.returns-clause-caused
returns-clause-caused g c sound inside clean =
    let old = state g.S.Store c.args.conn.now in
    let mid = state g.S.Store c.add_record.new.conn in
    let spelled : c.deref.result.now ≡ row_bytes c.args.row.now = search rules in
    let was = c.add_record.ensures.writes.was_clean clean in
    let other : c.in-Err.error ≢ not_unique = λ is. true≢false (sym (c.is_not_unique.ensures.1 is) ∙ c.if-is_not_unique.false) in
    rw c.refused.ensures.is (so_caused _ _ _ (add_fails old mid c.args.name.now c.args.key.now c.args.row.now)
    (write_caused old mid (puts true c.args.name.now c.args.key.now (row_bytes c.args.row.now)) c.in-Err.error (declared old sound was)
    (λ e is unique. absurd (other (is ∙ ap (λ (error : Error). Database error) unique)))
    (rw (c.bytes.ensures, spelled) at (c.in-Err.ensures.writes.failed clean))))

pub returns-in-Err-clause-caused : goal.returns-in-Err-clause-caused
returns-in-Err-clause-caused g c sound inside clean =
    let old = state g.S.Store c.args.conn.now in
    let mid = state g.S.Store c.add_record.new.conn in
    let new = state g.S.Store c.expect_row.new.conn in
    let name = c.args.name.now in
    let key = c.args.key.now in
    let row = c.args.row.now in
    let Is : State → Statement → Type 0 = Writes (λ held write. (held ≡ tables_in old.now) × (write ≡ puts_row name key row)) in
    let spelled : c.deref.result.now ≡ row_bytes row = search rules in
    let now = was_clean mid new c.expect_row.ensures.keeps_crash clean in
    let was = c.add_record.ensures.writes.was_clean now in
    let unique = c.is_not_unique.ensures.0 c.if-is_not_unique.true in
    let same : IsUnchanged old mid = c.in-Err.ensures.refused now unique in
    let kept = put_keeps old mid c.add_record.result name key row c.bytes.result.now c.deref.result.now sound inside c.requires c.bytes.ensures spelled c.add_record.ensures.writes.survives c.add_record.ensures.writes.set
    c.add_record.ensures.writes.goes_on c.add_record.ensures.writes.marks c.add_record.ensures.writes.rests in
    let fits = c.requires was in
    let holds = shows_state old sound inside was in
    let there : IsDeclared (tables_in mid.now) name = subst (λ (db : Shown). IsDeclared (tables_in db) name) (sym same.0.now_is) (declared_by (tables_in old.now) name key row fits) in
    let fails = cannot_write old mid (puts true name key (row_bytes row)) (declared old sound was) c.in-Err.error (rw (c.bytes.ensures, spelled) at (c.in-Err.ensures.writes.failed now)) in
    let free = λ (none : row_at (tables_in mid.now) name key ≡ None). no_record old.now name key row holds fits (ap (λ (db : Shown). row_at (tables_in db) name key) (sym same.0.now_is) ∙ none) in
    IfErr-weaker c.expect_row.result _ _ (λ e why. elim why [
      | inl read ↦ so_caused (ReadFails mid new) (BatchFails Is old new) e (λ cause fails. read_fails Is old new cause (read_then old mid new cause kept.crash now c.expect_row.ensures.keeps_crash fails)) read
      | inr refused ↦ subst (IsCaused (BatchFails Is old new)) (sym refused.0) (refused_fails old mid new name key row c.in-Err.error unique (free refused.1) fails)
    ]) (c.expect_row.ensures.caused (kept.sound sound) clean there)
