-- `adoption::check_empty`: what `write_version` asks for, the clause `refused`.
use Rattle.std.proofs.Common.{◌≡◌, ◌⊎◌, inl, [], refl, sym, subst}
use Rattle.sqlite.specs.Held.{state}
use Rattle.sqlite.specs.Effect.{Database}
use Rattle.cs_store_tables.specs.Laws.{was_clean}
use Rattle.cs_store_sql.specs.Records.{HoldsRecords, record_rows, records_in}
use Rattle.cs_store_encoding.specs.Valid.{AreValid}
use Rattle.cs_store_adoption.proofs.AdoptionLemmas.{none_passes, scanned_holds, unnamed_held}
use Rattle.std.proofs.Common.{◌∙◌}
use Rattle.cs_rows.specs.Faults.{IsCaused}
use Rattle.cs_store_tables.specs.Failing.{SetUpFails}
use Rattle.cs_store_adoption.proofs.AdoptionFailures.{read_refused, version_refused}
use Rattle.cs_store_adoption.proofs.adoption.check_empty.Goals as goal

pub write_version-requires-clause-records : goal.write_version-requires-clause-records
write_version-requires-clause-records g c clean =
    let old = state g.S.Store c.args.conn.now in
    let declared = c.requires.declared (was_clean old (state g.S.Store c.all_pass.new.conn) c.all_pass.ensures.keeps_crash clean) in
    let pass = c.in-Ok-true.ensures.passed clean declared.0 c.in-Ok-true.field-0-test in
    subst (λ (db : Database). HoldsRecords db × ((record_rows db ≡ []) ⊎ AreValid (records_in db))) (sym (c.in-Ok-true.ensures.reads clean).0.now_is)
    (scanned_holds old.now _ declared.0 declared.1 pass, inl (none_passes (record_rows old.now) pass))

pub returns-in-Ok-false-clause-refused : goal.returns-in-Ok-false-clause-refused
returns-in-Ok-false-clause-refused g c clean =
    let old = state g.S.Store c.args.conn.now in
    let before = was_clean old (state g.S.Store c.all_pass.new.conn) c.all_pass.ensures.keeps_crash clean in
    let declared = c.requires.declared before in
    inl (refl, unnamed_held old.now declared.0 (c.requires.unnamed before) (c.in-Ok-false.ensures.failed clean declared.0 c.in-Ok-false.field-0-test))

pub returns-in-Ok-true-clause-caused : goal.returns-in-Ok-true-clause-caused
returns-in-Ok-true-clause-caused g c clean =
    let old = state g.S.Store c.args.conn.now in
    let mid = state g.S.Store c.all_pass.new.conn in
    let read_clean = was_clean mid (state g.S.Store c.write_version.new.conn) c.write_version.ensures.survives clean in
    let before = was_clean old mid c.all_pass.ensures.keeps_crash read_clean in
    let inside = c.requires.inside before in
    let declared = c.requires.declared before in
    let same = (c.in-Ok-true.ensures.reads read_clean).0 in
    let holds = scanned_holds old.now _ declared.0 declared.1 (c.in-Ok-true.ensures.passed read_clean declared.0 c.in-Ok-true.field-0-test) in
    version_refused g.S.Store c.args.conn.now c.write_version.new.conn c.all_pass.new.conn c.write_version.result
    (record { inside = same.mode ∙ inside.inside; shows = (subst HoldsRecords (sym same.now_is) holds, inl same.now_is); crash = c.all_pass.ensures.keeps_crash }) c.write_version.ensures.survives (c.write_version.ensures.caused clean)

pub returns-in-Err-clause-caused : goal.returns-in-Err-clause-caused
returns-in-Err-clause-caused g c clean =
    let old = state g.S.Store c.args.conn.now in
    let declared = c.requires.declared (was_clean old (state g.S.Store c.all_pass.new.conn) c.all_pass.ensures.keeps_crash clean) in
    subst (IsCaused (SetUpFails g.S.Store c.args.conn.now c.all_pass.new.conn)) (sym c.refused.ensures.is)
    (read_refused g.S.Store c.args.conn.now c.all_pass.new.conn c.in-Err.error (c.in-Err.ensures.caused clean declared.0))
