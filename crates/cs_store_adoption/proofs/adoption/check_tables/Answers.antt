-- `adoption::check_tables`: what `renew_version` asks for, the clause `refused`.
use Rattle.std.proofs.Common.{◌≡◌, inl, inr, Some, [], refl, sym, subst}
use Rattle.std.proofs.lemmas.Result.{err_from_is_err_and}
use Rattle.sqlite.specs.Held.{state}
use Rattle.sqlite.specs.Effect.{Database}
use Rattle.cs_store_tables.specs.Laws.{was_clean}
use Rattle.cs_store_sql.specs.Records.{HoldsRecords, records_in}
use Rattle.cs_store_encoding.specs.Valid.{AreValid}
use Rattle.cs_store_encoding.specs.Versions.{bytes_of}
use Rattle.cs_store_encoding.proofs.CheckLemmas.{valid_tables}
use Rattle.cs_store_adoption.proofs.AdoptionLemmas.{none_held, scanned_holds, scanned_valid, valid_passes}
use Rattle.std.proofs.Common.{◌∙◌}
use Rattle.cs_rows.specs.Faults.{IsCaused}
use Rattle.cs_store_tables.specs.Failing.{SetUpFails}
use Rattle.cs_store_adoption.proofs.AdoptionFailures.{read_refused, version_refused}
use Rattle.cs_store_adoption.proofs.adoption.check_tables.Goals as goal

pub returns-in_err-schemas-clause-refused : goal.returns-in_err-schemas-clause-refused
returns-in_err-schemas-clause-refused g c clean =
    let db = (state g.S.Store c.args.conn.now).now in
    let lists = c.requires.listed clean in
    let p = err_from_is_err_and c.from_residual.result c.from_residual.ensures.1 in
    rw (p.1, p.2) (elim c.in_err-schemas.ensures.refused [
      | inl damaged ↦ inl (
        damaged.0,
        none_held db c.args.listed.now (c.requires.declared clean).0 lists c.requires.some (λ holds valid.
            damaged.1 (valid_tables (records_in db) c.args.listed.now (bytes_of c.args.version) (lists holds) (c.requires.version clean holds) valid)),
      )
      | inr memory ↦ inr (inl memory)
    ])

pub renew_version-requires-clause-records : goal.renew_version-requires-clause-records
renew_version-requires-clause-records g c clean =
    let old = state g.S.Store c.args.conn.now in
    let before = was_clean old (state g.S.Store c.all_pass.new.conn) c.all_pass.ensures.keeps_crash clean in
    let declared = c.requires.declared before in
    let pass = c.in-Ok-true.ensures.passed clean declared.0 c.in-Ok-true.field-0-test in
    let holds = scanned_holds old.now _ declared.0 declared.1 pass in
    let first = c.requires.version before holds in
    subst (λ (db : Database). HoldsRecords db × AreValid (records_in db) × (records_in db [] [] ≡ Some (bytes_of c.args.version))) (sym (c.in-Ok-true.ensures.reads clean).0.now_is)
    (holds, scanned_valid old.now c.args.version c.args.listed.now c.in_ok-schemas.schemas c.in_ok-schemas.ensures.read holds (c.requires.listed before holds) pass first, first)

pub returns-in-Ok-false-clause-refused : goal.returns-in-Ok-false-clause-refused
returns-in-Ok-false-clause-refused g c clean =
    let old = state g.S.Store c.args.conn.now in
    let before = was_clean old (state g.S.Store c.all_pass.new.conn) c.all_pass.ensures.keeps_crash clean in
    let declared = c.requires.declared before in
    let lists = c.requires.listed before in
    inl (
      refl,
      none_held old.now c.args.listed.now declared.0 lists c.requires.some (λ holds valid.
          c.in-Ok-false.ensures.failed clean declared.0 c.in-Ok-false.field-0-test
          (valid_passes old.now c.args.version c.args.listed.now c.in_ok-schemas.schemas c.in_ok-schemas.ensures.read holds (lists holds) valid)),
    )

pub returns-in-Ok-true-clause-caused : goal.returns-in-Ok-true-clause-caused
returns-in-Ok-true-clause-caused g c clean =
    let old = state g.S.Store c.args.conn.now in
    let mid = state g.S.Store c.all_pass.new.conn in
    let read_clean = was_clean mid (state g.S.Store c.renew_version.new.conn) c.renew_version.ensures.survives clean in
    let before = was_clean old mid c.all_pass.ensures.keeps_crash read_clean in
    let inside = c.requires.inside before in
    let declared = c.requires.declared before in
    let same = (c.in-Ok-true.ensures.reads read_clean).0 in
    let holds = scanned_holds old.now _ declared.0 declared.1 (c.in-Ok-true.ensures.passed read_clean declared.0 c.in-Ok-true.field-0-test) in
    version_refused g.S.Store c.args.conn.now c.renew_version.new.conn c.all_pass.new.conn c.renew_version.result
    (record { inside = same.mode ∙ inside.inside; shows = (subst HoldsRecords (sym same.now_is) holds, inl same.now_is); crash = c.all_pass.ensures.keeps_crash }) c.renew_version.ensures.survives (c.renew_version.ensures.caused clean)

pub returns-clause-caused : goal.returns-clause-caused
returns-clause-caused g c clean =
    let old = state g.S.Store c.args.conn.now in
    let declared = c.requires.declared (was_clean old (state g.S.Store c.all_pass.new.conn) c.all_pass.ensures.keeps_crash clean) in
    subst (IsCaused (SetUpFails g.S.Store c.args.conn.now c.all_pass.new.conn)) (sym c.refused.ensures.is)
    (read_refused g.S.Store c.args.conn.now c.all_pass.new.conn c.in-Err.error (c.in-Err.ensures.caused clean declared.0))
