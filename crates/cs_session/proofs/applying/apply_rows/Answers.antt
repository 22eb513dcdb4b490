-- `applying::apply_rows`: the clauses `refused`, `well_formed`, `caused` and `kept`.
use Rattle.std.proofs.Common.{map}
use Rattle.std.specs.Fn.{FnReturnsAt}
use Rattle.std.proofs.lemmas.Result.{err_from_is_err_and}
use Rattle.cs_apply_engine.specs.Writes.{IsFileWrite}
use Rattle.cs_session_notes.specs.Views.{attached_of}
use Rattle.cs_session_notes.proofs.CauseLemmas.{caused_on, own_of_run, run_caused_on}
use Rattle.cs_session_notes.proofs.NotesLemmas.{recorded_are}
use Rattle.cs_session.proofs.RecordLemmas.{refuses_applying, refuses_noting, applies_formers}
use Rattle.cs_session.proofs.applying.apply_rows.Goals as goal

pub returns-in_err-report-clause-refused : goal.returns-in_err-report-clause-refused
returns-in_err-report-clause-refused g c = λ honest.
    let p = err_from_is_err_and c.from_residual-in_err-report.result c.from_residual-in_err-report.ensures.1 in
    let before = c.run_in.ensures.was_honest honest in
    let state = g.B.Rows.state c.args.rows.now in
    let refused = rw (c.in_ok-check_tables.ensures.same before) at (c.in_err-report.ensures.refused honest) in
    rw (p.1, p.2) (refuses_applying (FnReturnsAt g.H.Fn c.args.handler.now) c.args.noop c.args.file.now c.args.direction state (map attached_of c.args.tables.now) (rw c.as_slice.ensures at (c.in_ok-check_tables.ensures.attached before)) _ refused)

pub returns-in_err-note_all-clause-refused : goal.returns-in_err-note_all-clause-refused
returns-in_err-note_all-clause-refused g c = λ honest.
    let p = err_from_is_err_and c.from_residual-in_err-note_all.result c.from_residual-in_err-note_all.ensures.1 in
    let before = c.run_in.ensures.was_honest honest in
    let was = c.check_tables.ensures.was_honest before in
    let state = g.B.Rows.state c.args.rows.now in
    let chooses = FnReturnsAt g.H.Fn c.args.handler.now in
    let notes = map attached_of c.args.tables.now in
    let applied = rw (c.in_ok-check_tables.ensures.same before) at (c.in_ok-report.ensures.applied honest) in
    let formers = applies_formers chooses c.args.noop c.args.file.now c.args.direction state notes c.in_ok-report.report _ applied (c.requires.state was) (rw c.as_slice.ensures at (c.in_ok-check_tables.ensures.attached before)) in
    let refused = rw c.deref.ensures.value at c.in_err-note_all.ensures.refused in
    rw (p.1, p.2) (refuses_noting chooses c.args.noop c.args.file.now c.args.direction state notes _ _ formers refused)

pub returns-clause-well_formed : goal.returns-clause-well_formed
returns-clause-well_formed g c =
    rw (c.in_ok-note_all.ensures.noted) (recorded_are _ (map attached_of c.args.tables.now) c.requires.notes c.in_ok-note_all.ensures.formers)

pub returns-in_err-check_tables-clause-caused : goal.returns-in_err-check_tables-clause-caused
returns-in_err-check_tables-clause-caused g c = λ honest.
    caused_on c.from_residual.result _ _ c.in_err-check_tables.field-0.0 c.from_residual.ensures.1
    (λ why by. g.B.Rows.fails_so _ _ _ _ why (λ held write none. absurd none) by) (c.in_err-check_tables.ensures.caused honest)

pub returns-in_err-report-clause-caused : goal.returns-in_err-report-clause-caused
returns-in_err-report-clause-caused g c = λ honest.
    run_caused_on c.from_residual-in_err-report.result _ _ c.in_err-report.field-0.0 c.from_residual-in_err-report.ensures.1
    (λ why by. g.B.Rows.fails_then _ _ _ _ _ why
    (g.B.Rows.keeps_so _ (IsFileWrite c.args.direction c.args.file.now) _ _ _ (λ held write h none. absurd none) c.in_ok-check_tables.ensures.kept)
    c.in_err-report.ensures.kept honest by) (c.in_err-report.ensures.caused honest)

pub returns-in_err-check_tables-clause-kept : goal.returns-in_err-check_tables-clause-kept
returns-in_err-check_tables-clause-kept g c =
    let p = err_from_is_err_and c.from_residual.result c.from_residual.ensures.1 in
    rw (p.1, p.2) (g.B.Rows.keeps_so _ _ _ _ _ (λ held write h none. absurd none) c.in_err-check_tables.ensures.kept)

pub returns-in_err-report-clause-kept : goal.returns-in_err-report-clause-kept
returns-in_err-report-clause-kept g c =
    let Is = IsFileWrite c.args.direction c.args.file.now in
    let p = err_from_is_err_and c.from_residual-in_err-report.result c.from_residual-in_err-report.ensures.1 in
    rw (p.1, p.2, own_of_run c.in_err-report.field-0.0 c.in_err-report.ensures.named)
    (g.B.Rows.keeps_then Is _ _ _ _ (g.B.Rows.keeps_so _ Is _ _ _ (λ held write h none. absurd none) c.in_ok-check_tables.ensures.kept)
    c.in_err-report.ensures.kept)

pub returns-in_err-note_all-clause-kept : goal.returns-in_err-note_all-clause-kept
returns-in_err-note_all-clause-kept g c =
    let Is = IsFileWrite c.args.direction c.args.file.now in
    g.B.Rows.keeps_refused Is _ _ _
    (g.B.Rows.keeps_then Is _ _ _ _ (g.B.Rows.keeps_so _ Is _ _ _ (λ held write h none. absurd none) c.in_ok-check_tables.ensures.kept)
    c.in_ok-report.ensures.kept)

pub returns-clause-kept : goal.returns-clause-kept
returns-clause-kept g c =
    let Is = IsFileWrite c.args.direction c.args.file.now in
    g.B.Rows.keeps_then Is _ _ _ _ (g.B.Rows.keeps_so _ Is _ _ _ (λ held write h none. absurd none) c.in_ok-check_tables.ensures.kept)
    c.in_ok-report.ensures.kept
