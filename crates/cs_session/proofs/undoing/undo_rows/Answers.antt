-- `undoing::undo_rows`: the clauses `refused`, `undone`, `caused` and `kept`.
use Rattle.std.proofs.Common.{List, map, rules, ap, subst}
use Rattle.std.proofs.lemmas.Result.{err_from_is_err_and}
use Rattle.cs_wire.specs.Changeset.{GroupData, file_bytes}
use Rattle.cs_apply_engine.specs.declared.running.Direction.TheVariants.{Inverse}
use Rattle.cs_apply_engine.specs.Running.{directed}
use Rattle.cs_apply_engine.specs.Writes.{IsRunWrite}
use Rattle.cs_session.specs.Undoing.{IsUndoWrite}
use Rattle.cs_session_notes.specs.Views.{attached_of}
use Rattle.cs_session_notes.proofs.CauseLemmas.{caused_on, own_of_run, run_caused_on}
use Rattle.cs_session.proofs.OutcomeLemmas.{undoes, refuses_undo}
use Rattle.cs_session.proofs.undoing.undo_rows.Goals as goal

pub returns-in_err-run_changeset_in-clause-refused : goal.returns-in_err-run_changeset_in-clause-refused
returns-in_err-run_changeset_in-clause-refused g c = λ honest.
    let p = err_from_is_err_and c.from_residual-in_err-run_changeset_in.result c.from_residual-in_err-run_changeset_in.ensures.1 in
    let before = c.run_changeset_in.ensures.was_honest honest in
    let was = c.net_changeset.ensures.was_honest before in
    let state = g.B.Rows.state c.args.rows.now in
    let notes = map attached_of c.args.tables.now in
    rw (p.1, p.2)
    (refuses_undo c.changeset_files_law.ensures state notes (c.requires.state was) c.requires.notes (c.in_ok-changeset.ensures.attached before) _ (λ k chosen given. search rules) (file_bytes c.in_ok-changeset.changeset) (ap file_bytes (c.in_ok-changeset.ensures.made before)) _ (c.in_ok-changeset.ensures.same before) _
    (c.in_err-run_changeset_in.ensures.refused honest))

pub returns-clause-undone : goal.returns-clause-undone
returns-clause-undone g c = λ honest.
    let before = c.run_changeset_in.ensures.was_honest honest in
    let was = c.net_changeset.ensures.was_honest before in
    let state = g.B.Rows.state c.args.rows.now in
    let notes = map attached_of c.args.tables.now in
    undoes c.changeset_files_law.ensures state notes (c.requires.state was) c.requires.notes (c.in_ok-changeset.ensures.attached before) _ (λ k chosen given. search rules) (file_bytes c.in_ok-changeset.changeset) (ap file_bytes (c.in_ok-changeset.ensures.made before)) _ (c.in_ok-changeset.ensures.same before) _ _
    (c.in_ok-run_changeset_in.ensures.applied honest)

pub returns-in_err-changeset-clause-caused : goal.returns-in_err-changeset-clause-caused
returns-in_err-changeset-clause-caused g c = λ honest.
    caused_on c.from_residual.result _ _ c.in_err-changeset.field-0.0 c.from_residual.ensures.1
    (λ why by. g.B.Rows.fails_so _ _ _ _ why (λ held write none. absurd none) by) (c.in_err-changeset.ensures.caused honest)

pub returns-in_err-run_changeset_in-clause-caused : goal.returns-in_err-run_changeset_in-clause-caused
returns-in_err-run_changeset_in-clause-caused g c = λ honest.
    let Is = IsUndoWrite (map attached_of c.args.tables.now) (g.B.Rows.state c.args.rows.now) in
    let before = c.run_changeset_in.ensures.was_honest honest in
    let made = c.in_ok-changeset.ensures.made before in
    let has = c.in_ok-changeset.ensures.attached before in
    run_caused_on c.from_residual-in_err-run_changeset_in.result _ _ c.in_err-run_changeset_in.field-0.0 c.from_residual-in_err-run_changeset_in.ensures.1
    (λ why by. g.B.Rows.fails_then Is _ _ _ _ why (g.B.Rows.keeps_so _ Is _ _ _ (λ held write h none. absurd none) c.in_ok-changeset.ensures.kept)
    (g.B.Rows.keeps_so _ Is _ _ _ (λ held write h is. (has, subst (λ (groups : List GroupData). IsRunWrite (directed Inverse groups) held write) made is))
    c.in_err-run_changeset_in.ensures.kept) honest
    (g.B.Rows.fails_so _ _ _ _ why (λ held write is. (has, subst (λ (groups : List GroupData). IsRunWrite (directed Inverse groups) held write) made is)) by)) (c.in_err-run_changeset_in.ensures.caused honest)

pub returns-in_err-changeset-clause-kept : goal.returns-in_err-changeset-clause-kept
returns-in_err-changeset-clause-kept g c =
    let p = err_from_is_err_and c.from_residual.result c.from_residual.ensures.1 in
    let Is = IsUndoWrite (map attached_of c.args.tables.now) (g.B.Rows.state c.args.rows.now) in
    rw (p.1, p.2) (g.B.Rows.keeps_so _ Is _ _ _ (λ held write h none. absurd none) c.in_err-changeset.ensures.kept)

pub returns-in_err-run_changeset_in-clause-kept : goal.returns-in_err-run_changeset_in-clause-kept
returns-in_err-run_changeset_in-clause-kept g c =
    let Is = IsUndoWrite (map attached_of c.args.tables.now) (g.B.Rows.state c.args.rows.now) in
    let p = err_from_is_err_and c.from_residual-in_err-run_changeset_in.result c.from_residual-in_err-run_changeset_in.ensures.1 in
    rw (p.1, p.2, own_of_run c.in_err-run_changeset_in.field-0.0 c.in_err-run_changeset_in.ensures.named)
    (g.B.Rows.keeps_then Is _ _ _ _ (g.B.Rows.keeps_so _ Is _ _ _ (λ held write h none. absurd none) c.in_ok-changeset.ensures.kept)
    (g.B.Rows.keeps_so _ Is _ _ _
    (λ held write honest is.
    let before = c.run_changeset_in.ensures.was_honest honest in
    (c.in_ok-changeset.ensures.attached before, subst (λ (groups : List GroupData). IsRunWrite (directed Inverse groups) held write) (c.in_ok-changeset.ensures.made before) is))
    c.in_err-run_changeset_in.ensures.kept))

pub returns-clause-kept : goal.returns-clause-kept
returns-clause-kept g c =
    let Is = IsUndoWrite (map attached_of c.args.tables.now) (g.B.Rows.state c.args.rows.now) in
    g.B.Rows.keeps_then Is _ _ _ _ (g.B.Rows.keeps_so _ Is _ _ _ (λ held write h none. absurd none) c.in_ok-changeset.ensures.kept)
    (g.B.Rows.keeps_so _ Is _ _ _
    (λ held write honest is.
    let before = c.run_changeset_in.ensures.was_honest honest in
    (c.in_ok-changeset.ensures.attached before, subst (λ (groups : List GroupData). IsRunWrite (directed Inverse groups) held write) (c.in_ok-changeset.ensures.made before) is))
    c.in_ok-run_changeset_in.ensures.kept)
