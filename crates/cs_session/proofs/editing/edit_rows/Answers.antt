-- `editing::edit_rows`: the clauses `well_formed`, `refused`, `caused` and `kept`.
use Rattle.std.proofs.Common.{map, subst}
use Rattle.std.proofs.lemmas.Result.{IfErr-weaker, err_from_is_err_and}
use Rattle.cs_value.specs.State.{State}
use Rattle.cs_rows.specs.Editing.{IsWriteOf}
use Rattle.cs_session_notes.specs.Views.{attached_of}
use Rattle.cs_session_notes.proofs.CauseLemmas.{caused_on, own_of_store, rows_caused_on}
use Rattle.cs_session.proofs.EditLemmas.{edited_formers, refuses_edit, refuses_noting, noted_are}
use Rattle.cs_session.proofs.editing.edit_rows.Goals as goal

pub returns-clause-well_formed : goal.returns-clause-well_formed
returns-clause-well_formed g c =
    noted_are c.note_all.result (map attached_of c.args.tables.now) _ _ c.requires.notes c.note_all.ensures.noted c.note_all.ensures.formers

pub returns-in_err-written-clause-refused : goal.returns-in_err-written-clause-refused
returns-in_err-written-clause-refused g c = λ honest.
    let p = err_from_is_err_and c.from_residual-in_err-written.result c.from_residual-in_err-written.ensures.1 in
    let before = c.edit_in.ensures.was_honest honest in
    let state = g.B.Rows.state c.args.rows.now in
    let has = rw c.edited_table.ensures at (c.in_ok-check_named.ensures.attached before) in
    let refused = rw (c.in_ok-check_named.ensures.same before) at (c.in_err-written.ensures.refused honest) in
    rw (p.1, p.2) (refuses_edit state c.args.edit.now (map attached_of c.args.tables.now) has _ refused)

pub returns-clause-refused : goal.returns-clause-refused
returns-clause-refused g c = λ honest.
    let before = c.edit_in.ensures.was_honest honest in
    let same = c.in_ok-check_named.ensures.same before in
    let was = c.check_named.ensures.was_honest before in
    let state = g.B.Rows.state c.args.rows.now in
    let edit = c.args.edit.now in
    let notes = map attached_of c.args.tables.now in
    let has = rw c.edited_table.ensures at (c.in_ok-check_named.ensures.attached before) in
    let done = rw same at (c.in_ok-written.ensures.edited honest) in
    let formers = edited_formers state edit _ done (c.requires.state was) notes has in
    IfErr-weaker c.note_all.result _ _ (λ e refused. refuses_noting state edit notes _ e formers refused) (rw c.deref.ensures.value at c.note_all.ensures.refused)

pub returns-in_err-check_named-clause-caused : goal.returns-in_err-check_named-clause-caused
returns-in_err-check_named-clause-caused g c = λ honest.
    caused_on c.from_residual.result _ _ c.in_err-check_named.field-0.0 c.from_residual.ensures.1
    (λ why by. g.B.Rows.fails_so _ _ _ _ why (λ held write none. absurd none) by) (c.in_err-check_named.ensures.caused honest)

pub returns-in_err-written-clause-caused : goal.returns-in_err-written-clause-caused
returns-in_err-written-clause-caused g c = λ honest.
    let same = c.in_ok-check_named.ensures.same (c.edit_in.ensures.was_honest honest) in
    rows_caused_on c.from_residual-in_err-written.result _ _ c.in_err-written.field-0.0 c.from_residual-in_err-written.ensures.1
    (λ why by. g.B.Rows.fails_then (IsWriteOf (g.B.Rows.state c.args.rows.now) c.args.edit.now) _ _ _ _ why
    (g.B.Rows.keeps_so _ (IsWriteOf (g.B.Rows.state c.args.rows.now) c.args.edit.now) _ _ _ (λ held write h none. absurd none) c.in_ok-check_named.ensures.kept)
    (g.B.Rows.keeps_so _ (IsWriteOf (g.B.Rows.state c.args.rows.now) c.args.edit.now) _ _ _ (λ held write h is. subst (λ (s : State). IsWriteOf s c.args.edit.now held write) same is) c.in_err-written.ensures.kept) honest
    (g.B.Rows.fails_so _ _ _ _ why (λ held write is. subst (λ (s : State). IsWriteOf s c.args.edit.now held write) same is) by)) (c.in_err-written.ensures.caused honest)

pub returns-in_err-check_named-clause-kept : goal.returns-in_err-check_named-clause-kept
returns-in_err-check_named-clause-kept g c =
    let p = err_from_is_err_and c.from_residual.result c.from_residual.ensures.1 in
    rw (p.1, p.2) (g.B.Rows.keeps_so _ _ _ _ _ (λ held write h none. absurd none) c.in_err-check_named.ensures.kept)

pub returns-in_err-written-clause-kept : goal.returns-in_err-written-clause-kept
returns-in_err-written-clause-kept g c =
    let Is = IsWriteOf (g.B.Rows.state c.args.rows.now) c.args.edit.now in
    let p = err_from_is_err_and c.from_residual-in_err-written.result c.from_residual-in_err-written.ensures.1 in
    rw (p.1, p.2, own_of_store c.in_err-written.field-0.0)
    (g.B.Rows.keeps_then Is _ _ _ _ (g.B.Rows.keeps_so _ Is _ _ _ (λ held write h none. absurd none) c.in_ok-check_named.ensures.kept)
    (g.B.Rows.keeps_so _ Is _ _ _
    (λ held write honest is. subst (λ (s : State). IsWriteOf s c.args.edit.now held write) (c.in_ok-check_named.ensures.same (c.edit_in.ensures.was_honest honest)) is)
    c.in_err-written.ensures.kept))

pub returns-clause-kept : goal.returns-clause-kept
returns-clause-kept g c =
    let Is = IsWriteOf (g.B.Rows.state c.args.rows.now) c.args.edit.now in
    g.B.Rows.keeps_refused Is _ _ _
    (g.B.Rows.keeps_then Is _ _ _ _ (g.B.Rows.keeps_so _ Is _ _ _ (λ held write h none. absurd none) c.in_ok-check_named.ensures.kept)
    (g.B.Rows.keeps_so _ Is _ _ _
    (λ held write honest is. subst (λ (s : State). IsWriteOf s c.args.edit.now held write) (c.in_ok-check_named.ensures.same (c.edit_in.ensures.was_honest honest)) is)
    c.in_ok-written.ensures.kept))
