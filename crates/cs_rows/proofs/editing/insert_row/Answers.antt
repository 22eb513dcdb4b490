-- `editing::insert_row`: what `add` asks for, the clauses `caused` and `kept`.
use Rattle.std.proofs.Common.{◌∙◌, ap, inr}
use Rattle.std.proofs.lemmas.Result.{err_from_is_err_and}
use Rattle.cs_value.specs.State.{State, schema_at}
use Rattle.cs_rows.specs.Editing.{IsPutOf}
use Rattle.cs_rows.proofs.CauseLemmas.{caused_on, not_own, put_of}
use Rattle.cs_rows.proofs.EditingLemmas.{fits_in}
use Rattle.cs_rows.proofs.editing.insert_row.Goals as goal

pub returns-in_err-schema-clause-caused : goal.returns-in_err-schema-clause-caused
returns-in_err-schema-clause-caused g c = λ honest.
    caused_on c.from_residual.result _ _ c.in_err-schema.field-0.0 c.from_residual.ensures.1
    (λ why by. g.B.Rows.fails_so _ _ _ _ why (λ held write none. absurd none) by) (c.in_err-schema.ensures.caused honest)

pub returns-in_err-schema-clause-kept : goal.returns-in_err-schema-clause-kept
returns-in_err-schema-clause-kept g c =
    let p = err_from_is_err_and c.from_residual.result c.from_residual.ensures.1 in
    rw (p.1, p.2) (g.B.Rows.keeps_so _ _ _ _ _ (λ held write h none. absurd none) c.in_err-schema.ensures.kept)

pub returns-in_err-key-clause-kept : goal.returns-in_err-key-clause-kept
returns-in_err-key-clause-kept g c =
    let Is = IsPutOf (g.B.Rows.state c.args.rows.now) c.args.table.now c.args.row.now in
    g.B.Rows.keeps_refused Is _ _ _ (g.B.Rows.keeps_so _ Is _ _ _ (λ held write h none. absurd none) c.in_ok-schema.ensures.kept)

pub returns-in_err-written-clause-kept : goal.returns-in_err-written-clause-kept
returns-in_err-written-clause-kept g c =
    let Is = IsPutOf (g.B.Rows.state c.args.rows.now) c.args.table.now c.args.row.now in
    g.B.Rows.keeps_refused Is _ _ _ (g.B.Rows.keeps_so _ Is _ _ _ (λ held write h none. absurd none) c.in_ok-schema.ensures.kept)

pub add-requires : goal.add-requires
add-requires g c = λ honest.
    fits_in _ c.args.table.now c.in_ok-key.key c.args.row.now c.in_ok-schema.schema
    (ap (λ (s : State). schema_at s c.args.table.now) (c.in_ok-schema.ensures.same honest) ∙ c.in_ok-schema.ensures.found honest) c.in_ok-key.ensures.key

pub returns-in_err-add-clause-caused : goal.returns-in_err-add-clause-caused
returns-in_err-add-clause-caused g c = λ honest.
    let Is = IsPutOf (g.B.Rows.state c.args.rows.now) c.args.table.now c.args.row.now in
    let before = c.add.ensures.was_honest honest in
    let same = c.in_ok-schema.ensures.same before in
    let fits = fits_in _ c.args.table.now c.in_ok-key.key c.args.row.now c.in_ok-schema.schema (ap (λ (s : State). schema_at s c.args.table.now) same ∙ c.in_ok-schema.ensures.found before) c.in_ok-key.ensures.key in
    caused_on c.from_residual-in_err-add.result _ _ c.in_err-add.field-0.0 c.from_residual-in_err-add.ensures.1
    (λ why by. g.B.Rows.fails_then Is _ _ _ _ why (g.B.Rows.keeps_so _ Is _ _ _ (λ held write h none. absurd none) c.in_ok-schema.ensures.kept)
    (g.B.Rows.keeps_so _ Is _ _ _ (λ held write h is. put_of _ _ c.args.table.now c.in_ok-key.key c.args.row.now held write same fits is) c.in_err-add.ensures.kept) honest
    (g.B.Rows.fails_so _ _ _ _ why (λ held write is. put_of _ _ c.args.table.now c.in_ok-key.key c.args.row.now held write same fits is) by)) (c.in_err-add.ensures.caused honest)

pub returns-in_err-add-clause-kept : goal.returns-in_err-add-clause-kept
returns-in_err-add-clause-kept g c =
    let Is = IsPutOf (g.B.Rows.state c.args.rows.now) c.args.table.now c.args.row.now in
    let p = err_from_is_err_and c.from_residual-in_err-add.result c.from_residual-in_err-add.ensures.1 in
    rw (p.1, p.2, not_own _ (inr c.in_err-add.ensures.named)) (g.B.Rows.keeps_then Is _ _ _ _
    (g.B.Rows.keeps_so _ Is _ _ _ (λ held write h none. absurd none) c.in_ok-schema.ensures.kept) (g.B.Rows.keeps_so _ Is _ _ _ (λ held write honest is.
    let before = c.add.ensures.was_honest honest in
    let same = c.in_ok-schema.ensures.same before in
    let fits = fits_in _ c.args.table.now c.in_ok-key.key c.args.row.now c.in_ok-schema.schema (ap (λ (s : State). schema_at s c.args.table.now) same ∙ c.in_ok-schema.ensures.found before) c.in_ok-key.ensures.key in
    put_of _ _ c.args.table.now c.in_ok-key.key c.args.row.now held write same fits is) c.in_err-add.ensures.kept))

pub returns-then-not-branch-clause-kept : goal.returns-then-not-branch-clause-kept
returns-then-not-branch-clause-kept g c =
    let Is = IsPutOf (g.B.Rows.state c.args.rows.now) c.args.table.now c.args.row.now in
    g.B.Rows.keeps_then Is _ _ _ _ (g.B.Rows.keeps_so _ Is _ _ _ (λ held write h none. absurd none) c.in_ok-schema.ensures.kept) (g.B.Rows.keeps_so _ Is _ _ _ (λ held write honest is.
    let before = c.add.ensures.was_honest honest in
    let same = c.in_ok-schema.ensures.same before in
    let fits = fits_in _ c.args.table.now c.in_ok-key.key c.args.row.now c.in_ok-schema.schema (ap (λ (s : State). schema_at s c.args.table.now) same ∙ c.in_ok-schema.ensures.found before) c.in_ok-key.ensures.key in
    put_of _ _ c.args.table.now c.in_ok-key.key c.args.row.now held write same fits is) c.in_ok-add.ensures.kept)

pub returns-clause-kept : goal.returns-clause-kept
returns-clause-kept g c =
    let Is = IsPutOf (g.B.Rows.state c.args.rows.now) c.args.table.now c.args.row.now in
    g.B.Rows.keeps_then Is _ _ _ _ (g.B.Rows.keeps_so _ Is _ _ _ (λ held write h none. absurd none) c.in_ok-schema.ensures.kept) (g.B.Rows.keeps_so _ Is _ _ _ (λ held write honest is.
    let before = c.add.ensures.was_honest honest in
    let same = c.in_ok-schema.ensures.same before in
    let fits = fits_in _ c.args.table.now c.in_ok-key.key c.args.row.now c.in_ok-schema.schema (ap (λ (s : State). schema_at s c.args.table.now) same ∙ c.in_ok-schema.ensures.found before) c.in_ok-key.ensures.key in
    put_of _ _ c.args.table.now c.in_ok-key.key c.args.row.now held write same fits is) c.in_ok-add.ensures.kept)
