-- `editing::update_row`: what `replace_row` and `move_row` ask for, the clauses `caused` and `kept`.
use Rattle.std.proofs.Common.{bytes_eq, inl, sym, subst, ◌∙◌, ap, ℕ, List, true≢false}
use Rattle.std.proofs.lemmas.Result.{err_from_is_err_and}
use Rattle.std.specs.Cmp.Lexicographic.{same_text}
use Rattle.std.proofs.lemmas.Cmp.{nat_list_eq_equiv}
use Rattle.cs_value.specs.State.{State, schema_at, IsRowAt}
use Rattle.cs_rows.specs.Editing.{IsPutOf, IsUpdateOf}
use Rattle.cs_rows.proofs.CauseLemmas.{caused_on, caused_so}
use Rattle.cs_rows.proofs.EditingLemmas.{fits_in}
use Rattle.cs_rows.proofs.editing.update_row.Goals as goal

pub returns-in_err-schema-clause-caused : goal.returns-in_err-schema-clause-caused
returns-in_err-schema-clause-caused g c = λ honest.
    caused_on c.from_residual.result _ _ c.in_err-schema.field-0.0 c.from_residual.ensures.1
    (λ why by. g.B.Rows.fails_so _ _ _ _ why (λ held write none. absurd none) by) (c.in_err-schema.ensures.caused honest)

pub returns-in_err-schema-clause-kept : goal.returns-in_err-schema-clause-kept
returns-in_err-schema-clause-kept g c =
    let p = err_from_is_err_and c.from_residual.result c.from_residual.ensures.1 in
    rw (p.1, p.2) (g.B.Rows.keeps_so _ _ _ _ _ (λ held write h none. absurd none) c.in_err-schema.ensures.kept)

pub returns-in_err-next-clause-kept : goal.returns-in_err-next-clause-kept
returns-in_err-next-clause-kept g c =
    let Is = IsUpdateOf (g.B.Rows.state c.args.rows.now) c.args.table.now c.args.key.now c.args.row.now in
    g.B.Rows.keeps_refused Is _ _ _ (g.B.Rows.keeps_so _ Is _ _ _ (λ held write h none. absurd none) c.in_ok-schema.ensures.kept)

pub returns-in_err-former-clause-caused : goal.returns-in_err-former-clause-caused
returns-in_err-former-clause-caused g c = λ honest.
    let Is = IsUpdateOf (g.B.Rows.state c.args.rows.now) c.args.table.now c.args.key.now c.args.row.now in
    caused_on c.from_residual-in_err-former.result _ _ c.in_err-former.field-0.0 c.from_residual-in_err-former.ensures.1
    (λ why by. g.B.Rows.fails_then Is _ _ _ _ why (g.B.Rows.keeps_so _ Is _ _ _ (λ held write h none. absurd none) c.in_ok-schema.ensures.kept)
    (g.B.Rows.keeps_so _ Is _ _ _ (λ held write h none. absurd none) c.in_err-former.ensures.kept) honest
    (g.B.Rows.fails_so _ _ _ _ why (λ held write none. absurd none) by)) (c.in_err-former.ensures.caused honest)

pub returns-in_err-former-clause-kept : goal.returns-in_err-former-clause-kept
returns-in_err-former-clause-kept g c =
    let Is = IsUpdateOf (g.B.Rows.state c.args.rows.now) c.args.table.now c.args.key.now c.args.row.now in
    let p = err_from_is_err_and c.from_residual-in_err-former.result c.from_residual-in_err-former.ensures.1 in
    rw (p.1, p.2) (g.B.Rows.keeps_then Is _ _ _ _ (g.B.Rows.keeps_so _ Is _ _ _ (λ held write h none. absurd none) c.in_ok-schema.ensures.kept)
    (g.B.Rows.keeps_so _ Is _ _ _ (λ held write h none. absurd none) c.in_err-former.ensures.kept))

pub replace_row-requires : goal.replace_row-requires
replace_row-requires g c = record {
  fits = λ honest.
      let before = c.in_ok-former.ensures.was_honest honest in
      let same = c.in_ok-former.ensures.same honest ∙ c.in_ok-schema.ensures.same before in
      let found = ap (λ (s : State). schema_at s c.args.table.now) same ∙ c.in_ok-schema.ensures.found before in
      let own = same_text c.args.key.now c.in_ok-next.next c.if-eq.ensures in
      fits_in _ c.args.table.now c.args.key.now c.args.row.now c.in_ok-schema.schema found
      (subst (λ (k : List ℕ). IsRowAt c.in_ok-schema.schema k c.args.row.now) (sym own) c.in_ok-next.ensures.key);
}

pub returns-then-eq-clause-caused : goal.returns-then-eq-clause-caused
returns-then-eq-clause-caused g c = λ honest.
    let state = g.B.Rows.state c.args.rows.now in
    let Is = IsUpdateOf (g.B.Rows.state c.args.rows.now) c.args.table.now c.args.key.now c.args.row.now in
    let kept = g.B.Rows.keeps_then Is _ _ _ _ (g.B.Rows.keeps_so _ Is _ _ _ (λ held write h none. absurd none) c.in_ok-schema.ensures.kept)
    (g.B.Rows.keeps_so _ Is _ _ _ (λ held write h none. absurd none) c.in_ok-former.ensures.kept) in
    let at = c.replace_row.ensures.was_honest honest in
    let before = c.in_ok-former.ensures.was_honest at in
    let same = c.in_ok-former.ensures.same at ∙ c.in_ok-schema.ensures.same before in
    caused_so c.replace_row.result _ _
    (λ why by. g.B.Rows.fails_then Is _ _ _ _ why kept
    (g.B.Rows.keeps_so _ Is _ _ _ (λ held write h is. let put : IsPutOf state c.args.table.now c.args.row.now held write = subst (λ (s : State). IsPutOf s c.args.table.now c.args.row.now held write) same is in inl put) c.replace_row.ensures.kept) honest
    (g.B.Rows.fails_so _ _ _ _ why (λ held write is. let put : IsPutOf state c.args.table.now c.args.row.now held write = subst (λ (s : State). IsPutOf s c.args.table.now c.args.row.now held write) same is in inl put) by)) (c.replace_row.ensures.caused honest)

pub returns-then-eq-clause-kept : goal.returns-then-eq-clause-kept
returns-then-eq-clause-kept g c =
    let state = g.B.Rows.state c.args.rows.now in
    let Is = IsUpdateOf (g.B.Rows.state c.args.rows.now) c.args.table.now c.args.key.now c.args.row.now in
    let kept = g.B.Rows.keeps_then Is _ _ _ _ (g.B.Rows.keeps_so _ Is _ _ _ (λ held write h none. absurd none) c.in_ok-schema.ensures.kept)
    (g.B.Rows.keeps_so _ Is _ _ _ (λ held write h none. absurd none) c.in_ok-former.ensures.kept) in
    g.B.Rows.keeps_then Is _ _ _ _ kept (g.B.Rows.keeps_so _ Is _ _ _ (λ held write honest is.
    let at = c.replace_row.ensures.was_honest honest in
    let before = c.in_ok-former.ensures.was_honest at in
    let same = c.in_ok-former.ensures.same at ∙ c.in_ok-schema.ensures.same before in
    let put : IsPutOf state c.args.table.now c.args.row.now held write = subst (λ (s : State). IsPutOf s c.args.table.now c.args.row.now held write) same is in inl put) c.replace_row.ensures.kept)

pub move_row-requires : goal.move_row-requires
move_row-requires g c = record {
  fits = λ honest.
      let before = c.in_ok-former.ensures.was_honest honest in
      let same = c.in_ok-former.ensures.same honest ∙ c.in_ok-schema.ensures.same before in
      let found = ap (λ (s : State). schema_at s c.args.table.now) same ∙ c.in_ok-schema.ensures.found before in
      fits_in _ c.args.table.now c.in_ok-next.next c.args.row.now c.in_ok-schema.schema found c.in_ok-next.ensures.key;
  apart = λ same. true≢false (sym (nat_list_eq_equiv.refl c.in_ok-next.next) ∙ ap (λ (k : List ℕ). bytes_eq k c.in_ok-next.next) (sym same) ∙ sym c.if-eq.ensures);
}

pub returns-clause-caused : goal.returns-clause-caused
returns-clause-caused g c = λ honest.
    let state = g.B.Rows.state c.args.rows.now in
    let Is = IsUpdateOf (g.B.Rows.state c.args.rows.now) c.args.table.now c.args.key.now c.args.row.now in
    let kept = g.B.Rows.keeps_then Is _ _ _ _ (g.B.Rows.keeps_so _ Is _ _ _ (λ held write h none. absurd none) c.in_ok-schema.ensures.kept)
    (g.B.Rows.keeps_so _ Is _ _ _ (λ held write h none. absurd none) c.in_ok-former.ensures.kept) in
    let at = c.move_row.ensures.was_honest honest in
    let before = c.in_ok-former.ensures.was_honest at in
    let same = c.in_ok-former.ensures.same at ∙ c.in_ok-schema.ensures.same before in
    caused_so c.move_row.result _ _
    (λ why by. g.B.Rows.fails_then Is _ _ _ _ why kept
    (g.B.Rows.keeps_so _ Is _ _ _ (λ held write h is. subst (λ (s : State). IsUpdateOf s c.args.table.now c.args.key.now c.args.row.now held write) same is) c.move_row.ensures.kept) honest
    (g.B.Rows.fails_so _ _ _ _ why (λ held write is. subst (λ (s : State). IsUpdateOf s c.args.table.now c.args.key.now c.args.row.now held write) same is) by)) (c.move_row.ensures.caused honest)

pub returns-clause-kept : goal.returns-clause-kept
returns-clause-kept g c =
    let state = g.B.Rows.state c.args.rows.now in
    let Is = IsUpdateOf (g.B.Rows.state c.args.rows.now) c.args.table.now c.args.key.now c.args.row.now in
    let kept = g.B.Rows.keeps_then Is _ _ _ _ (g.B.Rows.keeps_so _ Is _ _ _ (λ held write h none. absurd none) c.in_ok-schema.ensures.kept)
    (g.B.Rows.keeps_so _ Is _ _ _ (λ held write h none. absurd none) c.in_ok-former.ensures.kept) in
    g.B.Rows.keeps_then Is _ _ _ _ kept (g.B.Rows.keeps_so _ Is _ _ _ (λ held write honest is.
    let at = c.move_row.ensures.was_honest honest in
    let before = c.in_ok-former.ensures.was_honest at in
    let same = c.in_ok-former.ensures.same at ∙ c.in_ok-schema.ensures.same before in
    subst (λ (s : State). IsUpdateOf s c.args.table.now c.args.key.now c.args.row.now held write) same is) c.move_row.ensures.kept)
