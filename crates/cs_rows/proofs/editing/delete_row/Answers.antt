-- `editing::delete_row`: the clauses `caused` and `kept`.
use Rattle.std.proofs.Common.{◌∙◌, inr}
use Rattle.std.proofs.lemmas.Result.{err_from_is_err_and}
use Rattle.cs_rows.specs.Editing.{IsRemovalOf}
use Rattle.cs_rows.proofs.CauseLemmas.{caused_on, not_own, removal_of}
use Rattle.cs_rows.proofs.editing.delete_row.Goals as goal

pub returns-in_err-_schema-clause-caused : goal.returns-in_err-_schema-clause-caused
returns-in_err-_schema-clause-caused g c = λ honest.
    caused_on c.from_residual.result _ _ c.in_err-_schema.field-0.0 c.from_residual.ensures.1
    (λ why by. g.B.Rows.fails_so _ _ _ _ why (λ held write none. absurd none) by) (c.in_err-_schema.ensures.caused honest)

pub returns-in_err-_schema-clause-kept : goal.returns-in_err-_schema-clause-kept
returns-in_err-_schema-clause-kept g c =
    let p = err_from_is_err_and c.from_residual.result c.from_residual.ensures.1 in
    rw (p.1, p.2) (g.B.Rows.keeps_so _ _ _ _ _ (λ held write h none. absurd none) c.in_err-_schema.ensures.kept)

pub returns-in_err-former-clause-caused : goal.returns-in_err-former-clause-caused
returns-in_err-former-clause-caused g c = λ honest.
    let Is = IsRemovalOf (g.B.Rows.state c.args.rows.now) c.args.table.now c.args.key.now in
    caused_on c.from_residual-in_err-former.result _ _ c.in_err-former.field-0.0 c.from_residual-in_err-former.ensures.1
    (λ why by. g.B.Rows.fails_then Is _ _ _ _ why (g.B.Rows.keeps_so _ Is _ _ _ (λ held write h none. absurd none) c.in_ok-_schema.ensures.kept)
    (g.B.Rows.keeps_so _ Is _ _ _ (λ held write h none. absurd none) c.in_err-former.ensures.kept) honest
    (g.B.Rows.fails_so _ _ _ _ why (λ held write none. absurd none) by)) (c.in_err-former.ensures.caused honest)

pub returns-in_err-former-clause-kept : goal.returns-in_err-former-clause-kept
returns-in_err-former-clause-kept g c =
    let Is = IsRemovalOf (g.B.Rows.state c.args.rows.now) c.args.table.now c.args.key.now in
    let p = err_from_is_err_and c.from_residual-in_err-former.result c.from_residual-in_err-former.ensures.1 in
    rw (p.1, p.2) (g.B.Rows.keeps_then Is _ _ _ _ (g.B.Rows.keeps_so _ Is _ _ _ (λ held write h none. absurd none) c.in_ok-_schema.ensures.kept)
    (g.B.Rows.keeps_so _ Is _ _ _ (λ held write h none. absurd none) c.in_err-former.ensures.kept))

pub returns-in_err-written-clause-kept : goal.returns-in_err-written-clause-kept
returns-in_err-written-clause-kept g c =
    let Is = IsRemovalOf (g.B.Rows.state c.args.rows.now) c.args.table.now c.args.key.now in
    g.B.Rows.keeps_refused Is _ _ _ (g.B.Rows.keeps_then Is _ _ _ _ (g.B.Rows.keeps_so _ Is _ _ _ (λ held write h none. absurd none) c.in_ok-_schema.ensures.kept)
    (g.B.Rows.keeps_so _ Is _ _ _ (λ held write h none. absurd none) c.in_ok-former.ensures.kept))

pub returns-in_err-remove-clause-caused : goal.returns-in_err-remove-clause-caused
returns-in_err-remove-clause-caused g c = λ honest.
    let Is = IsRemovalOf (g.B.Rows.state c.args.rows.now) c.args.table.now c.args.key.now in
    let at = c.remove.ensures.was_honest honest in
    let same = c.in_ok-former.ensures.same at ∙ c.in_ok-_schema.ensures.same (c.in_ok-former.ensures.was_honest at) in
    let kept = g.B.Rows.keeps_then Is _ _ _ _ (g.B.Rows.keeps_so _ Is _ _ _ (λ held write h none. absurd none) c.in_ok-_schema.ensures.kept)
    (g.B.Rows.keeps_so _ Is _ _ _ (λ held write h none. absurd none) c.in_ok-former.ensures.kept) in
    caused_on c.from_residual-in_err-remove.result _ _ c.in_err-remove.field-0.0 c.from_residual-in_err-remove.ensures.1
    (λ why by. g.B.Rows.fails_then Is _ _ _ _ why kept
    (g.B.Rows.keeps_so _ Is _ _ _ (λ held write h is. removal_of _ _ c.args.table.now c.args.key.now held write same is) c.in_err-remove.ensures.kept) honest
    (g.B.Rows.fails_so _ _ _ _ why (λ held write is. removal_of _ _ c.args.table.now c.args.key.now held write same is) by)) (c.in_err-remove.ensures.caused honest)

pub returns-in_err-remove-clause-kept : goal.returns-in_err-remove-clause-kept
returns-in_err-remove-clause-kept g c =
    let Is = IsRemovalOf (g.B.Rows.state c.args.rows.now) c.args.table.now c.args.key.now in
    let kept = g.B.Rows.keeps_then Is _ _ _ _ (g.B.Rows.keeps_so _ Is _ _ _ (λ held write h none. absurd none) c.in_ok-_schema.ensures.kept)
    (g.B.Rows.keeps_so _ Is _ _ _ (λ held write h none. absurd none) c.in_ok-former.ensures.kept) in
    let p = err_from_is_err_and c.from_residual-in_err-remove.result c.from_residual-in_err-remove.ensures.1 in
    rw (p.1, p.2, not_own _ (inr c.in_err-remove.ensures.named)) (g.B.Rows.keeps_then Is _ _ _ _ kept
    (g.B.Rows.keeps_so _ Is _ _ _ (λ held write h is. let at = c.remove.ensures.was_honest h in removal_of _ _ c.args.table.now c.args.key.now held write (c.in_ok-former.ensures.same at ∙ c.in_ok-_schema.ensures.same (c.in_ok-former.ensures.was_honest at)) is) c.in_err-remove.ensures.kept))

pub returns-clause-kept : goal.returns-clause-kept
returns-clause-kept g c =
    let Is = IsRemovalOf (g.B.Rows.state c.args.rows.now) c.args.table.now c.args.key.now in
    let kept = g.B.Rows.keeps_then Is _ _ _ _ (g.B.Rows.keeps_so _ Is _ _ _ (λ held write h none. absurd none) c.in_ok-_schema.ensures.kept)
    (g.B.Rows.keeps_so _ Is _ _ _ (λ held write h none. absurd none) c.in_ok-former.ensures.kept) in
    g.B.Rows.keeps_then Is _ _ _ _ kept
    (g.B.Rows.keeps_so _ Is _ _ _ (λ held write h is. let at = c.remove.ensures.was_honest h in removal_of _ _ c.args.table.now c.args.key.now held write (c.in_ok-former.ensures.same at ∙ c.in_ok-_schema.ensures.same (c.in_ok-former.ensures.was_honest at)) is) c.in_ok-remove.ensures.kept)
