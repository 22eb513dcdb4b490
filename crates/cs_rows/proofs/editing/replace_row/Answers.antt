-- `editing::replace_row`: the clauses `caused` and `kept`.
use Rattle.std.proofs.Common.{refl, inr}
use Rattle.std.proofs.lemmas.Result.{err_from_is_err_and}
use Rattle.cs_rows.specs.Editing.{IsPutOf}
use Rattle.cs_rows.proofs.CauseLemmas.{caused_on, not_own, put_of}
use Rattle.cs_rows.proofs.editing.replace_row.Goals as goal

pub returns-in_err-put-clause-caused : goal.returns-in_err-put-clause-caused
returns-in_err-put-clause-caused g c = λ honest.
    let old = g.B.Rows.state c.args.rows.now in
    let fits = c.requires.fits (c.put.ensures.was_honest honest) in
    caused_on c.from_residual-in_err-put.result _ _ c.in_err-put.field-0.0 c.from_residual-in_err-put.ensures.1
    (λ why by. g.B.Rows.fails_so _ _ _ _ why (λ held write is. put_of old old c.args.table.now c.args.key.now c.args.row.now held write refl fits is) by)
    (c.in_err-put.ensures.caused honest)

pub returns-in_err-put-clause-kept : goal.returns-in_err-put-clause-kept
returns-in_err-put-clause-kept g c =
    let old = g.B.Rows.state c.args.rows.now in
    let p = err_from_is_err_and c.from_residual-in_err-put.result c.from_residual-in_err-put.ensures.1 in
    rw (p.1, p.2, not_own _ (inr c.in_err-put.ensures.named))
    (g.B.Rows.keeps_so _ (IsPutOf old c.args.table.now c.args.row.now) _ _ _ (λ held write honest is. put_of old old c.args.table.now c.args.key.now c.args.row.now held write refl (c.requires.fits (c.put.ensures.was_honest honest)) is) c.in_err-put.ensures.kept)

pub returns-clause-kept : goal.returns-clause-kept
returns-clause-kept g c =
    let old = g.B.Rows.state c.args.rows.now in
    g.B.Rows.keeps_so _ (IsPutOf old c.args.table.now c.args.row.now) _ _ _ (λ held write honest is. put_of old old c.args.table.now c.args.key.now c.args.row.now held write refl (c.requires.fits (c.put.ensures.was_honest honest)) is) c.in_ok-put.ensures.kept

pub returns-in_err-written-clause-kept : goal.returns-in_err-written-clause-kept
returns-in_err-written-clause-kept g c =
    let old = g.B.Rows.state c.args.rows.now in
    g.B.Rows.keeps_refused (IsPutOf old c.args.table.now c.args.row.now) _ _ _ (g.B.Rows.keeps_itself _ _)
