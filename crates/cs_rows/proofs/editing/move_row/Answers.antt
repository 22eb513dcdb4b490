-- `editing::move_row`: what `remove` asks for, the clauses `caused`, `moved` and `kept`.
use Rattle.std.proofs.Common.{refl, subst, sym, ◌∙◌, ap, inl, inr}
use Rattle.std.proofs.lemmas.Result.{err_from_is_err_and}
use Rattle.cs_value.specs.State.{State, without_row}
use Rattle.cs_rows.specs.Rows.{IsDeclared}
use Rattle.cs_rows.specs.Editing.{IsUpdateOf}
use Rattle.cs_rows.proofs.CauseLemmas.{caused_on, clearing_of, not_own, put_of}
use Rattle.cs_rows.proofs.MoveLemmas.{moved_either_way, declared_with}
use Rattle.cs_rows.proofs.editing.move_row.Goals as goal

pub remove-requires : goal.remove-requires
remove-requires g c = λ honest.
    subst (λ (s : State). IsDeclared s c.args.table.now) (sym ((rw c.if-not-branch.false at c.in_ok-add.ensures.added honest).1))
    (declared_with _ c.args.table.now c.args.next.now c.args.row.now (c.requires.fits (c.in_ok-add.ensures.was_honest honest)))

pub returns-in_err-add-clause-caused : goal.returns-in_err-add-clause-caused
returns-in_err-add-clause-caused g c = λ honest.
    let Is = IsUpdateOf (g.B.Rows.state c.args.rows.now) c.args.table.now c.args.key.now c.args.row.now in
    let fits = c.requires.fits (c.add.ensures.was_honest honest) in
    caused_on c.from_residual-in_err-add.result _ _ c.in_err-add.field-0.0 c.from_residual-in_err-add.ensures.1
    (λ why by. g.B.Rows.fails_so _ Is _ _ why (λ held write is. inl (put_of _ _ c.args.table.now c.args.next.now c.args.row.now held write refl fits is)) by) (c.in_err-add.ensures.caused honest)

pub returns-in_err-add-clause-kept : goal.returns-in_err-add-clause-kept
returns-in_err-add-clause-kept g c =
    let Is = IsUpdateOf (g.B.Rows.state c.args.rows.now) c.args.table.now c.args.key.now c.args.row.now in
    let p = err_from_is_err_and c.from_residual-in_err-add.result c.from_residual-in_err-add.ensures.1 in
    rw (p.1, p.2, not_own _ (inr c.in_err-add.ensures.named)) (g.B.Rows.keeps_so _ Is _ _ _ (λ held write honest is.
    inl (put_of _ _ c.args.table.now c.args.next.now c.args.row.now held write refl (c.requires.fits (c.add.ensures.was_honest honest)) is)) c.in_err-add.ensures.kept)

pub returns-then-not-branch-clause-kept : goal.returns-then-not-branch-clause-kept
returns-then-not-branch-clause-kept g c =
    let Is = IsUpdateOf (g.B.Rows.state c.args.rows.now) c.args.table.now c.args.key.now c.args.row.now in
    g.B.Rows.keeps_so _ Is _ _ _ (λ held write honest is.
    inl (put_of _ _ c.args.table.now c.args.next.now c.args.row.now held write refl (c.requires.fits (c.add.ensures.was_honest honest)) is)) c.in_ok-add.ensures.kept

pub returns-in_err-remove-clause-caused : goal.returns-in_err-remove-clause-caused
returns-in_err-remove-clause-caused g c = λ honest.
    let Is = IsUpdateOf (g.B.Rows.state c.args.rows.now) c.args.table.now c.args.key.now c.args.row.now in
    let kept = g.B.Rows.keeps_so _ Is _ _ _ (λ held write h is.
    inl (put_of _ _ c.args.table.now c.args.next.now c.args.row.now held write refl (c.requires.fits (c.in_ok-add.ensures.was_honest h)) is)) c.in_ok-add.ensures.kept in
    let put = (rw c.if-not-branch.false at c.in_ok-add.ensures.added (c.remove.ensures.was_honest honest)).1 in
    caused_on c.from_residual-in_err-remove.result _ _ c.in_err-remove.field-0.0 c.from_residual-in_err-remove.ensures.1
    (λ why by. g.B.Rows.fails_then Is _ _ _ _ why kept
    (g.B.Rows.keeps_so _ Is _ _ _ (λ held write h is. clearing_of _ _ c.args.table.now c.args.key.now c.args.next.now c.args.row.now held write put is) c.in_err-remove.ensures.kept) honest
    (g.B.Rows.fails_so _ _ _ _ why (λ held write is. clearing_of _ _ c.args.table.now c.args.key.now c.args.next.now c.args.row.now held write put is) by)) (c.in_err-remove.ensures.caused honest)

pub returns-in_err-remove-clause-kept : goal.returns-in_err-remove-clause-kept
returns-in_err-remove-clause-kept g c =
    let Is = IsUpdateOf (g.B.Rows.state c.args.rows.now) c.args.table.now c.args.key.now c.args.row.now in
    let kept = g.B.Rows.keeps_so _ Is _ _ _ (λ held write h is.
    inl (put_of _ _ c.args.table.now c.args.next.now c.args.row.now held write refl (c.requires.fits (c.in_ok-add.ensures.was_honest h)) is)) c.in_ok-add.ensures.kept in
    let p = err_from_is_err_and c.from_residual-in_err-remove.result c.from_residual-in_err-remove.ensures.1 in
    rw (p.1, p.2, not_own _ (inr c.in_err-remove.ensures.named)) (g.B.Rows.keeps_then Is _ _ _ _ kept (g.B.Rows.keeps_so _ Is _ _ _ (λ held write honest is.
    clearing_of _ _ c.args.table.now c.args.key.now c.args.next.now c.args.row.now held write ((rw c.if-not-branch.false at c.in_ok-add.ensures.added (c.remove.ensures.was_honest honest)).1) is) c.in_err-remove.ensures.kept))

pub returns-clause-moved : goal.returns-clause-moved
returns-clause-moved g c = λ honest.
    let before = c.in_ok-remove.ensures.was_honest honest in
    let added = rw c.if-not-branch.false at c.in_ok-add.ensures.added before in
    let name = c.args.table.now in (
      added.0,
      c.in_ok-remove.ensures.removed honest
          ∙ ap (λ (s : State). without_row s name c.args.key.now) added.1
          ∙ moved_either_way _ name c.args.key.now c.args.next.now c.args.row.now (c.requires.fits (c.in_ok-add.ensures.was_honest before)) c.requires.apart,
    )

pub returns-clause-kept : goal.returns-clause-kept
returns-clause-kept g c =
    let Is = IsUpdateOf (g.B.Rows.state c.args.rows.now) c.args.table.now c.args.key.now c.args.row.now in
    let kept = g.B.Rows.keeps_so _ Is _ _ _ (λ held write h is.
    inl (put_of _ _ c.args.table.now c.args.next.now c.args.row.now held write refl (c.requires.fits (c.in_ok-add.ensures.was_honest h)) is)) c.in_ok-add.ensures.kept in
    g.B.Rows.keeps_then Is _ _ _ _ kept (g.B.Rows.keeps_so _ Is _ _ _ (λ held write honest is.
    clearing_of _ _ c.args.table.now c.args.key.now c.args.next.now c.args.row.now held write ((rw c.if-not-branch.false at c.in_ok-add.ensures.added (c.remove.ensures.was_honest honest)).1) is) c.in_ok-remove.ensures.kept)
