-- `entry::add_row`: what `add` asks for, the clauses `caused` and `kept`.
use Rattle.std.proofs.Common.{◌≡◌, None, Some, sym, ◌∙◌, rules}
use Rattle.std.proofs.lemmas.Result.{err_from_is_err_and}
use Rattle.cs_value.specs.Value.{IsRow}
use Rattle.cs_apply_conflict_kinds.specs.Conflicts.{conflict_kind, is_refused, row_after}
use Rattle.cs_apply_conflict_kinds.specs.Applying.{refuses_at}
use Rattle.cs_apply_engine.specs.Steps.{header_in}
use Rattle.cs_apply_engine.specs.Writes.{IsEntryWrite}
use Rattle.cs_apply_engine.proofs.CauseLemmas.{added_write, rows_caused_on}
use Rattle.cs_apply_engine.proofs.EntryLemmas.{fits_here, none_is, no_conflict}
use Rattle.cs_apply_engine.proofs.entry.add_row.Goals as goal

pub add-requires : goal.add-requires
add-requires g c = λ honest.
    let state = g.B.Rows.state c.args.rows.now in
    let entry = c.args.entry.now in
    let header = header_in c.args.table.now entry in
    let has = c.requires.table honest in
    let values : IsRow c.in-Some.row = search rules in
    let kind : conflict_kind (is_refused c.args.refuses.now entry.flags entry.entry.change) entry.entry.change None ≡ None = sym c.conflict_kind.ensures ∙ none_is _ (sym c.is_some.ensures ∙ c.if-is_some.false) in
    let none = no_conflict (is_refused c.args.refuses.now entry.flags entry.entry.change) entry.entry.change kind in
    let left = rw c.in-Some.is at c.in_ok-row.ensures.fits in
    let fits = left tt none.0 in
    let obeys = rw c.in-Some.is at c.in_ok-row.ensures.obeys in
    let kept = obeys (refuses_at state c.args.table.now) tt none.0 (rw (c.requires.rules honest) at none.1) in
    fits_here state header c.args.key.now c.in-Some.row has values fits.0 (c.requires.key ∙ sym fits.1) kept

pub returns-in_err-add-in-Some-clause-caused : goal.returns-in_err-add-in-Some-clause-caused
returns-in_err-add-in-Some-clause-caused g c = λ honest.
    let entry = c.args.entry.now in
    let header = header_in c.args.table.now entry in
    let refused = is_refused c.args.refuses.now entry.flags entry.entry.change in
    let kind : conflict_kind refused entry.entry.change None ≡ None = sym c.conflict_kind.ensures ∙ none_is _ (sym c.is_some.ensures ∙ c.if-is_some.false) in
    let left : row_after entry.flags entry.entry.change None ≡ Some c.in-Some.row = sym c.in_ok-row.ensures.same ∙ c.in-Some.is in
    rows_caused_on c.from_residual-in_err-add-in-Some.result _ _ c.in_err-add-in-Some.field-0.0 c.from_residual-in_err-add-in-Some.ensures.1
    (λ why by. g.B.Rows.fails_so _ _ _ _ why (λ held write is. added_write header entry.entry _ held write c.args.key.now c.in-Some.row refused c.requires.key kind left is) by) (c.in_err-add-in-Some.ensures.caused honest)

pub returns-in_err-add-in-Some-clause-kept : goal.returns-in_err-add-in-Some-clause-kept
returns-in_err-add-in-Some-clause-kept g c =
    let entry = c.args.entry.now in
    let header = header_in c.args.table.now entry in
    let refused = is_refused c.args.refuses.now entry.flags entry.entry.change in
    let kind : conflict_kind refused entry.entry.change None ≡ None = sym c.conflict_kind.ensures ∙ none_is _ (sym c.is_some.ensures ∙ c.if-is_some.false) in
    let left : row_after entry.flags entry.entry.change None ≡ Some c.in-Some.row = sym c.in_ok-row.ensures.same ∙ c.in-Some.is in
    let p = err_from_is_err_and c.from_residual-in_err-add-in-Some.result c.from_residual-in_err-add-in-Some.ensures.1 in
    rw p.1 (g.B.Rows.keeps_so _ _ _ _ _ (λ held write h is. added_write header entry.entry _ held write c.args.key.now c.in-Some.row refused c.requires.key kind left is) c.in_err-add-in-Some.ensures.kept)

pub returns-in_ok-add-in-Some-clause-kept : goal.returns-in_ok-add-in-Some-clause-kept
returns-in_ok-add-in-Some-clause-kept g c =
    let entry = c.args.entry.now in
    let header = header_in c.args.table.now entry in
    let refused = is_refused c.args.refuses.now entry.flags entry.entry.change in
    let kind : conflict_kind refused entry.entry.change None ≡ None = sym c.conflict_kind.ensures ∙ none_is _ (sym c.is_some.ensures ∙ c.if-is_some.false) in
    let left : row_after entry.flags entry.entry.change None ≡ Some c.in-Some.row = sym c.in_ok-row.ensures.same ∙ c.in-Some.is in
    g.B.Rows.keeps_so _ _ _ _ _ (λ held write h is. added_write header entry.entry _ held write c.args.key.now c.in-Some.row refused c.requires.key kind left is) c.in_ok-add-in-Some.ensures.kept
