-- `rows::move_row`: the clause `works`.
use Rattle.std.proofs.Common.{◌≡◌, Ok, not, map, subst, ◌∙◌}
use Rattle.std.specs.Option.{option_map}
use Rattle.sqlite.specs.Held.{state}
use Rattle.cs_store.specs.Store.{tables_in}
use Rattle.cs_value.specs.State.{State, rows_at}
use Rattle.cs_rows.specs.Editing.{updated, written_of}
use Rattle.cs_history.specs.Moving.{IsInFront, first_of, key_of}
use Rattle.cs_history.proofs.MoveLemmas.{moves_row}
use Rattle.cs_history.proofs.WorkLemmas.{seen, shown_state, works_err}
use Rattle.cs_store_tables.specs.Laws.{keeps_then, was_clean}
use Rattle.cs_history.proofs.rows.move_row.Goals as goal

pub returns-in_err-edit-clause-works : goal.returns-in_err-edit-clause-works
returns-in_err-edit-clause-works g c = works_err c.from_residual-in_err-edit.result _ c.from_residual-in_err-edit.ensures.1 (keeps_then c.first_row.ensures.works.kept c.edit.ensures.within.kept)

pub returns-clause-works : goal.returns-clause-works
returns-clause-works g c =
    let old = state g.S.Store c.args.transaction.now in
    let mid = state g.S.Store c.first_row.new.transaction in
    let new = state g.S.Store c.edit.new.self in
    let within = c.in_ok-edit.ensures.within in
    let one = c.in_ok-first.ensures.works in
    record {
      kept = keeps_then one.kept within.kept;
      made = λ clean inside.
          let was = was_clean mid new within.kept.crash clean in
          let read = one.made was inside in (
            (within.made clean).0.inside,
            λ history.
                let is = shown_state old mid one.kept c.store_law.ensures.holds c.store_law.ensures.inside was inside in
                let first : option_map (λ r. r.now) c.as_ref.result ≡ first_of (not c.args.done) (rows_at (tables_in old.now) c.args.name.now) = seen c.as_ref.result ∙ c.as_ref.ensures.value ∙ read.1.1 history in
                moves_row (tables_in old.now) c.args.name.now is history c.args.done c.args.row.now c.in_ok-next.next (tables_in new.now) (map written_of c.in_ok-edit.field-0.items)
                (subst (λ (s : State). updated s c.args.name.now (key_of c.args.row.now) c.in_ok-next.next ≡ Ok (record { state = tables_in new.now; written = map written_of c.in_ok-edit.field-0.items })) read.1.0
                (rw (← c.in_ok-table.ensures.ok, ← c.in_ok-key.ensures.key) (c.in_ok-edit.ensures.edited clean)))
                c.in_ok-check_place.ensures.placed (subst (IsInFront (key_of c.in_ok-next.next)) first c.in_ok-check_place.ensures.front) c.in_ok-next.ensures.same,
          );
    }
