-- `acting::note_changes`: what it ensures.
use Rattle.std.proofs.Common.{◌≡◌, false, Option, Some, None, Result, Ok, Err, OnOk, IsTrue, is_some, refl, sym, subst, ◌∙◌}
use Rattle.std.specs.Prelude.{is_none}
use Rattle.sqlite.specs.Held.{state}
use Rattle.cs_wire.specs.Changeset.{file_bytes}
use Rattle.cs_store.specs.Store.{tables_in}
use Rattle.cs_history.specs.Moving.{AddsRow, NotesAction}
use Rattle.cs_history.specs.Stored.{ActionData, IsHistory}
use Rattle.cs_history.proofs.WorkLemmas.{works_on}
use Rattle.cs_history.proofs.acting.note_changes.Goals as goal

is_absent : {X : Type 0} (o : Option X) → is_some o ≡ false → IsTrue (is_none o)
is_absent None is = refl
is_absent (Some x) is = sym is

always : {X E P : Type 0} (r : Result X E) → P → OnOk r P
always (Ok x) it = it
always (Err e) it = tt

pub returns-clause-works : goal.returns-clause-works
returns-clause-works g c =
    let mid = state g.S.Store c.forget_undone.new.transaction in
    let new = state g.S.Store c.add_row.new.transaction in
    let name = c.args.name.now in
    works_on (λ x before after. IsHistory before name → NotesAction name (record { label = c.args.label.now; changeset = file_bytes c.args.changeset.now }) before after) c.add_row.result
    c.in_ok-forget_undone.ensures.works c.add_row.ensures.works (λ z p q history.
    let left = p history in
    record {
      mid = tables_in mid.now;
      forgotten = left.0;
      none = left.1;
      added = subst (λ (action : ActionData). AddsRow name action (tables_in mid.now) (tables_in new.now)) (λ i. record { label = c.in_ok-label.ensures.made i; changeset = c.in_ok-file.ensures.made i }) (q left.0.history);
    })

pub returns-clause-apart : goal.returns-clause-apart
returns-clause-apart g c = always c.add_row.result (c.find.ensures.absent.0 (is_absent c.find.result (sym c.is_some.ensures ∙ c.if-is_some.false)))
