-- `forgetting::last_kept`: what it ensures.
use Rattle.std.proofs.Common.{◌≡◌, ◌-◌, ℕ, List, true, false, None, Some, length, refl, sym, ap, subst, ◌∙◌, arith}
use Rattle.std.specs.Prelude.{leb}
use Rattle.sqlite.specs.Held.{state}
use Rattle.cs_value.specs.State.{State, rows_at}
use Rattle.cs_store.specs.Store.{tables_in}
use Rattle.cs_store_tables.specs.Laws.{keeps_itself, keeps_then}
use Rattle.cs_history.specs.Moving.{IsNextAfter, Keeps, key_of}
use Rattle.cs_history.specs.Stored.{IsHistory, action_of}
use Rattle.cs_history.proofs.ForgetLemmas.{KeepsSoFar, first_kept, full_kept, has_no_room, has_room, last_one, next_kept, none_kept}
use Rattle.cs_history.proofs.WorkLemmas.{works_err, works_then}
use Rattle.cs_history.proofs.forgetting.last_kept.Goals as goal

pub loop-count-init : goal.loop-count-init
loop-count-init g c =
    let old = state g.S.Store c.args.transaction.now in
    record {
      kept = keeps_itself;
      made = λ clean inside. (
        inside,
        (
          refl,
          λ history.
              subst (λ (k : List ℕ). KeepsSoFar c.args.keep c.args.bytes c.args.keep c.args.bytes k (rows_at (tables_in old.now) c.args.name.now)) (sym c.in_ok-last.ensures.key)
              (first_kept c.args.keep c.args.bytes (rows_at (tables_in old.now) c.args.name.now)),
        ),
      );
    }

pub returns-in_err-row-clause-works : goal.returns-in_err-row-clause-works
returns-in_err-row-clause-works g c = works_err c.from_residual-in_err-row.result _ c.from_residual-in_err-row.ensures.1 (keeps_then c.loop-count.invariant.kept c.row_after.ensures.works.kept)

pub returns-in_default-clause-works : goal.returns-in_default-clause-works
returns-in_default-clause-works g c =
    let old = state g.S.Store c.args.transaction.now in
    let name = c.args.name.now in
    let last = c.loop-count.last in
    works_then (λ key before after. (after ≡ before) × (IsHistory before name → Keeps c.args.keep c.args.bytes key (rows_at before name))) last c.loop-count.invariant c.in_ok-row.ensures.works (λ p q. (
      q.0 ∙ p.0,
      λ history.
          let next = (rw c.in_default.is at q.1) (subst (λ (s : State). IsHistory s name) (sym p.0) history) in
          none_kept c.args.keep c.args.bytes (rows_at (tables_in old.now) name) c.loop-count.count c.loop-count.room last (p.1 history) (subst (λ (s : State). IsNextAfter last None (rows_at s name)) p.0 next),
    ))

pub returns-in_err-changeset_of-clause-works : goal.returns-in_err-changeset_of-clause-works
returns-in_err-changeset_of-clause-works g c =
    works_err c.from_residual-in_err-changeset_of.result _ c.from_residual-in_err-changeset_of.ensures.1 (keeps_then c.loop-count.invariant.kept c.in_ok-row.ensures.works.kept)

pub returns-in_default-checked_sub-clause-works : goal.returns-in_default-checked_sub-clause-works
returns-in_default-checked_sub-clause-works g c =
    let old = state g.S.Store c.args.transaction.now in
    let name = c.args.name.now in
    let last = c.loop-count.last in
    let row = c.in-Some.row in
    works_then (λ key before after. (after ≡ before) × (IsHistory before name → Keeps c.args.keep c.args.bytes key (rows_at before name))) last c.loop-count.invariant c.in_ok-row.ensures.works (λ p q. (
      q.0 ∙ p.0,
      λ history.
          let next = (rw c.in-Some.is at q.1) (subst (λ (s : State). IsHistory s name) (sym p.0) history) in
          full_kept c.args.keep c.args.bytes (rows_at (tables_in old.now) name) c.loop-count.count c.loop-count.room last row (p.1 history) (subst (λ (s : State). IsNextAfter last (Some row) (rows_at s name)) p.0 next)
          (subst (λ (f : List ℕ). leb (length f) c.loop-count.room ≡ false) c.in_ok-changeset_of.ensures.content (has_no_room c.checked_sub.result (length c.in_ok-changeset_of.field-0.now) c.loop-count.room c.checked_sub.ensures c.in_default-checked_sub.is)),
    ))

pub returns-in_err-last-2-clause-works : goal.returns-in_err-last-2-clause-works
returns-in_err-last-2-clause-works g c =
    works_err c.from_residual-in_err-last-2.result _ c.from_residual-in_err-last-2.ensures.1 (keeps_then c.loop-count.invariant.kept c.in_ok-row.ensures.works.kept)

pub loop-count-preserved : goal.loop-count-preserved
loop-count-preserved g c =
    let old = state g.S.Store c.args.transaction.now in
    let name = c.args.name.now in
    let last = c.loop-count.last in
    let row = c.in-Some.row in
    works_then (λ (x : Unit {0}) before after. (after ≡ before) × (IsHistory before name → KeepsSoFar c.args.keep c.args.bytes (c.loop-count.count - 1) c.in-Some-checked_sub.rest c.in_ok-last-2.last (rows_at before name))) (tt {0}) c.loop-count.invariant c.in_ok-row.ensures.works (λ p q. (
      q.0 ∙ p.0,
      λ history.
          let next = (rw c.in-Some.is at q.1) (subst (λ (s : State). IsHistory s name) (sym p.0) history) in
          let told = has_room c.checked_sub.result (length c.in_ok-changeset_of.field-0.now) c.loop-count.room c.in-Some-checked_sub.rest c.checked_sub.ensures c.in-Some-checked_sub.is in
          let size : length c.in_ok-changeset_of.field-0.now ≡ length (action_of row).changeset = ap length c.in_ok-changeset_of.ensures.content in
          let kept = next_kept c.args.keep c.args.bytes (rows_at (tables_in old.now) name) c.loop-count.count c.loop-count.room last row c.loop-count-test.true (p.1 history) (subst (λ (s : State). IsNextAfter last (Some row) (rows_at s name)) p.0 next)
          (subst (λ (n : ℕ). leb n c.loop-count.room ≡ true) size told.0) in
          rw c.in_ok-last-2.ensures.key (subst (λ (n : ℕ). KeepsSoFar c.args.keep c.args.bytes (c.loop-count.count - 1) n (key_of row) (rows_at (tables_in old.now) name)) (sym (told.1 ∙ ap (λ (n : ℕ). c.loop-count.room - n) size)) kept),
    ))

pub returns-clause-works : goal.returns-clause-works
returns-clause-works g c =
    let name = c.args.name.now in
    let none : c.loop-count.count ≡ 0 = omega (arith, c.loop-count-test.false) in
    record {
      kept = c.loop-count.invariant.kept;
      made = λ clean inside.
          let made = c.loop-count.invariant.made clean inside in (
            made.0,
            (
              made.1.0,
              λ history.
                  last_one c.args.keep c.args.bytes (rows_at (tables_in (state g.S.Store c.args.transaction.now).now) name) c.loop-count.room c.loop-count.last
                  (subst (λ (n : ℕ). KeepsSoFar c.args.keep c.args.bytes n c.loop-count.room c.loop-count.last (rows_at (tables_in (state g.S.Store c.args.transaction.now).now) name)) none (made.1.1 history)),
            ),
          );
    }
