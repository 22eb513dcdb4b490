-- `rows::first_row`: the clause `works`.
use Rattle.std.proofs.Common.{◌≡◌, ◌-◌, ℕ, Result, Ok, Err, IfOk, None, [], ◌++◌, ap, sym, subst, ◌∙◌}
use Rattle.std.specs.Prelude.{take}
use Rattle.sqlite.specs.Held.{state}
use Rattle.cs_store.specs.Store.{tables_in}
use Rattle.cs_value.specs.State.{rows_at}
use Rattle.cs_history.specs.Moving.{first_of}
use Rattle.cs_history.specs.Stored.{IsHistory}
use Rattle.cs_history.proofs.FirstLemmas.{IsFirst, page_first, popped_none, popped_some, take_none}
use Rattle.cs_history.proofs.WorkLemmas.{shown_state, works_after}
use Rattle.cs_history.proofs.rows.first_row.Goals as goal

ok_so : {X E : Type 0} (r : Result X E) {P : X → Type 0} (Q : X → Type 0) → ((x : X) → P x → Q x) → IfOk r P → IfOk r Q
ok_so (Ok x) Q so it = so x it
ok_so (Err e) Q so it = tt

pub returns-in-Some-clause-works : goal.returns-in-Some-clause-works
returns-in-Some-clause-works g c =
    let old = state g.S.Store c.args.transaction.now in
    let new = state g.S.Store c.first_page.new.transaction in
    works_after (λ o before after. (after ≡ before) × (IsHistory before c.args.name.now → o ≡ first_of c.args.done (rows_at before c.args.name.now))) c.of_side.result c.in_ok-rows.ensures.works (λ clean inside read.
    ok_so c.of_side.result _ (λ o is. (
      read.0,
      λ history.
          let first = subst (IsFirst c.args.done (rows_at (tables_in old.now) c.args.name.now)) (sym read.1)
          (page_first (tables_in old.now) c.args.name.now (shown_state old new c.first_page.ensures.works.kept c.store_law.ensures.holds c.store_law.ensures.inside clean inside) history c.args.done) in
          is ∙ sym (popped_some c.args.done (rows_at (tables_in old.now) c.args.name.now) c.in_ok-rows.rows.items first c.pop.new.self.items c.in-Some.row c.in-Some.ensures.items),
    )) c.of_side.ensures.found)

pub returns-clause-works : goal.returns-clause-works
returns-clause-works g c =
    let old = state g.S.Store c.args.transaction.now in
    let new = state g.S.Store c.first_page.new.transaction in
    let rows = c.in_ok-rows.rows.items in
    let left : c.pop.new.self.items ≡ [] = c.in-None.ensures.rest ∙ ap (λ (n : ℕ). take (n - 1) rows) c.in-None.ensures.cases.0 ∙ take_none rows in
    let none : rows ≡ [] = c.in-None.ensures.items ∙ ap (λ l. l ++ []) left in
    works_after (λ o before after. (after ≡ before) × (IsHistory before c.args.name.now → o ≡ first_of c.args.done (rows_at before c.args.name.now))) (Ok None) c.in_ok-rows.ensures.works (λ clean inside read. (
      read.0,
      λ history.
          let first = subst (IsFirst c.args.done (rows_at (tables_in old.now) c.args.name.now)) (sym read.1)
          (page_first (tables_in old.now) c.args.name.now (shown_state old new c.first_page.ensures.works.kept c.store_law.ensures.holds c.store_law.ensures.inside clean inside) history c.args.done) in
          sym (popped_none c.args.done (rows_at (tables_in old.now) c.args.name.now) rows first none),
    ))
