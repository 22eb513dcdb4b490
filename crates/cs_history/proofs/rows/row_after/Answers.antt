-- `rows::row_after`: what it ensures.
use Rattle.std.proofs.Common.{◌≡◌, ◌-◌, ℕ, Some, Ok, ap, ◌∙◌}
use Rattle.std.specs.Prelude.{take}
use Rattle.sqlite.specs.Held.{state}
use Rattle.cs_value.specs.State.{rows_at}
use Rattle.cs_store.specs.Store.{tables_in}
use Rattle.cs_store.specs.Pages.{page_in}
use Rattle.cs_history.specs.Moving.{IsNextAfter}
use Rattle.cs_history.specs.Stored.{IsHistory}
use Rattle.cs_history.specs.declared.fault.HistoryFault.{HistoryFault}
use Rattle.cs_history.proofs.FaultLemmas.{store_named}
use Rattle.cs_history.proofs.FirstLemmas.{take_none}
use Rattle.cs_history.proofs.ForgetLemmas.{next_after}
use Rattle.cs_history.proofs.WorkLemmas.{reads_work, shown_state, works_after, works_err, works_ok}
use Rattle.cs_history.proofs.rows.row_after.Goals as goal

pub returns-in_err-rows-clause-works : goal.returns-in_err-rows-clause-works
returns-in_err-rows-clause-works g c = works_err c.from_residual.result _ c.from_residual.ensures.1 c.page.ensures.kept

pub returns-in_err-rows-clause-named : goal.returns-in_err-rows-clause-named
returns-in_err-rows-clause-named g c = store_named c.from_residual.result c.in_err-rows.field-0.0 c.from_residual.ensures.1

pub returns-clause-works : goal.returns-clause-works
returns-clause-works g c =
    let old = state g.S.Store c.args.transaction.now in
    let new = state g.S.Store c.page.new.self in
    let name = c.args.name.now in
    let key = c.args.key.now in
    works_after {E = HistoryFault} (λ o before after. (after ≡ before) × (IsHistory before name → IsNextAfter key o (rows_at before name))) (Ok c.pop.result)
    (works_ok (reads_work (λ rows before after. (after ≡ before) × (rows.items ≡ page_in (rows_at before name) (Some key) 1)) (Ok c.in_ok-rows.rows) c.page.ensures.kept c.in_ok-rows.ensures.reads
    (λ clean. (ap tables_in (c.in_ok-rows.ensures.same clean), c.in_ok-rows.ensures.listed clean))))
    (λ clean inside read. (
      read.0,
      λ history. next_after (tables_in old.now) name (shown_state old new c.page.ensures.kept c.store_law.ensures.holds c.store_law.ensures.inside clean inside) history key c.in_ok-rows.rows.items read.1 c.pop.result c.pop.new.self.items c.pop.ensures.items
          (λ none. c.pop.ensures.rest ∙ ap (λ (n : ℕ). take (n - 1) c.in_ok-rows.rows.items) (rw none at c.pop.ensures.cases).0 ∙ take_none c.in_ok-rows.rows.items),
    ))
