-- `acting::forget_undone`: the clause `works`.
use Rattle.std.proofs.Common.{◌≡◌, ◌∙◌, [], false, Some, sym, subst}
use Rattle.sqlite.specs.Held.{state}
use Rattle.cs_value.specs.State.{State, rows_at}
use Rattle.cs_store.specs.Store.{tables_in}
use Rattle.cs_store_tables.specs.Laws.{keeps_then}
use Rattle.cs_history.specs.Moving.{Forgotten, first_of}
use Rattle.cs_history.specs.Stored.{IsHistory, rows_of}
use Rattle.cs_history.specs.declared.fault.HistoryFault.{HistoryFault}
use Rattle.cs_history.proofs.FirstLemmas.{none_first}
use Rattle.cs_history.proofs.WorkLemmas.{works_err, works_then}
use Rattle.cs_history.proofs.acting.forget_undone.Goals as goal

pub returns-in_err-row : goal.returns-in_err-row
returns-in_err-row g c = record { works = works_err c.from_residual.result _ c.from_residual.ensures.1 (keeps_then c.loop.invariant.kept c.first_row.ensures.works.kept) }

pub returns-in_err-remove_row-in-Some : goal.returns-in_err-remove_row-in-Some
returns-in_err-remove_row-in-Some g c = record {
  works = works_err c.from_residual-in_err-remove_row-in-Some.result _ c.from_residual-in_err-remove_row-in-Some.ensures.1
      (keeps_then (keeps_then c.loop.invariant.kept c.in_ok-row.ensures.works.kept) c.remove_row.ensures.works.kept);
}

pub returns-in-None : goal.returns-in-None
returns-in-None g c =
    let old = state g.S.Store c.args.transaction.now in
    let name = c.args.name.now in
    record {
      works = works_then (λ x before after. IsHistory before name → Forgotten name before after × (rows_of false (rows_at after name) ≡ [])) (tt {0}) c.loop.invariant c.in_ok-row.ensures.works (λ p q history.
          let left = subst (Forgotten name (tables_in old.now)) (sym q.0) (p history) in
          (left, subst (λ (s : State). rows_of false (rows_at s name) ≡ []) (sym q.0) (none_first _ (sym c.in-None.is ∙ q.1 (p history).history))));
    }

pub loop-preserved : goal.loop-preserved
loop-preserved g c =
    let old = state g.S.Store c.args.transaction.now in
    let name = c.args.name.now in
    let row = c.in-Some.row in
    let read = works_then {G = HistoryFault} (λ (x : Unit {0}) before after. IsHistory before name → Forgotten name before after × (Some row ≡ first_of false (rows_at after name))) (tt {0}) c.loop.invariant c.in_ok-row.ensures.works
    (λ p q history. (subst (Forgotten name (tables_in old.now)) (sym q.0) (p history), subst (λ (s : State). Some row ≡ first_of false (rows_at s name)) (sym q.0) (sym c.in-Some.is ∙ q.1 (p history).history))) in
    works_then (λ (x : Unit {0}) before after. IsHistory before name → Forgotten name before after) (tt {0}) read c.in_ok-remove_row-in-Some.ensures.works (λ p q history.
    let left = p history in
    let gone = q left.0.history in
    record { history = gone.history; same = gone.same ∙ left.0.same; done = gone.done left.1 ∙ left.0.done })
