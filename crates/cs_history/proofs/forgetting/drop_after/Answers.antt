-- `forgetting::drop_after`: the clause `works`.
use Rattle.std.proofs.Common.{◌≡◌, [], Some, sym, subst}
use Rattle.sqlite.specs.Held.{state}
use Rattle.cs_value.specs.State.{State, rows_at}
use Rattle.cs_store.specs.Store.{tables_in}
use Rattle.cs_store_tables.specs.Laws.{keeps_then}
use Rattle.cs_history.specs.Moving.{DropsAfter, IsNextAfter, rows_after}
use Rattle.cs_history.specs.Stored.{IsHistory}
use Rattle.cs_history.specs.declared.fault.HistoryFault.{HistoryFault}
use Rattle.cs_history.proofs.ForgetLemmas.{drops_one}
use Rattle.cs_history.proofs.WorkLemmas.{works_err, works_then}
use Rattle.cs_history.proofs.forgetting.drop_after.Goals as goal

pub returns-in_err-row-clause-works : goal.returns-in_err-row-clause-works
returns-in_err-row-clause-works g c = works_err c.from_residual.result _ c.from_residual.ensures.1 (keeps_then c.loop.invariant.kept c.row_after.ensures.works.kept)

pub returns-in_err-remove_row-in-Some-clause-works : goal.returns-in_err-remove_row-in-Some-clause-works
returns-in_err-remove_row-in-Some-clause-works g c =
    works_err c.from_residual-in_err-remove_row-in-Some.result _ c.from_residual-in_err-remove_row-in-Some.ensures.1
    (keeps_then (keeps_then c.loop.invariant.kept c.in_ok-row.ensures.works.kept) c.remove_row.ensures.works.kept)

pub returns-in-None-clause-works : goal.returns-in-None-clause-works
returns-in-None-clause-works g c =
    let old = state g.S.Store c.args.transaction.now in
    let name = c.args.name.now in
    let key = c.args.key.now in
    works_then (λ x before after. IsHistory before name → DropsAfter key name before after × (rows_after key (rows_at after name) ≡ [])) (tt {0}) c.loop.invariant c.in_ok-row.ensures.works (λ p q history.
    let left = p history in (
      subst (DropsAfter key name (tables_in old.now)) (sym q.0) left,
      subst (λ (s : State). rows_after key (rows_at s name) ≡ []) (sym q.0) ((rw c.in-None.is at q.1) left.history),
    ))

pub loop-preserved : goal.loop-preserved
loop-preserved g c =
    let old = state g.S.Store c.args.transaction.now in
    let name = c.args.name.now in
    let key = c.args.key.now in
    let row = c.in-Some.row in
    let read = works_then {G = HistoryFault} (λ (x : Unit {0}) before after. IsHistory before name → DropsAfter key name before after × IsNextAfter key (Some row) (rows_at after name)) (tt {0}) c.loop.invariant c.in_ok-row.ensures.works
    (λ p q history. let left = p history in (subst (DropsAfter key name (tables_in old.now)) (sym q.0) left, subst (λ (s : State). IsNextAfter key (Some row) (rows_at s name)) (sym q.0) ((rw c.in-Some.is at q.1) left.history))) in
    works_then (λ (x : Unit {0}) before after. IsHistory before name → DropsAfter key name before after) (tt {0}) read c.in_ok-remove_row-in-Some.ensures.works (λ p q history.
    let left = p history in
    drops_one key name (tables_in old.now) _ _ row left.0 left.1 (q left.0.history))
