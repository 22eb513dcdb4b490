-- `forgetting::forget`: what it ensures.
use Rattle.std.proofs.Common.{◌≡◌, subst, sym, ◌∙◌}
use Rattle.sqlite.specs.Held.{state}
use Rattle.cs_value.specs.State.{State, rows_at}
use Rattle.cs_store.specs.Store.{tables_in}
use Rattle.cs_store_tables.specs.Laws.{keeps_then}
use Rattle.cs_history.specs.Actions.{Forgets}
use Rattle.cs_history.specs.Moving.{DropsAfter, Keeps}
use Rattle.cs_history.specs.Stored.{IsHistory}
use Rattle.cs_history.specs.declared.fault.HistoryFault.{HistoryFault}
use Rattle.cs_history.proofs.ForgetLemmas.{forgets}
use Rattle.cs_history.proofs.WorkLemmas.{works_err, works_on, works_then}
use Rattle.cs_history.proofs.forgetting.forget.Goals as goal

pub returns-in_err-check_table-clause-works : goal.returns-in_err-check_table-clause-works
returns-in_err-check_table-clause-works g c = works_err c.from_residual.result _ c.from_residual.ensures.1 c.check_table.ensures.works.kept

pub returns-in_err-last-clause-works : goal.returns-in_err-last-clause-works
returns-in_err-last-clause-works g c = works_err c.from_residual-in_err-last.result _ c.from_residual-in_err-last.ensures.1 (keeps_then c.in_ok-check_table.ensures.works.kept c.last_kept.ensures.works.kept)

pub returns-clause-works : goal.returns-clause-works
returns-clause-works g c =
    let old = state g.S.Store c.args.transaction.now in
    let new = state g.S.Store c.drop_after.new.transaction in
    let name = c.args.name.now in
    let key = c.in_ok-last.last in
    let read = works_then {G = HistoryFault} (λ (k : _) before after. (after ≡ before) × IsHistory before name × Keeps c.args.keep c.args.bytes key (rows_at before name)) key c.in_ok-check_table.ensures.works c.in_ok-last.ensures.works
    (λ p q. (q.0 ∙ p.0, p.1, subst (λ (s : State). Keeps c.args.keep c.args.bytes key (rows_at s name)) p.0 (q.1 (subst (λ (s : State). IsHistory s name) (sym p.0) p.1)))) in
    works_on (λ x before after. Forgets c.args.keep c.args.bytes name before after) c.drop_after.result read c.drop_after.ensures.works (λ z p q.
    let dropped = q (subst (λ (s : State). IsHistory s name) (sym p.0) p.1) in
    forgets key name c.args.keep c.args.bytes (tables_in old.now) (tables_in new.now) p.1 (subst (λ (s : State). DropsAfter key name s (tables_in new.now)) p.0 dropped.0) dropped.1 p.2)
