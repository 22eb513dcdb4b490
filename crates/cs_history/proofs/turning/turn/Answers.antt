-- `turning::turn`: what it ensures.
use Rattle.std.proofs.Common.{◌≡◌, ℕ, List, [], Some, Option, sym, ap, subst, ◌∙◌}
use Rattle.std.specs.Prelude.{map}
use Rattle.sqlite.specs.Held.{state}
use Rattle.cs_value.specs.declared.value.OwnedValue.{OwnedValue}
use Rattle.cs_value.specs.State.{State, IsState, rows_at}
use Rattle.cs_store.specs.Store.{tables_in}
use Rattle.cs_store_tables.specs.Laws.{keeps_then, was_clean}
use Rattle.cs_history.specs.declared.fault.HistoryFault.{HistoryFault}
use Rattle.cs_history.specs.Stored.{IsHistory, action_of, actions_of, rows_of}
use Rattle.cs_history.specs.Actions.{Moves, Runs}
use Rattle.cs_history.specs.Moving.{Turning, first_of}
use Rattle.cs_history.specs.Faults.{IsOther, IsTold}
use Rattle.cs_history.proofs.FaultLemmas.{fault_told, passed_on}
use Rattle.cs_history.proofs.FirstLemmas.{none_first}
use Rattle.cs_history.proofs.TurnLemmas.{can_turn, turns}
use Rattle.cs_history.proofs.WorkLemmas.{refused_then, shown_state, works_err, works_on, works_shown, works_then}
use Rattle.cs_history.proofs.turning.turn.Goals as goal

pub returns-in_err-row-clause-works : goal.returns-in_err-row-clause-works
returns-in_err-row-clause-works g c = works_err c.from_residual-in_err-row.result _ c.from_residual-in_err-row.ensures.1 (keeps_then c.in_ok-check_table.ensures.works.kept c.first_row.ensures.works.kept)

pub returns-in_default-clause-works : goal.returns-in_default-clause-works
returns-in_default-clause-works g c = refused_then _ c.in_ok-check_table.ensures.works c.first_row.ensures.works.kept

pub returns-in_default-clause-refused : goal.returns-in_default-clause-refused
returns-in_default-clause-refused g c clean inside =
    let checked = state g.S.Store c.check_table.new.transaction in
    let read = state g.S.Store c.first_row.new.transaction in
    let name = c.args.name.now in
    let first = c.in_ok-check_table.ensures.works.made (was_clean checked read c.in_ok-row.ensures.works.kept.crash clean) inside in
    let second = c.in_ok-row.ensures.works.made clean first.0 in
    let none = sym c.in_default.is ∙ second.1.1 (subst (λ (s : State). IsHistory s name) (sym first.1.0) first.1.1) in
    subst (λ (s : State). actions_of c.args.done (rows_at s name) ≡ []) first.1.0
    (ap (map (λ e. action_of e.1)) (none_first (rows_of c.args.done (rows_at (tables_in checked.now) name)) none))

pub returns-in_err-run_changeset-clause-works : goal.returns-in_err-run_changeset-clause-works
returns-in_err-run_changeset-clause-works g c =
    works_err c.from_residual-in_err-run_changeset.result _ c.from_residual-in_err-run_changeset.ensures.1
    (keeps_then (keeps_then c.in_ok-check_table.ensures.works.kept c.in_ok-row.ensures.works.kept) c.run_changeset.ensures.works.kept)

pub returns-in_err-run_changeset-clause-refused : goal.returns-in_err-run_changeset-clause-refused
returns-in_err-run_changeset-clause-refused g c clean inside =
    let old = state g.S.Store c.args.transaction.now in
    let checked = state g.S.Store c.check_table.new.transaction in
    let read = state g.S.Store c.first_row.new.transaction in
    let new = state g.S.Store c.run_changeset.new.transaction in
    let row = c.in-Some.row in
    let name = c.args.name.now in
    let done = c.args.done in
    let one = c.in_ok-check_table.ensures.works in
    let was = was_clean read new c.run_changeset.ensures.works.kept.crash clean in
    let before = was_clean checked read c.in_ok-row.ensures.works.kept.crash was in
    let first = one.made before inside in
    let second = c.in_ok-row.ensures.works.made was first.0 in
    let is = shown_state old checked one.kept c.store_law.ensures.holds c.store_law.ensures.inside before inside in
    let is_first = subst (λ (s : State). Some row ≡ first_of done (rows_at s name)) first.1.0 (sym c.in-Some.is ∙ second.1.1 (subst (λ (s : State). IsHistory s name) (sym first.1.0) first.1.1)) in
    let error = c.in_err-run_changeset.field-0.0 in
    let passed = c.from_residual-in_err-run_changeset in
    fault_told _ _ passed.result (passed_on (IsTold ⊥ (Unit {0}) ⊥) passed.result error passed.ensures.1 c.in_err-run_changeset.ensures.named) (λ can.
    let turn = can_turn (tables_in old.now) name is first.1.1 done row is_first can in
    let led = subst (λ (f : List ℕ). Turning done f (tables_in old.now) turn.0) (sym c.in_ok-changeset_of.ensures.content) turn.1 in
    let there = subst (λ (s : State). Turning done c.in_ok-changeset_of.field-0.now s turn.0) (sym (second.1.0 ∙ first.1.0)) led in
    passed_on IsOther passed.result error passed.ensures.1 (c.in_err-run_changeset.ensures.clean clean turn.0 there))

pub returns-clause-works : goal.returns-clause-works
returns-clause-works g c =
    let old = state g.S.Store c.args.transaction.now in
    let new = state g.S.Store c.move_row.new.transaction in
    let mid = state g.S.Store c.run_changeset.new.transaction in
    let row = c.in-Some.row in
    let name = c.args.name.now in
    let done = c.args.done in
    let file = c.in_ok-changeset_of.field-0.now in
    let read = works_then {G = HistoryFault} (λ (o : Option (List OwnedValue)) before after. (after ≡ before) × IsHistory before name × (o ≡ first_of done (rows_at before name))) (Some row) c.in_ok-check_table.ensures.works c.in_ok-row.ensures.works
    (λ p q. (q.0 ∙ p.0, p.1, subst (λ (s : State). Some row ≡ first_of done (rows_at s name)) p.0 (sym c.in-Some.is ∙ q.1 (subst (λ (s : State). IsHistory s name) (sym p.0) p.1)))) in
    let run = works_then {G = HistoryFault} (λ (x : Unit {0}) before after. IsHistory before name × (Some row ≡ first_of done (rows_at before name)) × Runs done file before after × ((reached : State) → Turning done file before reached → after ≡ reached)) (tt {0}) read c.in_ok-run_changeset.ensures.works
    (λ p q. (p.1, p.2, subst (λ (s : State). Runs done file s (tables_in mid.now)) p.0 q.0, λ reached it. q.1 reached (subst (λ (s : State). Turning done file s reached) (sym p.0) it))) in
    let content = c.in_ok-changeset_of.ensures.content in
    works_shown (λ x before after. Moves done name before after) old new c.move_row.result c.store_law.ensures.holds c.store_law.ensures.inside
    (works_on (λ x before after. IsState before → Moves done name before after) c.move_row.result run c.move_row.ensures.works (λ z p q is.
    turns (tables_in old.now) name is p.0 done (tables_in mid.now) (tables_in new.now) row p.1 (subst (λ (f : List ℕ). Runs done f (tables_in old.now) (tables_in mid.now)) content p.2)
    (λ reached it. p.3 reached (subst (λ (f : List ℕ). Turning done f (tables_in old.now) reached) (sym content) it)) q))
