-- An action is undone, or done again.
use Rattle.std.proofs.Common.{◌≡◌, inl, inr, ℕ, Bool, true, false, not, List, [], ◌∷◌, ◌++◌, Option, Some, None, option_map, refl, sym, ap, subst, ◌∙◌}
use Rattle.std.specs.Prelude.{map, unwrap_or}
use Rattle.std.specs.FinMap.{get, empty}
use Rattle.cs_value.specs.declared.value.OwnedValue.{OwnedValue}
use Rattle.cs_value.specs.State.{TableData, State, IsState, rows_at, schema_at}
use Rattle.cs_value.proofs.StateLemmas.{table_of_schema}
use Rattle.cs_wire.specs.Changeset.{GroupData}
use Rattle.cs_wire.specs.Laws.{ChangesetFiles}
use Rattle.cs_apply_conflict_kinds.specs.declared.conflict.Noop.TheVariants.{Report as Reported}
use Rattle.std.proofs.lemmas.List.Elements.{recursion_from_All}
use Rattle.cs_apply_conflict_kinds.specs.Applying.{IsApplied, IsClean, applicable, placed_kind}
use Rattle.cs_apply_conflict_kinds.proofs.ApplyLemmas.{applied_once, none_met}
use Rattle.cs_apply.specs.Crash.{AppliesInto}
use Rattle.cs_apply.proofs.RevertLemmas.{with_weaker}
use Rattle.cs_apply_conflict_kinds.specs.declared.conflict.Choice.{Choice}
use Rattle.cs_apply_engine.specs.declared.conflict.Conflict.{Conflict}
use Rattle.cs_apply_engine.specs.declared.report.Report.{Report}
use Rattle.cs_apply_engine.specs.declared.running.Direction.TheVariants.{Forward}
use Rattle.cs_apply_engine.specs.declared.fault.ApplyFault.{ApplyFault}
use Rattle.cs_apply_engine.specs.declared.fault.ApplyFault.TheVariants as fault
use Rattle.cs_apply_engine.specs.Running.{AlwaysAborts, Applies, Handler, IsReadAs, IsResource, Leads, Refuses}
use Rattle.cs_history.specs.Stored.{ActionData, IsHistory, action_of, actions_of, history_schema, rows_of}
use Rattle.cs_history.specs.Actions.{others, CanMove, Moves, Runs, Turns}
use Rattle.cs_history.specs.Moving.{MovesRow, Turning, first_of}
use Rattle.cs_history.proofs.ApartLemmas.{applied_again, leads_here, leads_from}
use Rattle.cs_history.proofs.FirstLemmas.{first_entry}

-- an apply makes the state to which its file leads
pub applies_reach : ChangesetFiles → (chooses : Handler) (file : List ℕ) (old new reached : State) (report : Report) → Applies chooses Reported file Forward old report new → Leads file old reached → new ≡ reached
applies_reach law chooses file old new reached report applies leads =
    let same : applies.changeset ≡ leads.changeset = law applies.changeset leads.changeset applies.read.0 leads.is_changeset (sym applies.read.1 ∙ leads.is_file) in
    let made : IsApplied old leads.changeset applies.choose new = subst (λ (c : List GroupData). IsApplied old c applies.choose new) same applies.applied in
    applied_once Reported old leads.changeset applies.choose new reached made (applied_again old reached leads.changeset leads.choose applies.choose leads.clean leads.applied)

module _ (s : State) (name : List ℕ) (is : IsState s) (history : IsHistory s name) where
  table : (t : TableData) × (get s name ≡ Some t) × (t.schema ≡ history_schema)
  table = table_of_schema (get s name) history_schema history

  -- what a changeset leads to without the table, it leads to with it
  turned_with : (done : Bool) (file : List ℕ) (reached : State) → Turns done name file (others s name) reached
      → (state : State) × Turning done file s state × (others state name ≡ reached) × (get state name ≡ get s name)
  turned_with true file reached it = leads_here name file reached s table.0 is table.1 it
  turned_with false file reached it = leads_from name file s reached table.0 is table.1 it

  -- so the changeset of the first row leads back, or on, if it does so without the table
  pub can_turn : (done : Bool) (row : List OwnedValue) → Some row ≡ first_of done (rows_at s name) → CanMove done name s → (reached : State) × Turning done (action_of row).changeset s reached
  can_turn done row is_first can =
      let entry = first_entry s name is history done row (rows_of done (rows_at s name)) refl is_first in
      let same : action_of row ≡ can.action = let e = sym (ap (map (λ e. action_of e.1)) entry.1) ∙ can.first in cc in
      let with = turned_with done can.action.changeset can.reached can.turns in
      (with.0, subst (λ (a : ActionData). Turning done a.changeset s with.0) (sym same) with.1)

  -- the tables stay what they are, as a changeset is run
  ran_schema : (done : Bool) (file : List ℕ) (mid : State) → Runs done file s mid → schema_at mid name ≡ schema_at s name
  ran_schema true file mid ran = ran.applies.applied.schemas name
  ran_schema false file mid ran = ran.applies.applied.schemas name

  pub turns : (done : Bool) (mid new : State) (row : List OwnedValue) → Some row ≡ first_of done (rows_at s name) → Runs done (action_of row).changeset s mid
      → ((reached : State) → Turning done (action_of row).changeset s reached → mid ≡ reached) → (IsHistory mid name → MovesRow done name row mid new) → Moves done name s new
  turns done mid new row is_first ran run move =
      let entry = first_entry s name is history done row (rows_of done (rows_at s name)) refl is_first in
      let stays = ran_schema done (action_of row).changeset mid ran in
      let moves = move (stays ∙ history) in
      record {
        history = history;
        action = action_of row;
        rest = map (λ e. action_of e.1) entry.0;
        first = ap (map (λ e. action_of e.1)) entry.1;
        mid = mid;
        ran = ran;
        same = moves.same;
        schema = moves.schema ∙ stays;
        moved = λ reached it.
            let with = turned_with done (action_of row).changeset reached it in
            let at : mid ≡ with.0 = run with.0 with.1 in
            let here : get mid name ≡ get s name = ap (λ (t : State). get t name) at ∙ with.3 in
            let rows : rows_at mid name ≡ rows_at s name = ap (λ (o : Option TableData). unwrap_or (option_map (λ (t : TableData). t.rows) o) empty) here in
            let moved = moves.moved entry.0 (ap (rows_of done) rows ∙ entry.1) in (
              moves.same ∙ ap (λ (t : State). others t name) at ∙ with.2,
              ap (map (λ e. action_of e.1)) moved.0,
              ap (map (λ e. action_of e.1)) moved.4
                  ∙ (λ i. moved.3 i ∷ actions_of (not done) (rows i)),
            );
      }

-- ---- an apply that meets no conflict

-- a handler that always aborts does as one that may do more
pub aborts_into : (P : Handler) → ((k : Conflict) (c : Choice) → P k c → AlwaysAborts k c) → (file : List ℕ) (old new : State) → AppliesInto P Reported file Forward old new → AppliesInto AlwaysAborts Reported file Forward old new
aborts_into P aborts file old new it = record {
  met = it.met;
  skips = it.skips;
  writes = it.writes;
  passed = it.passed;
  applies = with_weaker P AlwaysAborts aborts Reported file Forward old it.met it.skips it.writes it.passed new it.applies;
}

none_last : {X : Type 0} (xs ys : List X) (x : X) → xs ++ x ∷ ys ≡ [] → ⊥
none_last [] ys x e = cc
none_last (y ∷ xs) ys x e = cc

module _ (law : ChangesetFiles) (file : List ℕ) (old reached : State) (leads : Leads file old reached) where
  as_led : (changeset : List GroupData) → IsReadAs file Forward changeset → IsClean old changeset
  as_led changeset read = subst (IsClean old) (law leads.changeset changeset leads.is_changeset read.0 (sym leads.is_file ∙ read.1)) leads.clean

  no_group : GroupData
  no_group = record { header = record { name = []; flags = [] }; entries = [] }

  -- is refused only since memory ran out, or by the database
  pub applies_err : (e : ApplyFault) → Refuses AlwaysAborts Reported file Forward old e → IsResource e
  applies_err (fault.Read f) refuses = absurd (refuses.refused (leads.changeset, leads.is_changeset, leads.is_file))
  applies_err (fault.Wider place) refuses = absurd ((as_led refuses.changeset refuses.read).none_wider place no_group refuses.first.within (refuses.first.wider no_group))
  applies_err (fault.Abort k) refuses =
      let clean = as_led refuses.changeset refuses.read in
      let none = none_met old refuses.reached.choose (applicable old refuses.changeset) (recursion_from_All (λ p. placed_kind old p ≡ None) (applicable old refuses.changeset) clean.no_conflict) in
      absurd (none_last _ refuses.reached.later _ (sym refuses.reached.listed ∙ none))
  applies_err (fault.Misuse k) refuses = absurd (let e = refuses.ended.chosen in cc)
  applies_err (fault.Store e) refuses = inr refuses
  applies_err fault.NoMemory refuses = inl refl
