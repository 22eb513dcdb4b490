-- An action is noted.
use Rattle.std.proofs.Common.{◌≡◌, ℕ, true, false, List, [], ◌∷◌, refl, ap, subst, ◌∙◌}
use Rattle.std.specs.Prelude.{map}
use Rattle.std.specs.List.{AllByRecursion}
use Rattle.std.proofs.lemmas.List.Elements.{recursion_from_All, All-from_recursion}
use Rattle.cs_value.specs.declared.value.OwnedValue.{OwnedValue}
use Rattle.cs_value.specs.State.{State, IsState, rows_at, schema_at}
use Rattle.cs_wire.specs.Changeset.{GroupData, IsNewName, file_bytes}
use Rattle.cs_apply_conflict_kinds.specs.declared.conflict.Noop.TheVariants.{Report as Reported}
use Rattle.cs_apply_conflict_kinds.specs.Applying.{IsApplied, omit_all}
use Rattle.cs_apply_conflict_kinds.proofs.ApplyLemmas.{applied_once}
use Rattle.cs_apply_engine.specs.Running.{Leads}
use Rattle.cs_session_notes.specs.Changes.{HasTables}
use Rattle.cs_session_notes.specs.FirstImages.{IsNotes, Notes, HasAttached, recorded_changes, rewound_state}
use Rattle.cs_session.proofs.ChangesLemmas.{before_is, changes_are, changes_clean, changes_applied}
use Rattle.cs_history.specs.Stored.{ActionData, IsHistory, action_of, rows_of}
use Rattle.cs_history.specs.Actions.{others, Acts, Stays}
use Rattle.cs_history.specs.Moving.{AddsRow}
use Rattle.cs_history.proofs.ApartLemmas.{leads_apart, rows_stay}

module _ (s : State) (notes : Notes) (is : IsState s) (are : IsNotes notes) (has : HasTables s notes) where
  each : AllByRecursion (HasAttached s) notes
  each = recursion_from_All (HasAttached s) notes has

  -- the changeset leads from the tables from before
  abbrev leads : Leads (file_bytes (recorded_changes notes s)) (rewound_state notes s) s
  leads = record {
    changeset = recorded_changes notes s;
    is_changeset = changes_are s notes is are each;
    is_file = refl;
    is_state = before_is s notes is are each;
    clean = changes_clean s notes is are each;
    choose = omit_all;
    applied = changes_applied s notes is are each omit_all;
  }

  -- without changes these are the same
  pub stays : (name : List ℕ) → IsHistory s name → recorded_changes notes s ≡ [] → Stays name (rewound_state notes s) s s
  stays name history none =
      let before = rewound_state notes s in
      record {
        history = history;
        nothing = applied_once Reported before [] omit_all before s
            (record { schemas = λ table. refl; results = All-from_recursion _ [] tt; others = λ table key elsewhere. refl })
            (subst (λ (c : List GroupData). IsApplied before c omit_all s) none leads.applied);
        same = refl;
      }

  pub acts : (name label : List ℕ) → IsHistory s name → (action : ActionData) (mid new : State) → IsNewName (recorded_changes notes s) name → action.label ≡ label → action.changeset ≡ file_bytes (recorded_changes notes s)
      → others mid name ≡ others s name → rows_of true (rows_at mid name) ≡ rows_of true (rows_at s name) → rows_of false (rows_at mid name) ≡ [] → AddsRow name action mid new
      → schema_at mid name ≡ schema_at s name → Acts name label (file_bytes (recorded_changes notes s)) (rewound_state notes s) s new
  acts name label history action mid new apart is_label is_file same done undone adds schema =
      let file = file_bytes (recorded_changes notes s) in
      let actions : List (List ℕ × List OwnedValue) → List ActionData = λ es. map (λ e. action_of e.1) es in
      let noted : action ≡ record { label = label; changeset = file } = λ i. record { label = is_label i; changeset = is_file i } in
      record {
        history = history;
        leads = leads_apart name file (rewound_state notes s) s leads apart;
        kept = rows_stay name file (rewound_state notes s) s leads apart;
        same = adds.same ∙ same;
        schema = adds.schema ∙ schema;
        done = ap actions adds.added.3 ∙ (λ i. (adds.added.2 ∙ noted) i ∷ actions (done i));
        undone = ap actions (adds.undone ∙ undone);
      }
