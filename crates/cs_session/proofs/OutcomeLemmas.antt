-- What a session answers of its net changeset, and of an undo.
use Rattle.std.proofs.Common.{◌≡◌, ◌≢◌, map, inl, inr, ℕ, List, [], ◌∷◌, length, Result, Ok, Err, refl, sym, ap, subst, ◌∙◌}
use Rattle.std.specs.Prelude.{string_bytes, option_map, IsTrue, OnOk, IfOk}
use Rattle.std.specs.List.{AllByRecursion, AllZip}
use Rattle.std.proofs.lemmas.List.{nil_from_length, length-map}
use Rattle.std.proofs.lemmas.List.Elements.{recursion_from_All}
use Rattle.sqlite.specs.Effect.{Database}
use Rattle.sqlite.specs.State as store
use Rattle.sqlite.specs.State.{HasCleanDisk}
use Rattle.cs_value.specs.State.{State, IsState, schema_at, rows_at}
use Rattle.cs_wire.specs.Changeset.{HeaderData, GroupData, file_bytes}
use Rattle.cs_wire.specs.Inverse.{IsInverseGroup}
use Rattle.cs_wire.specs.Laws.{ChangesetFiles}
use Rattle.cs_store.specs.Laws.{was_clean}
use Rattle.cs_store.specs.Records.{KeepsCrash}
use Rattle.cs_store.specs.Store.{Begins, tables_in}
use Rattle.cs_apply_conflict_kinds.specs.declared.conflict.Choice.{Choice}
use Rattle.cs_apply_conflict_kinds.specs.declared.judging.Judgement.TheVariants.{Compatible}
use Rattle.cs_apply_conflict_kinds.specs.Judging.{judgement, judged}
use Rattle.cs_apply_conflict_kinds.specs.Applying.{omit_all, skipped}
use Rattle.cs_value.proofs.ListLemmas.{recursion_from_AllPairs}
use Rattle.cs_apply_conflict_kinds.specs.declared.conflict.Noop.TheVariants as noop
use Rattle.cs_apply_engine.specs.declared.conflict.Conflict.{Conflict}
use Rattle.cs_apply_engine.specs.declared.fault.ApplyFault.{ApplyFault}
use Rattle.cs_apply_engine.specs.declared.fault.ApplyFault.TheVariants as apply
use Rattle.cs_apply_engine.specs.declared.report.Report.{Report}
use Rattle.cs_apply_engine.specs.declared.running.Direction.TheVariants.{Inverse}
use Rattle.cs_apply_engine.specs.Running as applying
use Rattle.cs_apply_engine.specs.Running.{Handler, AlwaysAborts, Applies, Refuses, Leads}
use Rattle.cs_apply.proofs.RevertLemmas.{reverts_ok, reverts_err, applies_weaker, refuses_weaker}
use Rattle.cs_store.specs.Faults.{IsStoreFault}
use Rattle.cs_session_notes.specs.Faults.{apply_fault_of}
use Rattle.cs_session_notes.specs.FirstImages.{AttachedTable, Notes, IsNotes, HasAttached, rewound, rewound_state, recorded_changes}
use Rattle.cs_session_notes.specs.Changes.{HasTables, IsOfStore, RefusesChanges}
use Rattle.cs_session.specs.Undoing.{LeadsBackTo, Undoes}
use Rattle.cs_session.proofs.RewoundLemmas.{rewound_here, all_rewound}
use Rattle.cs_session.proofs.ChangesLemmas.{before_is, changes_are, changes_clean, changes_applied, all_compatible}

-- a batch that began on a store has the tables of a state
pub begun_state : (old begun : store.State) → KeepsCrash old begun → (HasCleanDisk begun → Begins old begun) → (HasCleanDisk old → IsTrue old.is_open → IsState (tables_in old.now))
    → HasCleanDisk begun → IsState (tables_in begun.now)
begun_state old begun keeps begun_as is_state clean =
    let shown = (begun_as clean).shown in
    subst (λ (db : Database). IsState (tables_in db)) (sym shown.now_is) (is_state (was_clean old begun keeps clean) shown.was_open)

-- and shows what the store showed
pub read_attached : {E : Type 0} (r : Result (List GroupData) E) (begun old : Database) → begun ≡ old → (notes : Notes) → OnOk r (HasTables (tables_in begun) notes) → OnOk r (HasTables (tables_in old) notes)
read_attached r begun old same notes has = subst (λ (db : Database). OnOk r (HasTables (tables_in db) notes)) same has

-- nor the changeset
pub read_made : {E : Type 0} (r : Result (List GroupData) E) (begun old : Database) → begun ≡ old → (notes : Notes) → IfOk r (λ c. c ≡ recorded_changes notes (tables_in begun))
    → IfOk r (λ c. c ≡ recorded_changes notes (tables_in old))
read_made r begun old same notes made = subst (λ (db : Database). IfOk r (λ c. c ≡ recorded_changes notes (tables_in db))) same made

leads_back : (state : State) (notes : Notes) → IsState state → IsNotes notes → HasTables state notes → LeadsBackTo notes state (recorded_changes notes state)
leads_back state notes is_state are has =
    let each = recursion_from_All (HasAttached state) notes has in
    record { clean = changes_clean state notes is_state are each; applied = changes_applied state notes is_state are each }

-- the net changeset leads from the rows from before to the current ones
pub read_leads : {E : Type 0} (r : Result (List GroupData) E) (begun old : Database) → begun ≡ old → IsState (tables_in begun) → (notes : Notes) → IsNotes notes
    → OnOk r (HasTables (tables_in begun) notes) → IfOk r (λ c. c ≡ recorded_changes notes (tables_in begun)) → IfOk r (LeadsBackTo notes (tables_in old))
read_leads (Ok c) begun old same is_state notes are has made =
    rw (← same, made) (leads_back (tables_in begun) notes is_state are has)
read_leads (Err e) begun old same is_state notes are has made = tt

-- ---- its inverse

-- a changeset whose tables are there passes over none, nor does its inverse
inverse_skips : (state : State) (changeset inverse : List GroupData) → AllByRecursion (λ g. judged state g ≡ Compatible) changeset → AllZip IsInverseGroup changeset inverse
    → skipped state inverse ≡ []
inverse_skips state [] [] all zip = refl
inverse_skips state [] (h ∷ inverse) all zip = absurd zip
inverse_skips state (g ∷ changeset) [] all zip = absurd zip
inverse_skips state (g ∷ changeset) (h ∷ inverse) all zip =
    let same : judged state h ≡ Compatible = ap (λ (header : HeaderData). judgement header.flags (option_map (λ s. s.flags) (schema_at state header.name))) zip.0.header ∙ all.0 in
    rw same (inverse_skips state changeset inverse all.1 zip.1)

-- the database that refuses an apply refuses the session
store_refused : (e : ApplyFault) → applying.IsOfStore IsStoreFault e → IsOfStore IsStoreFault (apply_fault_of e)
store_refused (apply.Store error) is = is
store_refused (apply.Read fault) none = absurd none
store_refused (apply.Wider index) none = absurd none
store_refused (apply.Abort conflict) none = absurd none
store_refused (apply.Misuse conflict) none = absurd none
store_refused apply.NoMemory none = absurd none

module _ (law : ChangesetFiles) (state : State) (notes : Notes) (is_state : IsState state) (are : IsNotes notes) (has : HasTables state notes) where
  abbrev changes : List GroupData
  changes = recorded_changes notes state

  each : AllByRecursion (HasAttached state) notes
  each = recursion_from_All (HasAttached state) notes has

  -- the file of the net changeset leads from the rows from before to the current ones
  abbrev leads : Leads (file_bytes changes) (rewound_state notes state) state
  leads = record {
    changeset = changes;
    is_changeset = changes_are state notes is_state are each;
    is_file = refl;
    is_state = before_is state notes is_state are each;
    clean = changes_clean state notes is_state are each;
    choose = omit_all;
    applied = changes_applied state notes is_state are each omit_all;
  }

  given_back : map (λ t. rows_at (rewound_state notes state) t.name) notes ≡ rewound notes state
  given_back = all_rewound state (rewound_state notes state) notes (rewound_here state notes each (recursion_from_AllPairs (λ (s t : AttachedTable). s.name ≢ t.name) notes are.once))

  skips_none : (report : Report) (new : State) → Applies AlwaysAborts noop.Report (file_bytes changes) Inverse state report new → report.skipped.items ≡ []
  skips_none report new applies =
      let read = applies.read in
      let one : read.0 ≡ changes = law read.0 changes read.1 leads.is_changeset (sym read.2) in
      let zip = subst (λ (c : List GroupData). AllZip IsInverseGroup c applies.changeset) one read.3 in
      let none = applies.skipped ∙ inverse_skips state changes applies.changeset (all_compatible state state notes each) zip in
      nil_from_length report.skipped.items (sym (length-map report.skipped.items string_bytes) ∙ ap length none)

  -- its inverse undoes
  pub undoes : (chooses : Handler) → ((k : Conflict) (c : Choice) → chooses k c → AlwaysAborts k c) → (file : List ℕ) → file ≡ file_bytes changes → (mid : State) → mid ≡ state
      → (report : Report) (new : State) → Applies chooses noop.Report file Inverse mid report new → Undoes notes state report new
  undoes chooses aborts file is_file mid same report new applies =
      let weaker = applies_weaker chooses AlwaysAborts aborts noop.Report file Inverse mid report new applies in
      let told = rw (is_file, same) at weaker in
      let back = reverts_ok AlwaysAborts law (file_bytes changes) (rewound_state notes state) state new report leads told in
      record { attached = has; applied = told; no_conflict = back.0; none_skipped = skips_none report new told; back = rw back.1 given_back; rewound = back.1 }

  -- or memory or the database refuses
  pub refuses_undo : (chooses : Handler) → ((k : Conflict) (c : Choice) → chooses k c → AlwaysAborts k c) → (file : List ℕ) → file ≡ file_bytes changes → (mid : State) → mid ≡ state
      → (e : ApplyFault) → Refuses chooses noop.Report file Inverse mid e → RefusesChanges state notes (apply_fault_of e)
  refuses_undo chooses aborts file is_file mid same e refuses =
      at (reverts_err law (file_bytes changes) (rewound_state notes state) state e leads (rw (is_file, same) at (refuses_weaker chooses AlwaysAborts aborts noop.Report file Inverse mid e refuses)))
    where
      at : applying.IsResource e → RefusesChanges state notes (apply_fault_of e)
      at (inl is) = inr (inl (ap apply_fault_of is))
      at (inr is) = inr (inr (store_refused e is))
