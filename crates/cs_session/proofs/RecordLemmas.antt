-- An apply, noted.
use Rattle.std.proofs.Common.{◌≡◌, ◌⊎◌, inl, inr, ℕ, Bool, true, false, List, [], ◌∷◌, map, Result, Ok, Err, refl, sym, ap, ◌∙◌, subst}
use Rattle.std.specs.Prelude.{IfOk, IfErr, OnOk, IsTrue, MatchResult}
use Rattle.std.specs.List.{AllByRecursion}
use Rattle.std.proofs.lemmas.List.Elements.{recursion_from_All}
use Rattle.sqlite.specs.State as store
use Rattle.sqlite.specs.State.{HasCleanDisk}
use Rattle.cs_value.specs.State.{State, WrittenData, IsState}
use Rattle.cs_wire.specs.Laws.{ChangesetFiles}
use Rattle.cs_store.specs.Editing.{written_of}
use Rattle.cs_store.specs.Store.{RefusesShut, tables_in}
use Rattle.cs_apply_conflict_kinds.specs.Laws.{TellsFormer}
use Rattle.cs_apply_conflict_kinds.proofs.ApplyLemmas.{written_tells}
use Rattle.cs_apply_conflict_kinds.specs.declared.conflict.Choice.{Choice}
use Rattle.cs_apply_conflict_kinds.specs.declared.conflict.Noop.{Noop}
use Rattle.cs_apply_conflict_kinds.specs.declared.conflict.Noop.TheVariants.{Report as Reported}
use Rattle.cs_apply_engine.specs.declared.conflict.Conflict.{Conflict}
use Rattle.cs_apply_engine.specs.declared.fault.ApplyFault.{ApplyFault}
use Rattle.cs_apply_engine.specs.declared.fault.ApplyFault.TheVariants.{Read, Wider, Abort, Misuse, Store, NoMemory}
use Rattle.cs_apply_engine.specs.declared.report.Report.{Report}
use Rattle.cs_apply_engine.specs.declared.running.Direction.{Direction}
use Rattle.cs_apply_engine.specs.declared.running.Direction.TheVariants.{Forward, Inverse}
use Rattle.cs_apply_engine.specs.Running as running
use Rattle.cs_apply_engine.specs.Running.{Handler, AlwaysAborts, Applies, Refuses, Leads}
use Rattle.cs_apply.proofs.RevertLemmas.{applies_weaker, leads_clean, refuses_weaker, reverts_err, reverts_ok}
use Rattle.cs_session_notes.specs.declared.fault.SessionFault.{SessionFault}
use Rattle.cs_session_notes.specs.declared.fault.SessionFault.TheVariants.{NoMemory as OutOfMemory}
use Rattle.cs_session_notes.specs.declared.fault.SessionFault.TheVariants as session
use Rattle.cs_session_notes.specs.Faults.{apply_fault_of}
use Rattle.cs_session_notes.specs.FirstImages.{Notes, HasAttached, writes_of, rewound}
use Rattle.cs_session_notes.specs.Noting.{AreFormers, IsDamage}
use Rattle.cs_session_notes.specs.Changes.{HasTables, IsResource}
use Rattle.cs_session.specs.Recording.{RecordsApply, RefusesApply, IsApplyRefusal, IsOfChangeset}
use Rattle.cs_session_notes.proofs.NotesLemmas.{tells_formers}
use Rattle.cs_session_notes.proofs.FirstLemmas.{rewound_recorded}

module _ (chooses : Handler) (noop : Noop) (file : List ℕ) (direction : Direction) (state : State) (notes : Notes) where
  -- why it is refused
  pub refuses_applying : HasTables state notes → (e : ApplyFault) → Refuses chooses noop file direction state e → RefusesApply chooses noop file direction state notes (apply_fault_of e)
  refuses_applying has (Read fault) refuses = (has, refuses)
  refuses_applying has (Wider index) refuses = (has, refuses)
  refuses_applying has (Abort conflict) refuses = (has, refuses)
  refuses_applying has (Misuse conflict) refuses = (has, refuses)
  refuses_applying has (Store error) refuses = refuses
  refuses_applying has NoMemory refuses = tt

  pub refuses_noting : (written : List WrittenData) (e : SessionFault) → AreFormers notes written → (e ≡ OutOfMemory) ⊎ (IsDamage e × ¬ AreFormers notes written) → RefusesApply chooses noop file direction state notes e
  refuses_noting written e formers (inl is) = subst (RefusesApply chooses noop file direction state notes) (sym is) tt
  refuses_noting written e formers (inr fails) = absurd (fails.1 formers)

  module _ (report : Report) (new : State) (applies : Applies chooses noop file direction state report new) where
    -- the writes that a report has say which rows were there
    told : TellsFormer state new (map written_of report.written.items)
    told = subst (TellsFormer state new) (sym applies.written) (written_tells noop state applies.changeset applies.choose new applies.applied)

    each : (ts : Notes) → AllByRecursion (HasAttached state) ts → AllByRecursion (λ t. HasAttached state t ⊎ (writes_of t.name (map written_of report.written.items) ≡ [])) ts
    each [] has = tt
    each (table ∷ ts) has = (inl has.0, each ts has.1)

    pub applies_formers : IsState state → HasTables state notes → AreFormers notes (map written_of report.written.items)
    applies_formers is_state has =
        tells_formers state is_state new (map written_of report.written.items) told notes (each notes (recursion_from_All (HasAttached state) notes has))

-- an apply that is noted leaves the rows from before
pub applied_rewound : {E : Type 0} (r : Result Report E) (chooses : Handler) (noop : Noop) (file : List ℕ) (direction : Direction) (state : State) (notes : Notes) (new : State) (after : Notes)
    → IfOk r (λ report. RecordsApply chooses noop file direction state notes report new after) → OnOk r (rewound after new ≡ rewound notes state)
applied_rewound (Ok report) chooses noop file direction state notes new after records =
    ap (λ (ns : Notes). rewound ns new) records.noted
    ∙ rewound_recorded state new (map written_of report.written.items) (told chooses noop file direction state notes report new records.applied) notes
applied_rewound (Err e) chooses noop file direction state notes new after records = tt

-- an apply that is noted, and meets no conflict and ignores nothing, on a store that was open
pub recorded_leads : (old new : store.State) (r : Result Report SessionFault) → (HasCleanDisk new → HasCleanDisk old) → RefusesShut old IsResource r
    → (HasCleanDisk old → IsTrue old.is_open → IsState (tables_in old.now)) → HasCleanDisk new → (chooses : Handler) (noop : Noop) (file : List ℕ) (notes after : Notes) (last : State)
    → IfOk r (λ report. RecordsApply chooses noop file Forward (tables_in old.now) notes report last after)
    → IfOk r (λ report. report.conflicts.items ≡ [] → report.ignored ≡ 0 → Leads file (tables_in old.now) last)
recorded_leads old new (Err e) was shut law clean chooses noop file notes after last records = tt
recorded_leads old new (Ok report) was shut law clean chooses noop file notes after last records =
    leads_clean chooses noop file (tables_in old.now) last _ _ _ _ (law (was clean) (at old.is_open refl)) records.applied
  where
    at : (b : Bool) → old.is_open ≡ b → IsTrue b
    at true is = refl
    at false is = absurd (shut is)

-- ---- a handler that may choose less

module _ (P Q : Handler) (weaker : (k : Conflict) (c : Choice) → P k c → Q k c) where
  pub records_weaker : (noop : Noop) (file : List ℕ) (direction : Direction) (old new : State) (notes after : Notes) (report : Report) → RecordsApply P noop file direction old notes report new after
      → RecordsApply Q noop file direction old notes report new after
  records_weaker noop file direction old new notes after report done = record {
    attached = done.attached;
    applied = applies_weaker P Q weaker noop file direction old report new done.applied;
    noted = done.noted;
  }

  pub refuses_recorded_weaker : (noop : Noop) (file : List ℕ) (direction : Direction) (old : State) (notes : Notes) (e : SessionFault) → RefusesApply P noop file direction old notes e → RefusesApply Q noop file direction old notes e
  refuses_recorded_weaker noop file direction old notes session.WrongStore why = why
  refuses_recorded_weaker noop file direction old notes (session.Apply e) why = (why.0, refuses_weaker P Q weaker noop file direction old e why.1)
  refuses_recorded_weaker noop file direction old notes (session.Store e) why = why
  refuses_recorded_weaker noop file direction old notes session.NoMemory why = why
  refuses_recorded_weaker noop file direction old notes session.AlreadyAttached why = why

-- ---- a revert

-- a fault of the changeset is not of a resource
no_resource : (e : ApplyFault) → IsOfChangeset e → running.IsResource e → ⊥
no_resource (Store error) none is = none
no_resource NoMemory none is = none
no_resource (Read fault) of (inl is) = absurd (let apart : Read fault ≡ NoMemory = is in cc)
no_resource (Read fault) of (inr none) = none
no_resource (Wider index) of (inl is) = absurd (let apart : Wider index ≡ NoMemory = is in cc)
no_resource (Wider index) of (inr none) = none
no_resource (Abort conflict) of (inl is) = absurd (let apart : Abort conflict ≡ NoMemory = is in cc)
no_resource (Abort conflict) of (inr none) = none
no_resource (Misuse conflict) of (inl is) = absurd (let apart : Misuse conflict ≡ NoMemory = is in cc)
no_resource (Misuse conflict) of (inr none) = none

-- it restores what a file led from, unless the store does not have the tables, or a resource is refused
pub recorded_reverts : (r : Result Report SessionFault) (law : ChangesetFiles) (file : List ℕ) (before old new : State) (notes after : Notes) → Leads file before old
    → IfOk r (λ report. RecordsApply AlwaysAborts Reported file Inverse old notes report new after) → IfErr r (RefusesApply AlwaysAborts Reported file Inverse old notes) → IfErr r IsApplyRefusal
    → MatchResult r (λ report. (report.conflicts.items ≡ []) × (new ≡ before)) (λ e. (e ≡ session.WrongStore) ⊎ IsResource e)
recorded_reverts (Ok report) law file before old new notes after leads records refused named = reverts_ok AlwaysAborts law file before old new report leads records.applied
recorded_reverts (Err session.WrongStore) law file before old new notes after leads records refused named = inl refl
recorded_reverts (Err session.NoMemory) law file before old new notes after leads records refused named = inr (inl refl)
recorded_reverts (Err (session.Store e)) law file before old new notes after leads records refused named = inr (inr refused)
recorded_reverts (Err (session.Apply e)) law file before old new notes after leads records refused named = absurd (no_resource e named (reverts_err law file before old e leads refused.1))
recorded_reverts (Err session.AlreadyAttached) law file before old new notes after leads records refused named = absurd refused
