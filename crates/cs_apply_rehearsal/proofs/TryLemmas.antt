-- What an apply with the choices of a rehearsal says of the rehearsal.
use Rattle.std.proofs.Common.{◌≡◌, inl, inr, ℕ, true, List, [], ◌∷◌, map, Result, Ok, Err, IfErr, refl, sym, ap, subst, ◌∙◌}
use Rattle.std.specs.Prelude.{IfOk}
use Rattle.std.specs.List.{AllByRecursion}
use Rattle.std.proofs.lemmas.List.Elements.{recursion_from_All, All-from_recursion}
use Rattle.cs_value.specs.State.{State}
use Rattle.cs_value.specs.declared.refusal.OrNoMemory.{OrNoMemory}
use Rattle.cs_value.specs.declared.refusal.OrNoMemory.TheVariants as read_error
use Rattle.cs_value.specs.Refusals as reading
use Rattle.cs_value.proofs.ListLemmas.{AllByRecursion-map, AllByRecursion-weaker}
use Rattle.cs_wire_entries.specs.declared.fault.ReadFault.{ReadFault}
use Rattle.cs_wire.specs.Changeset.{GroupData, IsChangeset, file_bytes}
use Rattle.cs_wire.specs.Laws.{ChangesetFiles}
use Rattle.cs_wire.specs.ReadFaults.{ReadFails}
use Rattle.cs_rows.specs.declared.fault.Cause.{Cause}
use Rattle.cs_rows.specs.declared.fault.StoreError.{StoreError}
use Rattle.cs_rows.specs.Faults as stores
use Rattle.cs_apply_conflict_kinds.specs.declared.conflict.Kind.{Kind}
use Rattle.cs_apply_conflict_kinds.specs.declared.conflict.Kind.TheVariants.{Data, NotFound, Conflict as ConflictKind, Constraint}
use Rattle.cs_apply_conflict_kinds.specs.declared.conflict.Choice.{Choice}
use Rattle.cs_apply_conflict_kinds.specs.declared.conflict.Choice.TheVariants as choice
use Rattle.cs_apply_conflict_kinds.specs.declared.conflict.Noop.{Noop}
use Rattle.cs_apply_conflict_kinds.specs.Conflicts.{ends}
use Rattle.cs_apply_conflict_kinds.specs.Applying.{ConflictData, PlacedEntry, heeded, placed}
use Rattle.cs_apply_engine.specs.declared.conflict.Conflict.{Conflict}
use Rattle.cs_apply_engine.specs.declared.conflict.Met.{Met}
use Rattle.cs_apply_engine.specs.declared.report.Report.{Report}
use Rattle.cs_apply_engine.specs.declared.fault.ApplyFault.{ApplyFault}
use Rattle.cs_apply_engine.specs.declared.fault.ApplyFault.TheVariants as fault
use Rattle.cs_apply_engine.specs.declared.running.Direction.TheVariants.{Forward}
use Rattle.cs_apply_engine.specs.Faults.{fault_of, read_fault_of}
use Rattle.cs_apply_engine.specs.Report.{conflict_of, met_of}
use Rattle.cs_apply_engine.specs.Running.{Applies, GoesOn, Handler, Refuses, IsCaused, IsNamed}
use Rattle.cs_apply_rehearsal.specs.declared.found.Found.{Found}
use Rattle.cs_apply_rehearsal.specs.Along.{AreAlong}
use Rattle.cs_apply_rehearsal.specs.Found.{FoundData, IsIndexed}
use Rattle.cs_apply_rehearsal.specs.Numbering.{AreNumbered, conflicts_of}
use Rattle.cs_apply_rehearsal.specs.Rehearsal.{Rehearses, RefusesRehearsal, found_of}
use Rattle.cs_apply_rehearsal.specs.Rehearsing.{rehearsing, replace_or_omit}
use Rattle.cs_apply_rehearsal.specs.Trying.{Tries}
use Rattle.cs_apply_rehearsal.proofs.AlongLemmas.{conflicts_in, met_along}
use Rattle.cs_apply_rehearsal.proofs.RehearsingLemmas.{IsRehearsed, met_same}

conflicts_of_met : (ms : List Met) → conflicts_of ms ≡ conflicts_in (map met_of ms)
conflicts_of_met [] = refl
conflicts_of_met (m ∷ ms) = ap (λ (l : List ConflictData). conflict_of m.conflict ∷ l) (conflicts_of_met ms)

conflicts_of_found : (fs : List Found) → map (λ (f : FoundData). f.conflict) (map found_of fs) ≡ map (λ (f : Found). conflict_of f.conflict) fs
conflicts_of_found [] = refl
conflicts_of_found (f ∷ fs) = ap (λ (l : List ConflictData). conflict_of f.conflict ∷ l) (conflicts_of_found fs)

-- ---- a handler with the choices of a rehearsal

module _ (chooses : Handler) (so : (k : Conflict) (c : Choice) → chooses k c → c ≡ replace_or_omit k.kind) (noop : Noop) (file : List ℕ) (tables : State) where
  tries : (report : Report) (made : State) → Applies chooses noop file Forward tables report made → Tries noop file tables report.conflicts.items
  tries report made applies =
      let met = report.conflicts.items in
      let each : AllByRecursion IsRehearsed (map met_of met) =
      AllByRecursion-map IsRehearsed met_of met (AllByRecursion-weaker (GoesOn chooses) (λ (m : Met). IsRehearsed (met_of m)) (λ m on. so m.conflict m.choice on.chosen) met (recursion_from_All (GoesOn chooses) met applies.chosen)) in
      record {
        changeset = applies.changeset;
        read = applies.read;
        none_wider = applies.none_wider;
        same = conflicts_of_met met
            ∙ ap conflicts_in (applies.conflicts ∙ met_same tables applies.choose (heeded noop tables applies.changeset) (subst (AllByRecursion IsRehearsed) applies.conflicts each));
      }

  pub tried : (r : Result Report ApplyFault) (made : State) → IfOk r (λ report. Applies chooses noop file Forward tables report made) → IfOk r (λ report. Tries noop file tables report.conflicts.items)
  tried (Ok report) made applies = tries report made applies
  tried (Err e) made applies = tt

  -- no choice ends it
  never_aborts : (kind : Kind) → choice.Abort ≡ replace_or_omit kind → ⊥
  never_aborts Data e = cc
  never_aborts NotFound e = cc
  never_aborts ConflictKind e = cc
  never_aborts Constraint e = cc

  never_misused : (kind : Kind) → choice.Replace ≡ replace_or_omit kind → ends kind choice.Replace ≡ true → ⊥
  never_misused Data e ended = cc
  never_misused NotFound e ended = cc
  never_misused ConflictKind e ended = cc
  never_misused Constraint e ended = cc

  refuses_try : (e : ApplyFault) → Refuses chooses noop file Forward tables e → RefusesRehearsal file tables e
  refuses_try (fault.Read f) refused = refused
  refuses_try (fault.Wider place) refused = refused
  refuses_try (fault.Abort k) refused = never_aborts k.kind (so k choice.Abort refused.ended.chosen)
  refuses_try (fault.Misuse k) refused = never_misused k.kind (so k choice.Replace refused.ended.chosen) refused.ended.ends
  refuses_try (fault.Store error) refused = refused
  refuses_try fault.NoMemory refused = refused

  pub refused_try : (r : Result Report ApplyFault) → IfErr r (Refuses chooses noop file Forward tables) → IfErr r (RefusesRehearsal file tables)
  refused_try (Ok report) refused = tt
  refused_try (Err e) refused = refuses_try e refused

-- ---- the conflicts with their indices

module _ (law : ChangesetFiles) (noop : Noop) (file : List ℕ) (tables : State) (met : List Met) (it : Tries noop file tables met) (changeset : List GroupData) (is : IsChangeset changeset) (read : file ≡ file_bytes changeset) where
  same_changeset : it.changeset ≡ changeset
  same_changeset = law it.changeset changeset it.read.0 is (sym it.read.1 ∙ read)

  pub tried_along : (entries : List PlacedEntry) → entries ≡ placed changeset → AreAlong entries (conflicts_of met)
  tried_along entries are =
      subst (λ (ps : List PlacedEntry). AreAlong ps (conflicts_of met)) (sym are)
      (subst (λ (gs : List GroupData). AreAlong (placed gs) (conflicts_of met)) same_changeset
      (subst (AreAlong (placed it.changeset)) (sym it.same) (met_along tables rehearsing noop it.changeset)))

  pub rehearses : (entries : List PlacedEntry) (found : List Found) → entries ≡ placed changeset → AreNumbered entries met found → Rehearses noop file tables (map found_of found)
  rehearses entries found are numbered = record {
    changeset = it.changeset;
    read = it.read;
    none_wider = it.none_wider;
    conflicts = conflicts_of_found found ∙ numbered.same ∙ it.same;
    indexed = All-from_recursion (IsIndexed (placed it.changeset)) (map found_of found)
        (subst (λ (ps : List PlacedEntry). AllByRecursion (IsIndexed ps) (map found_of found)) (are ∙ ap placed (sym same_changeset)) numbered.each);
  }

-- ---- faults

pub read_refuses : (file : List ℕ) (tables : State) (e : OrNoMemory ReadFault) → reading.Refuses (λ (f : ReadFault). ReadFails file f.kind f.place) e → RefusesRehearsal file tables (read_fault_of e)
read_refuses file tables (read_error.Fault f) refused = refused
read_refuses file tables read_error.NoMemory refused = tt

pub read_named : (e : OrNoMemory ReadFault) → IsNamed (read_fault_of e)
read_named (read_error.Fault f) = tt
read_named read_error.NoMemory = tt

pub read_caused : (Fails : Cause → Type 0) (e : OrNoMemory ReadFault) → IsCaused Fails (read_fault_of e)
read_caused Fails (read_error.Fault f) = tt
read_caused Fails read_error.NoMemory = tt

pub store_refuses : (file : List ℕ) (tables : State) (e : StoreError) → stores.IsResource e → RefusesRehearsal file tables (fault_of e)
store_refuses file tables e (inl memory) = subst (λ (f : StoreError). RefusesRehearsal file tables (fault_of f)) (sym memory) tt
store_refuses file tables e (inr (stores.refused_for cause)) = stores.refused_for cause
