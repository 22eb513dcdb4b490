-- What a revert restores.
use Rattle.std.proofs.Common.{◌≡◌, inl, inr, ℕ, Bool, true, false, List, [], ◌∷◌, ◌++◌, length, map, All, Option, Some, None, refl, sym, ap, subst, ◌∙◌}
use Rattle.std.specs.Prelude.{Ok, IsTrue}
use Rattle.std.specs.List.{AllByRecursion, flat_map}
use Rattle.std.proofs.lemmas.List.{nil_from_length, length-map}
use Rattle.std.proofs.lemmas.List.Elements.{recursion_from_All, All-from_recursion}
use Rattle.sqlite.specs.State as store
use Rattle.sqlite.specs.State.{HasCleanDisk}
use Rattle.cs_value.specs.State.{State, WrittenData, IsState}
use Rattle.cs_store.specs.Store.{RefusesShut, tables_in}
use Rattle.cs_wire.specs.Changeset.{GroupData}
use Rattle.cs_wire.specs.Laws.{ChangesetFiles}
use Rattle.cs_apply_conflict_kinds.specs.declared.conflict.Kind.{Kind}
use Rattle.cs_apply_conflict_kinds.specs.declared.conflict.Choice.{Choice}
use Rattle.cs_apply_conflict_kinds.specs.declared.conflict.Choice.TheVariants as choice
use Rattle.cs_apply_conflict_kinds.specs.declared.conflict.Noop.{Noop}
use Rattle.cs_apply_conflict_kinds.specs.declared.conflict.Noop.TheVariants.{Report as Reported}
use Rattle.cs_group.specs.Inverse.{IsInverse}
use Rattle.cs_apply_conflict_kinds.specs.Applying.{PlacedEntry, Choices, applicable, placed_kind, heeded, met_at, met_under, IsClean, IsApplied, AreApplied, omit_all}
use Rattle.cs_apply_conflict_kinds.proofs.ApplyLemmas.{none_met, applied_once, applied_reverts}
use Rattle.cs_apply_engine.proofs.HeededLemmas.{heeded_all}
use Rattle.cs_apply_engine.specs.declared.conflict.Conflict.{Conflict}
use Rattle.cs_apply_engine.specs.declared.conflict.Met.{Met}
use Rattle.cs_apply_engine.specs.declared.report.Report.{Report}
use Rattle.cs_apply_engine.specs.declared.report.Summary.{Summary}
use Rattle.cs_apply_engine.specs.declared.running.Direction.{Direction}
use Rattle.cs_apply_engine.specs.declared.running.Direction.TheVariants.{Forward, Inverse}
use Rattle.cs_apply_engine.specs.declared.fault.ApplyFault.{ApplyFault}
use Rattle.cs_apply_engine.specs.declared.fault.ApplyFault.TheVariants as fault
use Rattle.cs_apply_engine.specs.Report.{conflict_of, met_of}
use Rattle.cs_apply_engine.specs.Running.{Handler, IsReadAs, GoesOn, Applies, AppliesCounted, AppliesWith, EndsAt, Refuses, AlwaysAborts, Leads, IsResource}

-- ---- lists

none_last : {X : Type 0} (xs ys : List X) (x : X) → xs ++ x ∷ ys ≡ [] → ⊥
none_last [] ys x e = cc
none_last (y ∷ xs) ys x e = cc

-- where none is reported none of the entries meets one
none_met_none : (s : State) (choose : Choices) (ps : List PlacedEntry) → flat_map (met_at s choose) ps ≡ [] → AllByRecursion (λ p. placed_kind s p ≡ None) ps
none_met_none s choose [] e = tt
none_met_none s choose (p ∷ ps) e = at (placed_kind s p) refl (none_met_none s choose ps)
  where
    at : (o : Option Kind) → placed_kind s p ≡ o → (flat_map (met_at s choose) ps ≡ [] → AllByRecursion (λ p. placed_kind s p ≡ None) ps) → AllByRecursion (λ p. placed_kind s p ≡ None) (p ∷ ps)
    at None is others = (is, others (rw is at e))
    at (Some k) is others = absurd (let some = rw is at e in cc)

-- ---- an apply that meets no conflict and ignores nothing

pub leads_clean : (chooses : Handler) (noop : Noop) (file : List ℕ) (old new : State) (met : List Met) (skips : List (List ℕ)) (writes : List WrittenData) (passed : ℕ) → IsState old
    → AppliesWith chooses noop file Forward old met skips writes passed new → met ≡ [] → passed ≡ 0 → Leads file old new
leads_clean chooses noop file old new met skips writes passed is applies no_conflict none_ignored =
    let ps = applicable old applies.changeset in
    let all : heeded noop old applies.changeset ≡ ps = heeded_all noop old ps (sym applies.ignored ∙ none_ignored) in
    let none : flat_map (met_at old applies.choose) (heeded noop old applies.changeset) ≡ [] = sym applies.conflicts ∙ ap (map met_of) no_conflict in
    record {
      changeset = applies.changeset;
      is_changeset = applies.read.0;
      is_file = applies.read.1;
      is_state = is;
      clean = record { none_wider = applies.none_wider; no_conflict = All-from_recursion (λ p. placed_kind old p ≡ None) ps (none_met_none old applies.choose ps (rw all at none)) };
      choose = applies.choose;
      applied = subst (λ (qs : List PlacedEntry). AreApplied old qs applies.choose new) all applies.applied;
    }

-- a store on which a call was done was open, so that its tables are well formed
pub done_state : {A : Type 0} (old new : store.State) (x : A) → (HasCleanDisk new → HasCleanDisk old) → RefusesShut old IsResource (Ok x)
    → (HasCleanDisk old → IsTrue old.is_open → IsState (tables_in old.now)) → HasCleanDisk new → IsState (tables_in old.now)
done_state old new x was shut law clean = law (was clean) (at old.is_open refl)
  where
    at : (b : Bool) → old.is_open ≡ b → IsTrue b
    at true is = refl
    at false is = absurd (shut is)

-- ---- the inverse, on what was left

clean_meets_none : (s : State) (changeset : List GroupData) (choose : Choices) → IsClean s changeset → met_under Reported s changeset choose ≡ []
clean_meets_none s changeset choose clean = none_met s choose (applicable s changeset) (recursion_from_All (λ p. placed_kind s p ≡ None) (applicable s changeset) clean.no_conflict)

module _ (law : ChangesetFiles) (file : List ℕ) (before old : State) (leads : Leads file before old) (inverse : List GroupData) (read : IsReadAs file Inverse inverse) where
  undoes : IsInverse leads.changeset inverse
  undoes =
      let one : read.0 ≡ leads.changeset = law read.0 leads.changeset read.1 leads.is_changeset (sym read.2 ∙ leads.is_file) in
      subst (λ (c : List GroupData). IsInverse c inverse) one read.3

  back : (again : Choices) → IsClean old inverse × IsApplied old inverse again before
  back again = applied_reverts before leads.changeset inverse leads.choose again old leads.is_state leads.is_changeset undoes leads.clean leads.applied

pub reverts_ok : (chooses : Handler) (law : ChangesetFiles) (file : List ℕ) (before old new : State) (report : Report) → Leads file before old → Applies chooses Reported file Inverse old report new
    → (report.conflicts.items ≡ []) × (new ≡ before)
reverts_ok chooses law file before old new report leads applies =
    let given = back law file before old leads applies.changeset applies.read applies.choose in
    let none = clean_meets_none old applies.changeset applies.choose given.0 in
    (nil_from_length report.conflicts.items (sym (length-map report.conflicts.items met_of) ∙ ap length (applies.conflicts ∙ none)), applied_once Reported old applies.changeset applies.choose new before applies.applied given.1)

no_group : GroupData
no_group = record { header = record { name = []; flags = [] }; entries = [] }

-- a handler that chooses less
goes_weaker : (P Q : Handler) → ((k : Conflict) (c : Choice) → P k c → Q k c) → (ms : List Met) → All (GoesOn P) ms → All (GoesOn Q) ms
goes_weaker P Q f ms all = λ k d lt. record { chosen = f _ _ (all k d lt).chosen; goes_on = (all k d lt).goes_on }

ends_weaker : (P Q : Handler) → ((k : Conflict) (c : Choice) → P k c → Q k c) → (noop : Noop) (file : List ℕ) (direction : Direction) (old : State) (last : Met)
    → EndsAt P noop file direction old last → EndsAt Q noop file direction old last
ends_weaker P Q f noop file direction old last ended = record {
  changeset = ended.changeset;
  read = ended.read;
  none_wider = ended.none_wider;
  reached = record { choose = ended.reached.choose; earlier = ended.reached.earlier; later = ended.reached.later; chosen = goes_weaker P Q f ended.reached.earlier ended.reached.chosen; listed = ended.reached.listed };
  ended = record { chosen = f last.conflict last.choice ended.ended.chosen; ends = ended.ended.ends };
}

pub refuses_weaker : (P Q : Handler) → ((k : Conflict) (c : Choice) → P k c → Q k c) → (noop : Noop) (file : List ℕ) (direction : Direction) (old : State) (e : ApplyFault)
    → Refuses P noop file direction old e → Refuses Q noop file direction old e
refuses_weaker P Q f noop file direction old (fault.Read x) h = h
refuses_weaker P Q f noop file direction old (fault.Wider place) h = h
refuses_weaker P Q f noop file direction old (fault.Abort k) h = ends_weaker P Q f noop file direction old (record { conflict = k; choice = choice.Abort }) h
refuses_weaker P Q f noop file direction old (fault.Misuse k) h = ends_weaker P Q f noop file direction old (record { conflict = k; choice = choice.Replace }) h
refuses_weaker P Q f noop file direction old (fault.Store x) h = h
refuses_weaker P Q f noop file direction old fault.NoMemory h = h

pub with_weaker : (P Q : Handler) → ((k : Conflict) (c : Choice) → P k c → Q k c) → (noop : Noop) (file : List ℕ) (direction : Direction) (old : State) (met : List Met) (skips : List (List ℕ)) (writes : List WrittenData) (passed : ℕ) (new : State)
    → AppliesWith P noop file direction old met skips writes passed new → AppliesWith Q noop file direction old met skips writes passed new
with_weaker P Q f noop file direction old met skips writes passed new applies = record {
  changeset = applies.changeset;
  read = applies.read;
  none_wider = applies.none_wider;
  choose = applies.choose;
  applied = applies.applied;
  conflicts = applies.conflicts;
  chosen = goes_weaker P Q f met applies.chosen;
  skipped = applies.skipped;
  written = applies.written;
  ignored = applies.ignored;
}

pub applies_weaker : (P Q : Handler) → ((k : Conflict) (c : Choice) → P k c → Q k c) → (noop : Noop) (file : List ℕ) (direction : Direction) (old : State) (report : Report) (new : State)
    → Applies P noop file direction old report new → Applies Q noop file direction old report new
applies_weaker P Q f noop file direction old report new = with_weaker P Q f noop file direction old _ _ _ _ new

pub counts_weaker : (P Q : Handler) → ((k : Conflict) (c : Choice) → P k c → Q k c) → (noop : Noop) (file : List ℕ) (direction : Direction) (old : State) (summary : Summary) (new : State)
    → AppliesCounted P noop file direction old summary new → AppliesCounted Q noop file direction old summary new
counts_weaker P Q f noop file direction old summary new counts = record { writes = counts.writes; counted = counts.counted; applies = with_weaker P Q f noop file direction old _ _ _ _ new counts.applies }

pub reverts_err : (law : ChangesetFiles) (file : List ℕ) (before old : State) (e : ApplyFault) → Leads file before old → Refuses AlwaysAborts Reported file Inverse old e → IsResource e
reverts_err law file before old (fault.Read f) leads refuses = absurd (refuses.refused (leads.changeset, leads.is_changeset, leads.is_file))
reverts_err law file before old (fault.Wider place) leads refuses =
    let given = back law file before old leads refuses.changeset refuses.read omit_all in
    absurd (given.0.none_wider place no_group refuses.first.within (refuses.first.wider no_group))
reverts_err law file before old (fault.Abort k) leads refuses =
    let given = back law file before old leads refuses.changeset refuses.read omit_all in
    absurd (none_last _ refuses.reached.later (record { conflict = conflict_of k; choice = choice.Abort }) (sym refuses.reached.listed ∙ clean_meets_none old refuses.changeset refuses.reached.choose given.0))
reverts_err law file before old (fault.Misuse k) leads refuses = absurd (let e = refuses.ended.chosen in cc)
reverts_err law file before old (fault.Store e) leads refuses = inr refuses
reverts_err law file before old fault.NoMemory leads refuses = inl refl
