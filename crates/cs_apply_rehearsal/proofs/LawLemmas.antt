-- An apply with choices for the conflicts of a rehearsal.
use Rattle.std.proofs.Common.{◌≡◌, ◌≢◌, ◌⊎◌, inl, inr, ℕ, suc, ◌<◌, ◌≤◌, Bool, true, false, List, [], ◌∷◌, ◌++◌, ◌&&◌, if◌then◌else◌, length, get_or, map, All, AllPairs, Option, None, Some, refl, sym, ap, subst, ◌∙◌, arith}
use Rattle.std.specs.Prelude.{Contains}
use Rattle.std.specs.List.{AllByRecursion, flat_map}
use Rattle.std.proofs.lemmas.List.{get_or-map, length-map}
use Rattle.std.proofs.lemmas.List.Elements.{recursion_from_All, All-from_recursion}
use Rattle.cs_value.specs.State.{State}
use Rattle.cs_value.proofs.ListLemmas.{AllByRecursion-append, AllByRecursion-map, AllByRecursion-weaker, AllPairs-from_recursion, PairsByRecursion}
use Rattle.cs_wire.specs.Changeset.{GroupData}
use Rattle.cs_wire.specs.Laws.{ChangesetFiles}
use Rattle.cs_apply_conflict_kinds.specs.declared.conflict.Kind.{Kind}
use Rattle.cs_apply_conflict_kinds.specs.declared.conflict.Kind.TheVariants.{Constraint}
use Rattle.cs_apply_conflict_kinds.specs.declared.conflict.Choice.{Choice}
use Rattle.cs_apply_conflict_kinds.specs.declared.conflict.Choice.TheVariants.{Replace, Abort}
use Rattle.cs_apply_conflict_kinds.specs.declared.conflict.Noop.{Noop}
use Rattle.cs_apply_conflict_kinds.specs.Conflicts.{conflict_kind, is_overcome, kinds_from}
use Rattle.cs_apply_conflict_kinds.specs.Applying.{PlacedEntry, ConflictData, MetData, Choices, conflict_with, current, heeded, met_at, met_under, placed, refused_at}
use Rattle.cs_apply_engine.specs.declared.conflict.Met.{Met}
use Rattle.cs_apply_engine.specs.declared.report.Report.{Report}
use Rattle.cs_apply_engine.specs.declared.running.Direction.TheVariants.{Forward}
use Rattle.cs_apply_engine.specs.Report.{conflict_of, met_of}
use Rattle.cs_apply_engine.specs.Running.{Applies, EndsAt, GoesOn}
use Rattle.cs_apply_rehearsal.specs.Choosing.{ChosenData, IsChoiceFor, IsSame, chosen_for, coming, listed_with, met_by}
use Rattle.cs_apply_rehearsal.specs.Found.{FoundData, IsIndexed, IsOf}
use Rattle.cs_apply_rehearsal.specs.Laws.{RehearsalEnds, RehearsalTells, chooses_by}
use Rattle.cs_apply_rehearsal.specs.Rehearsal.{Rehearses}
use Rattle.cs_apply_rehearsal.specs.Rehearsing.{rehearsing, replace_or_omit}
use Rattle.cs_apply_rehearsal.proofs.AlongLemmas.{conflicts_in, of_entries-cons}
use Rattle.cs_apply_rehearsal.proofs.ApartLemmas.{Differ, heeded_others, placed_others, rehearsed, rehearsed_differ}
use Rattle.cs_apply_rehearsal.proofs.ChosenLemmas.{before_or_not}
use Rattle.cs_apply_rehearsal.proofs.ComingLemmas.{AreOthers, all_come, overcome_so}

-- ---- the list of the conflicts with their choices

pairs_unmap : {X Y : Type 0} (R : Y → Y → Type 0) (f : X → Y) (xs : List X) → PairsByRecursion R (map f xs) → PairsByRecursion (λ x y. R (f x) (f y)) xs
pairs_unmap R f [] each = tt
pairs_unmap R f (x ∷ xs) each = (unmap xs each.0, pairs_unmap R f xs each.1)
  where
    unmap : (ys : List _) → AllByRecursion (R (f x)) (map f ys) → AllByRecursion (λ y. R (f x) (f y)) ys
    unmap [] all = tt
    unmap (y ∷ ys) all = (all.0, unmap ys all.1)

all_chosen : (P : FoundData → Type 0) (found : List FoundData) (choices : List Choice) → AllByRecursion P found → AllByRecursion (λ (c : ChosenData). P c.found) (chosen_for found choices)
all_chosen P [] choices each = tt
all_chosen P (f ∷ found) [] each = tt
all_chosen P (f ∷ found) (c ∷ choices) each = (each.0, all_chosen P found choices each.1)

chosen_conflicts_are : (found : List FoundData) (choices : List Choice) → length choices ≡ length found → map (λ (c : ChosenData). c.found.conflict) (chosen_for found choices) ≡ map (λ (f : FoundData). f.conflict) found
chosen_conflicts_are [] choices long = refl
chosen_conflicts_are (f ∷ found) [] long = absurd (omega arith)
chosen_conflicts_are (f ∷ found) (c ∷ choices) long = ap (λ (l : List ConflictData). f.conflict ∷ l) (chosen_conflicts_are found choices (omega arith))

flip_same : (a b : ConflictData) → IsSame a b → IsSame b a
flip_same a b same = record { kind = sym same.kind; table = sym same.table; entry = sym same.entry }

-- a listed conflict has one choice
one_choice : (cs : List ChosenData) → PairsByRecursion (λ (b c : ChosenData). Differ b.found.conflict c.found.conflict) cs → (k : ℕ) (d : ChosenData) → k < length cs → (choice : Choice)
    → IsChoiceFor (map met_by cs) (get_or cs k d).found.conflict choice → choice ≡ (get_or cs k d).choice
one_choice cs apart k d lt choice (inl (i, m, within, is, one)) =
    at (before_or_not i k) (before_or_not k i)
  where
    inside : i < length cs
    inside = omega (arith, length-map cs met_by, within)

    here : m ≡ met_by (get_or cs i d)
    here = sym is ∙ get_or-map met_by cs i d m inside

    same : IsSame (get_or cs i d).found.conflict (get_or cs k d).found.conflict
    same = subst (λ (n : MetData). IsSame n.conflict (get_or cs k d).found.conflict) here one.0

    pairs : AllPairs (λ (b c : ChosenData). Differ b.found.conflict c.found.conflict) cs
    pairs = AllPairs-from_recursion _ cs apart

    at : (i < k) ⊎ (k ≤ i) → (k < i) ⊎ (i ≤ k) → choice ≡ (get_or cs k d).choice
    at (inl before) other = absurd (pairs i k d before lt same)
    at (inr le) (inl after) = absurd (pairs k i d after inside (flip_same _ _ same))
    at (inr le) (inr ge) =
        let equal : i ≡ k = omega arith in
        sym one.1 ∙ ap (λ (n : MetData). n.choice) here ∙ ap (λ (j : ℕ). (get_or cs j d).choice) equal
one_choice cs apart k d lt choice (inr (none, e)) =
    absurd (none k (met_by d) (omega (arith, length-map cs met_by)) (subst (λ (n : MetData). IsSame n.conflict (get_or cs k d).found.conflict) (sym (get_or-map met_by cs k d (met_by d) lt)) (record { kind = refl; table = refl; entry = refl })))

-- ---- indices

index_once : (ps : List PlacedEntry) → PairsByRecursion AreOthers ps → (i j : ℕ) (d : PlacedEntry) → i < length ps → j < length ps
    → ((get_or ps i d).table ≡ (get_or ps j d).table) × ((get_or ps i d).entry ≡ (get_or ps j d).entry) → i ≡ j
index_once ps apart i j d lt within same = at (before_or_not i j) (before_or_not j i)
  where
    pairs : AllPairs AreOthers ps
    pairs = AllPairs-from_recursion AreOthers ps apart

    at : (i < j) ⊎ (j ≤ i) → (j < i) ⊎ (i ≤ j) → i ≡ j
    at (inl before) other = absurd (pairs i j d before within same)
    at (inr le) (inl after) = absurd (pairs j i d after lt (sym same.0, sym same.1))
    at (inr le) (inr ge) = omega arith

-- ---- each conflict that any choices lead to is one of the rehearsal

abbrev Has : {X : Type 0} → List X → X → Type 0
Has [] x = ⊥
Has (y ∷ ys) x = (y ≡ x) ⊎ Has ys x

module _ where
  has_left : {X : Type 0} (xs ys : List X) (x : X) → Has xs x → Has (xs ++ ys) x
  has_left [] ys x has = absurd has
  has_left (y ∷ xs) ys x (inl is) = inl is
  has_left (y ∷ xs) ys x (inr has) = inr (has_left xs ys x has)

  has_right : {X : Type 0} (xs ys : List X) (x : X) → Has ys x → Has (xs ++ ys) x
  has_right [] ys x has = has
  has_right (y ∷ xs) ys x has = inr (has_right xs ys x has)

  has_at : (cs : List ChosenData) (x : ConflictData) → Has (map (λ (c : ChosenData). c.found.conflict) cs) x → (k : ℕ) × (k < length cs) × ((d : ChosenData) → (get_or cs k d).found.conflict ≡ x)
  has_at [] x has = absurd has
  has_at (c ∷ cs) x (inl is) = (0, omega arith, λ d. is)
  has_at (c ∷ cs) x (inr has) = let it = has_at cs x has in (suc it.0, omega (arith, it.1), it.2)

  module _ (state : State) (choose : Choices) where
    own_has : (p : PlacedEntry) (refused : Bool) (o : Option Kind)
        → AllByRecursion (λ (m : MetData). Has (conflicts_in (map (λ kind. record { conflict = conflict_with p (current state p) kind; choice = replace_or_omit kind }) (kinds_from refused replace_or_omit o))) m.conflict)
        (map (λ kind. record { conflict = conflict_with p (current state p) kind; choice = choose p kind }) (kinds_from refused (choose p) o))
    own_has p refused None = tt
    own_has p refused (Some kind) = (inl refl, at refused (is_overcome kind (choose p kind)) (is_overcome kind (replace_or_omit kind)) refl refl)
      where
        at : (refused now rehearsed : Bool) → is_overcome kind (choose p kind) ≡ now → is_overcome kind (replace_or_omit kind) ≡ rehearsed
            → AllByRecursion (λ (m : MetData). Has (conflict_with p (current state p) kind ∷ conflicts_in (map (λ k. record { conflict = conflict_with p (current state p) k; choice = replace_or_omit k }) (if refused && rehearsed then Constraint ∷ [] else []))) m.conflict)
            (map (λ k. record { conflict = conflict_with p (current state p) k; choice = choose p k }) (if refused && now then Constraint ∷ [] else []))
        at false now rehearsed now_is rehearsed_is = tt
        at true false rehearsed now_is rehearsed_is = tt
        at true true true now_is rehearsed_is = (inr (inl refl), tt)
        at true true false now_is rehearsed_is = absurd (let e = sym (overcome_so kind (choose p kind) now_is) ∙ rehearsed_is in cc)

    all_has : (ps : List PlacedEntry) → AllByRecursion (λ (m : MetData). Has (rehearsed state ps) m.conflict) (flat_map (met_at state choose) ps)
    all_has [] = tt
    all_has (p ∷ ps) =
        subst (λ (l : List ConflictData). AllByRecursion (λ (m : MetData). Has l m.conflict) (met_at state choose p ++ flat_map (met_at state choose) ps)) (sym (of_entries-cons state rehearsing p ps))
        (AllByRecursion-append _ (met_at state choose p) (flat_map (met_at state choose) ps)
        (AllByRecursion-weaker _ _ (λ m has. has_left (conflicts_in (met_at state rehearsing p)) (rehearsed state ps) m.conflict has) (met_at state choose p) (own_has p (refused_at state p) (conflict_kind (refused_at state p) p.entry.change (current state p))))
        (AllByRecursion-weaker _ _ (λ m has. has_right (conflicts_in (met_at state rehearsing p)) (rehearsed state ps) m.conflict has) (flat_map (met_at state choose) ps) (all_has ps)))

-- ---- the laws

module _ (law : ChangesetFiles) (noop : Noop) (file : List ℕ) (tables : State) (found : List FoundData) (choices : List Choice) (it : Rehearses noop file tables found) (long : length choices ≡ length found) where
  abbrev cs : List ChosenData
  cs = chosen_for found choices

  abbrev listed : List MetData
  listed = listed_with found choices

  abbrev considered : List PlacedEntry
  considered = heeded noop tables it.changeset

  abbrev Known : ChosenData → Type 0
  Known c = IsIndexed (placed it.changeset) c.found × ((choice : Choice) → IsChoiceFor listed c.found.conflict choice → choice ≡ c.choice)

  conflicts_are : map (λ (c : ChosenData). c.found.conflict) cs ≡ rehearsed tables considered
  conflicts_are = chosen_conflicts_are found choices long ∙ it.conflicts

  apart : PairsByRecursion (λ (b c : ChosenData). Differ b.found.conflict c.found.conflict) cs
  apart =
      pairs_unmap Differ (λ (c : ChosenData). c.found.conflict) cs
      (subst (PairsByRecursion Differ) (sym conflicts_are) (rehearsed_differ tables considered (heeded_others it.changeset it.read.0 noop tables)))

  known : AllByRecursion Known cs
  known = recursion_from_All Known cs (λ k d lt. (
    All-from_recursion (λ (c : ChosenData). IsIndexed (placed it.changeset) c.found) cs (all_chosen (IsIndexed (placed it.changeset)) found choices (recursion_from_All (IsIndexed (placed it.changeset)) found it.indexed)) k d lt,
    one_choice cs apart k d lt,
  ))

  one : (b c : ChosenData) (p : PlacedEntry) → Known b → Known c → IsOf b.found.conflict p → IsOf c.found.conflict p → b.found.index ≡ c.found.index
  one b c p b_is c_is of also =
      let first = b_is.0.is p in
      let second = c_is.0.is p in
      index_once (placed it.changeset) (placed_others it.changeset it.read.0) b.found.index c.found.index p b_is.0.within c_is.0.within
      (first.table ∙ sym of.table ∙ also.table ∙ sym second.table, first.entry ∙ sym of.entry ∙ also.entry ∙ sym second.entry)

  two : (b c : ChosenData) (p q : PlacedEntry) → Known b → Known c → IsOf b.found.conflict p → IsOf c.found.conflict q → AreOthers p q → b.found.index ≢ c.found.index
  two b c p q b_is c_is of also others same =
      let first = subst (λ (i : ℕ). IsOf b.found.conflict (get_or (placed it.changeset) i p)) same (b_is.0.is p) in
      let second = c_is.0.is p in
      others (of.table ∙ sym first.table ∙ second.table ∙ sym also.table, of.entry ∙ sym first.entry ∙ second.entry ∙ sym also.entry)

  so : (c : ChosenData) (m : MetData) → Known c → c.found.conflict ≡ m.conflict → IsChoiceFor listed m.conflict m.choice → m.choice ≡ c.choice
  so c m is same chosen = is.1 m.choice (subst (λ (d : ConflictData). IsChoiceFor listed d m.choice) (sym same) chosen)

  chosen_met : (met : List Met) → All (GoesOn (chooses_by listed)) met → AllByRecursion (λ (m : MetData). IsChoiceFor listed m.conflict m.choice) (map met_of met)
  chosen_met met each =
      AllByRecursion-map (λ (m : MetData). IsChoiceFor listed m.conflict m.choice) met_of met
      (AllByRecursion-weaker (GoesOn (chooses_by listed)) _ (λ m on. on.chosen) met (recursion_from_All (GoesOn (chooses_by listed)) met each))

  pub tells : (report : Report) (made : State) → Applies (chooses_by listed) noop file Forward tables report made → map met_of report.conflicts.items ≡ coming cs
  tells report made applies =
      let same : applies.changeset ≡ it.changeset = law applies.changeset it.changeset applies.read.0 it.read.0 (sym applies.read.1 ∙ it.read.1) in
      let met : map met_of report.conflicts.items ≡ flat_map (met_at tables applies.choose) considered =
      subst (λ (gs : List GroupData). map met_of report.conflicts.items ≡ met_under noop tables gs applies.choose) same applies.conflicts in
      met ∙ all_come tables applies.choose Known one two (λ (m : MetData). IsChoiceFor listed m.conflict m.choice) so considered (heeded_others it.changeset it.read.0 noop tables)
      (subst (AllByRecursion (λ (m : MetData). IsChoiceFor listed m.conflict m.choice)) met (chosen_met report.conflicts.items applies.chosen)) cs conflicts_are known None tt

  pub ends_listed : (last : Met) → EndsAt (chooses_by listed) noop file Forward tables last → Contains listed (met_of last)
  ends_listed last at_end =
      let same : at_end.changeset ≡ it.changeset = law at_end.changeset it.changeset at_end.read.0 it.read.0 (sym at_end.read.1 ∙ it.read.1) in
      let reached = at_end.reached in
      let met : flat_map (met_at tables reached.choose) considered ≡ map met_of reached.earlier ++ met_of last ∷ reached.later =
      subst (λ (gs : List GroupData). met_under noop tables gs reached.choose ≡ map met_of reached.earlier ++ met_of last ∷ reached.later) same reached.listed in
      let has : Has (rehearsed tables considered) (conflict_of last.conflict) =
      last_of (map met_of reached.earlier) (subst (AllByRecursion (λ (m : MetData). Has (rehearsed tables considered) m.conflict)) met (all_has tables reached.choose considered)) in
      listed_at (has_at cs (conflict_of last.conflict) (subst (λ (l : List ConflictData). Has l (conflict_of last.conflict)) (sym conflicts_are) has)) at_end.ended.chosen
    where
      last_of : (ms : List MetData) → AllByRecursion (λ (m : MetData). Has (rehearsed tables considered) m.conflict) (ms ++ met_of last ∷ at_end.reached.later) → Has (rehearsed tables considered) (conflict_of last.conflict)
      last_of [] each = each.0
      last_of (m ∷ ms) each = last_of ms each.1

      listed_at : (k : ℕ) × (k < length cs) × ((d : ChosenData) → (get_or cs k d).found.conflict ≡ conflict_of last.conflict) → IsChoiceFor listed (conflict_of last.conflict) last.choice → Contains listed (met_of last)
      listed_at (k, lt, is) chosen =
          let d : ChosenData = record { found = record { index = 0; conflict = conflict_of last.conflict }; choice = last.choice } in
          let choice = one_choice cs apart k d lt last.choice (subst (λ (x : ConflictData). IsChoiceFor listed x last.choice) (sym (is d)) chosen) in
          (k, omega (arith, length-map cs met_by), get_or-map met_by cs k d (met_of last) lt ∙ (λ i. record { conflict = is d i; choice = sym choice i }))

pub rehearsal_tells : ChangesetFiles → RehearsalTells
rehearsal_tells law noop file tables found choices report made it long applies = tells law noop file tables found choices it long report made applies

pub rehearsal_ends : ChangesetFiles → RehearsalEnds
rehearsal_ends law noop file tables found choices conflict it long = (
  λ refused. ends_listed law noop file tables found choices it long (record { conflict = conflict; choice = Abort }) refused,
  λ refused. ends_listed law noop file tables found choices it long (record { conflict = conflict; choice = Replace }) refused,
)
