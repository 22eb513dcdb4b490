-- The choice that a search in order finds.
use Rattle.std.proofs.Common.{◌≡◌, ◌⊎◌, inl, inr, ℕ, ◌<◌, ◌≤◌, zero, suc, List, [], ◌∷◌, ◌++◌, length, get_or, map, All, refl, sym, ap, ap₂, subst, ◌∙◌, arith}
use Rattle.std.specs.Prelude.{HoldsAt, IsPermutation}
use Rattle.std.specs.List.Sorted.{IsNonDecreasingBy, IsPartitionPoint}
use Rattle.std.specs.Ordering.{ordering_index}
use Rattle.std.specs.declared.cmp.Ordering.TheVariants.{Less, Equal, Greater}
use Rattle.std.proofs.lemmas.List.{get_or-map, length-map, map-append}
use Rattle.std.proofs.lemmas.List.Elements.{recursion_from_All, All-from_recursion}
use Rattle.std.proofs.lemmas.List.Sorted.{All-permutation, Contains-permutation, IsPermutation-sym, searchable_from_sorted}
use Rattle.cs_value.proofs.ListLemmas.{AllByRecursion-map}
use Rattle.cs_apply_conflict_kinds.specs.declared.conflict.Choice.{Choice}
use Rattle.cs_apply_conflict_kinds.specs.declared.conflict.Choice.TheVariants.{Abort}
use Rattle.cs_apply_conflict_kinds.specs.Applying.{ConflictData, MetData}
use Rattle.cs_apply_engine.specs.declared.conflict.Met.{Met}
use Rattle.cs_apply_engine.specs.Report.{conflict_of, met_of}
use Rattle.cs_apply_rehearsal.specs.declared.found.Found.{Found}
use Rattle.cs_apply_rehearsal.specs.Found.{FoundData}
use Rattle.cs_apply_rehearsal.specs.Rehearsal.{found_of}
use Rattle.cs_apply_rehearsal.specs.Choosing.{IsChoiceFor, IsSame, listed_with}
use Rattle.cs_apply_rehearsal.specs.Order.{IsInOrder, conflict_cmp}
use Rattle.cs_apply_rehearsal.proofs.SameLemmas.{conflict_total, equal_conflicts, same_conflicts}

-- before an index, or not
pub before_or_not : (k i : ℕ) → (k < i) ⊎ (i ≤ k)
before_or_not k zero = inr (omega arith)
before_or_not zero (suc i) = inl (omega arith)
before_or_not (suc k) (suc i) = elim (before_or_not k i) [ inl lt ↦ inl (omega arith) | inr le ↦ inr (omega arith) ]

module _ (ms : List Met) (i : ℕ) (c : ConflictData) where
  -- the conflict is listed
  pub chosen_at : (m : Met) → i < length ms → m ≡ get_or ms i m → HoldsAt (λ y. conflict_cmp (conflict_of y.conflict) c ≡ Equal) ms i → IsChoiceFor (map met_of ms) c m.choice
  chosen_at m lt is equal =
      inl (
        i,
        met_of m,
        omega (arith, length-map ms met_of),
        get_or-map met_of ms i m (met_of m) lt ∙ ap met_of (sym is),
        (same_conflicts (conflict_of m.conflict) c (subst (λ (y : Met). conflict_cmp (conflict_of y.conflict) c ≡ Equal) (sym is) (equal m)), refl),
      )

  -- it is not
  pub chosen_none : IsInOrder ms
      → (IsNonDecreasingBy (λ (y : Met). ordering_index (conflict_cmp (conflict_of y.conflict) c)) ms → IsPartitionPoint (λ (y : Met). conflict_cmp (conflict_of y.conflict) c ≡ Less) (λ (y : Met). conflict_cmp (conflict_of y.conflict) c ≡ Greater) ms i)
      → IsChoiceFor (map met_of ms) c Abort
  chosen_none sorted found =
      inr (
        All-from_recursion (λ (m : MetData). ¬ IsSame m.conflict c) (map met_of ms)
            (AllByRecursion-map (λ (m : MetData). ¬ IsSame m.conflict c) met_of ms (recursion_from_All (λ (m : Met). ¬ IsSame (conflict_of m.conflict) c) ms other)),
        refl,
      )
    where
      parts : IsPartitionPoint (λ (y : Met). conflict_cmp (conflict_of y.conflict) c ≡ Less) (λ (y : Met). conflict_cmp (conflict_of y.conflict) c ≡ Greater) ms i
      parts = found (searchable_from_sorted conflict_total (λ (m : Met). conflict_of m.conflict) ms c sorted)

      other : All (λ (m : Met). ¬ IsSame (conflict_of m.conflict) c) ms
      other k d lt same = elim (before_or_not k i) [
        | inl before ↦ let is = sym (parts.0 k d (omega arith) before) ∙ equal_conflicts (conflict_of (get_or ms k d).conflict) c same in cc
        | inr past ↦ let is = sym (parts.1 k d past lt) ∙ equal_conflicts (conflict_of (get_or ms k d).conflict) c same in cc
      ]

-- the order of the list does not matter
pub permuted : (xs ys : List MetData) (c : ConflictData) (choice : Choice) → IsPermutation xs ys → IsChoiceFor ys c choice → IsChoiceFor xs c choice
permuted xs ys c choice moved (inl one) =
    let back = Contains-permutation ys xs one.1 (IsPermutation-sym xs ys moved) (one.0, one.2, at one.0 one.1 one.3) in
    inl (back.0, one.1, back.1, back.2, one.4)
  where
    at : (k : ℕ) (m : MetData) → get_or ys k m ≡ m → get_or ys k m ≡ m
    at k m e = e
permuted xs ys c choice moved (inr none) = inr (All-permutation (λ (m : MetData). ¬ IsSame m.conflict c) ys xs (IsPermutation-sym xs ys moved) none.0, none.1)

-- one more conflict with its choice
listed_next : (fs : List FoundData) (f : FoundData) (cs : List Choice) (d : Choice) → length fs < length cs
    → listed_with (fs ++ f ∷ []) cs ≡ listed_with fs cs ++ record { conflict = f.conflict; choice = get_or cs (length fs) d } ∷ []
listed_next [] f [] d lt = absurd (omega arith)
listed_next [] f (c ∷ cs) d lt = refl
listed_next (g ∷ fs) f [] d lt = absurd (omega arith)
listed_next (g ∷ fs) f (c ∷ cs) d lt = ap (λ (l : List MetData). record { conflict = g.conflict; choice = c } ∷ l) (listed_next fs f cs d (omega arith))

pub listed_more : (done : List Found) (item : Found) (cs : List Choice) (i : ℕ) (list grown : List Met) (d : Choice) → i ≡ length done → i < length cs → map met_of list ≡ listed_with (map found_of done) cs
    → grown ≡ list ++ record { conflict = item.conflict; choice = get_or cs i d } ∷ [] → map met_of grown ≡ listed_with (map found_of (done ++ item ∷ [])) cs
listed_more done item cs i list grown d counted lt listed grown_is =
    ap (map met_of) grown_is
    ∙ map-append met_of list (record { conflict = item.conflict; choice = get_or cs i d } ∷ [])
    ∙ ap₂ (λ (l : List MetData) (j : ℕ). l ++ record { conflict = conflict_of item.conflict; choice = get_or cs j d } ∷ []) listed (counted ∙ sym (length-map done found_of))
    ∙ sym (listed_next (map found_of done) (found_of item) cs d (omega (arith, length-map done found_of)))
    ∙ ap (λ (fs : List FoundData). listed_with fs cs) (sym (map-append found_of done (item ∷ [])))
