-- The search for the index of an entry, and the list of conflicts with indices.
use Rattle.std.proofs.Common.{◌≡◌, ℕ, ◌+◌, ◌<◌, ◌≤◌, List, [], ◌∷◌, ◌++◌, length, get_or, drop, map, sym, ap, ap₂, subst, ◌∙◌, arith}
use Rattle.std.specs.List.{AllByRecursion}
use Rattle.std.proofs.lemmas.List.{get_or-map, length-map, map-append}
use Rattle.cs_value.proofs.ListLemmas.{AllByRecursion-push}
use Rattle.cs_apply_conflict_kinds.specs.Applying.{PlacedEntry, ConflictData}
use Rattle.cs_apply_engine.specs.declared.conflict.Conflict.{Conflict}
use Rattle.cs_apply_engine.specs.declared.conflict.Met.{Met}
use Rattle.cs_apply_engine.specs.Report.{conflict_of}
use Rattle.cs_apply_rehearsal.specs.declared.found.Found.{Found}
use Rattle.cs_apply_rehearsal.specs.declared.places.Place.{Place}
use Rattle.cs_apply_rehearsal.specs.Along.{AreAlong}
use Rattle.cs_apply_rehearsal.specs.Found.{IsIndexed, IsOf}
use Rattle.cs_apply_rehearsal.specs.Numbering.{AreNumbered, IsEntryAt}
use Rattle.cs_apply_rehearsal.specs.Places.{place_of}
use Rattle.cs_apply_rehearsal.specs.Rehearsal.{found_of}
use Rattle.cs_apply_rehearsal.proofs.AlongLemmas.{along_next, along_some, along_others}

module _ (places : List Place) (i : ℕ) (c : ConflictData) (cs : List ConflictData) where
  -- the entry is found
  pub entry_at : (x : Place) → i < length places → x ≡ get_or places i x → IsOf c (place_of x) → AreAlong (drop i (map place_of places)) (c ∷ cs) → IsEntryAt (map place_of places) c cs i
  entry_at x lt is of along = record {
    within = omega (arith, length-map places place_of);
    is = λ d. subst (IsOf c) (sym (get_or-map place_of places i x d lt ∙ ap place_of (sym is))) of;
    later = along_others (map place_of places) i c cs along;
  }

  -- it is another one
  pub entry_not : (x : Place) → i < length places → x ≡ get_or places i x → ¬ IsOf c (place_of x) → AreAlong (drop i (map place_of places)) (c ∷ cs) → AreAlong (drop (i + 1) (map place_of places)) (c ∷ cs)
  entry_not x lt is other along =
      along_next (map place_of places) i c cs (place_of x) (omega (arith, length-map places place_of)) (sym (get_or-map place_of places i x (place_of x) lt ∙ ap place_of (sym is))) other along

  -- there is none left
  pub entry_none : length places ≤ i → i ≤ length places → AreAlong (drop i (map place_of places)) (c ∷ cs) → {X : Type 0} → X
  entry_none past within along = absurd (along_some (map place_of places) i c cs (omega (arith, length-map places place_of)) along)

-- one more conflict has its index
pub numbered_more : (entries : List PlacedEntry) (done : List Met) (found grown : List Found) (met : Met) (f : Found) (others : List ConflictData) → grown ≡ found ++ f ∷ [] → f.conflict ≡ met.conflict
    → IsEntryAt entries (conflict_of met.conflict) others f.index → AreNumbered entries done found → AreNumbered entries (done ++ met ∷ []) grown
numbered_more entries done found grown met f others grown_is same at it = record {
  same =
      ap (map (λ (g : Found). conflict_of g.conflict)) grown_is
      ∙ map-append (λ (g : Found). conflict_of g.conflict) found (f ∷ [])
      ∙ ap₂ (λ (l : List ConflictData) (k : Conflict). l ++ conflict_of k ∷ []) it.same same
      ∙ sym (map-append (λ (m : Met). conflict_of m.conflict) done (met ∷ []));
  each = subst (AllByRecursion (IsIndexed entries)) (sym (ap (map found_of) grown_is ∙ map-append found_of found (f ∷ [])))
      (AllByRecursion-push (IsIndexed entries) (map found_of found) (found_of f) it.each
      (record { within = at.within; is = subst (λ (k : Conflict). (d : PlacedEntry) → IsOf (conflict_of k) (get_or entries f.index d)) (sym same) at.is }));
}
