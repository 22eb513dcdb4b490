-- The conflicts of a changeset are in the order of its entries.
use Rattle.std.proofs.Common.{◌≡◌, inl, inr, ℕ, ◌+◌, ◌<◌, Bool, true, false, cond, not, List, [], ◌∷◌, ◌++◌, length, get_or, drop, map, filter, refl, sym, ap, subst, ◌∙◌, arith}
use Rattle.std.specs.List.{AllByRecursion, flat_map}
use Rattle.std.proofs.lemmas.List.{map-append, drop_all, drop_more}
use Rattle.std.proofs.lemmas.List.Concat.{flat_map-append}
use Rattle.cs_value.specs.State.{State}
use Rattle.cs_wire.specs.Changeset.{GroupData}
use Rattle.cs_apply_conflict_kinds.specs.declared.conflict.Kind.{Kind}
use Rattle.cs_apply_conflict_kinds.specs.declared.conflict.Noop.{Noop}
use Rattle.cs_apply_conflict_kinds.specs.declared.conflict.Noop.TheVariants.{Report, Ignore}
use Rattle.cs_apply_conflict_kinds.specs.Judging.{judged, is_compatible}
use Rattle.cs_apply_conflict_kinds.specs.Applying.{PlacedEntry, ConflictData, MetData, Choices, placed, placed_in, placed_kinds, current, conflict_with, compatible_groups, met_at, met_under, heeded_of, is_idle_at}
use Rattle.cs_apply_rehearsal.specs.Found.{IsOf}
use Rattle.cs_apply_rehearsal.specs.Along.{AreAlong}

-- ---- entries before, and conflicts behind

along_skip : (p : PlacedEntry) (ps : List PlacedEntry) (cs : List ConflictData) → AreAlong ps cs → AreAlong (p ∷ ps) cs
along_skip p ps [] along = tt
along_skip p ps (c ∷ cs) along = inr along

along_skip_all : (qs ps : List PlacedEntry) (cs : List ConflictData) → AreAlong ps cs → AreAlong (qs ++ ps) cs
along_skip_all [] ps cs along = along
along_skip_all (q ∷ qs) ps cs along = along_skip q (qs ++ ps) cs (along_skip_all qs ps cs along)

along_own : (p : PlacedEntry) (ps : List PlacedEntry) (own cs : List ConflictData) → AllByRecursion (λ c. IsOf c p) own → AreAlong ps cs → AreAlong (p ∷ ps) (own ++ cs)
along_own p ps [] cs each along = along_skip p ps cs along
along_own p ps (c ∷ own) cs each along = inl (each.0, along_own p ps own cs each.1 along)

-- ---- the conflicts of entries

abbrev pub conflicts_in : List MetData → List ConflictData
conflicts_in ms = map (λ m. m.conflict) ms

module _ (state : State) (choose : Choices) where
  abbrev pub of_entries : List PlacedEntry → List ConflictData
  of_entries ps = conflicts_in (flat_map (met_at state choose) ps)

  pub own_of : (p : PlacedEntry) (kinds : List Kind) → AllByRecursion (λ c. IsOf c p) (conflicts_in (map (λ kind. record { conflict = conflict_with p (current state p) kind; choice = choose p kind }) kinds))
  own_of p [] = tt
  own_of p (kind ∷ kinds) = (record { table = refl; entry = refl }, own_of p kinds)

  pub of_entries-cons : (p : PlacedEntry) (ps : List PlacedEntry) → of_entries (p ∷ ps) ≡ conflicts_in (met_at state choose p) ++ of_entries ps
  of_entries-cons p ps = map-append (λ (m : MetData). m.conflict) (met_at state choose p) (flat_map (met_at state choose) ps)

  -- one entry that is considered
  along_one : (p : PlacedEntry) (ps qs : List PlacedEntry) (cs : List ConflictData) → AreAlong ps (of_entries qs ++ cs) → AreAlong (p ∷ ps) (of_entries (p ∷ qs) ++ cs)
  along_one p ps qs cs along =
      subst (AreAlong (p ∷ ps)) (sym (ap (λ (l : List ConflictData). l ++ cs) (of_entries-cons p qs) ∙ append_assoc_here))
      (along_own p ps (conflicts_in (met_at state choose p)) (of_entries qs ++ cs) (own_of p (placed_kinds state choose p)) along)
    where
      append_assoc_here : (conflicts_in (met_at state choose p) ++ of_entries qs) ++ cs ≡ conflicts_in (met_at state choose p) ++ (of_entries qs ++ cs)
      append_assoc_here = assoc (conflicts_in (met_at state choose p))
        where
          assoc : (l : List ConflictData) → (l ++ of_entries qs) ++ cs ≡ l ++ (of_entries qs ++ cs)
          assoc [] = refl
          assoc (x ∷ l) = ap (λ (m : List ConflictData). x ∷ m) (assoc l)

  along_each : (ps qs : List PlacedEntry) (cs : List ConflictData) → AreAlong qs cs → AreAlong (ps ++ qs) (of_entries ps ++ cs)
  along_each [] qs cs along = along
  along_each (p ∷ ps) qs cs along = along_one p (ps ++ qs) ps cs (along_each ps qs cs along)

  along_filtered : (takes : PlacedEntry → Bool) (ps qs : List PlacedEntry) (cs : List ConflictData) → AreAlong qs cs → AreAlong (ps ++ qs) (of_entries (filter takes ps) ++ cs)
  along_filtered takes [] qs cs along = along
  along_filtered takes (p ∷ ps) qs cs along = at (takes p) (along_filtered takes ps qs cs along)
    where
      at : (b : Bool) → AreAlong (ps ++ qs) (of_entries (filter takes ps) ++ cs) → AreAlong (p ∷ (ps ++ qs)) (of_entries (cond b (p ∷ filter takes ps) (filter takes ps)) ++ cs)
      at true others = along_one p (ps ++ qs) (filter takes ps) cs others
      at false others = along_skip p (ps ++ qs) (of_entries (filter takes ps) ++ cs) others

  along_heeded : (noop : Noop) (ps qs : List PlacedEntry) (cs : List ConflictData) → AreAlong qs cs → AreAlong (ps ++ qs) (of_entries (heeded_of noop state ps) ++ cs)
  along_heeded Report ps qs cs along = along_each ps qs cs along
  along_heeded Ignore ps qs cs along = along_filtered (λ p. not (is_idle_at state p)) ps qs cs along

  heeded_more : (noop : Noop) (ps qs : List PlacedEntry) → heeded_of noop state (ps ++ qs) ≡ heeded_of noop state ps ++ heeded_of noop state qs
  heeded_more Report ps qs = refl
  heeded_more Ignore ps qs = filter_more ps
    where
      filter_more : (ps : List PlacedEntry) → filter (λ p. not (is_idle_at state p)) (ps ++ qs) ≡ filter (λ p. not (is_idle_at state p)) ps ++ filter (λ p. not (is_idle_at state p)) qs
      filter_more [] = refl
      filter_more (p ∷ ps) = at (not (is_idle_at state p)) (filter_more ps)
        where
          at : (b : Bool) → filter (λ p. not (is_idle_at state p)) (ps ++ qs) ≡ filter (λ p. not (is_idle_at state p)) ps ++ filter (λ p. not (is_idle_at state p)) qs
              → cond b (p ∷ filter (λ p. not (is_idle_at state p)) (ps ++ qs)) (filter (λ p. not (is_idle_at state p)) (ps ++ qs)) ≡ cond b (p ∷ filter (λ p. not (is_idle_at state p)) ps) (filter (λ p. not (is_idle_at state p)) ps) ++ filter (λ p. not (is_idle_at state p)) qs
          at true so = ap (λ (l : List PlacedEntry). p ∷ l) so
          at false so = so

  none_heeded : (noop : Noop) → of_entries (heeded_of noop state []) ≡ []
  none_heeded Report = refl
  none_heeded Ignore = refl

  of_heeded : (noop : Noop) (ps qs : List PlacedEntry) → of_entries (heeded_of noop state (ps ++ qs)) ≡ of_entries (heeded_of noop state ps) ++ of_entries (heeded_of noop state qs)
  of_heeded noop ps qs =
      ap of_entries (heeded_more noop ps qs)
      ∙ ap conflicts_in (flat_map-append (met_at state choose) (heeded_of noop state ps) (heeded_of noop state qs))
      ∙ map-append (λ (m : MetData). m.conflict) (flat_map (met_at state choose) (heeded_of noop state ps)) (flat_map (met_at state choose) (heeded_of noop state qs))

  -- the conflicts of a changeset are along its entries
  pub met_along : (noop : Noop) (gs : List GroupData) → AreAlong (placed gs) (conflicts_in (met_under noop state gs choose))
  met_along noop [] = none_heeded noop
  met_along noop (g ∷ gs) = at (is_compatible (judged state g)) (met_along noop gs)
    where
      at : (b : Bool) → AreAlong (placed gs) (of_entries (heeded_of noop state (placed (compatible_groups state gs))))
          → AreAlong (placed_in g ++ placed gs) (of_entries (heeded_of noop state (placed (cond b (g ∷ compatible_groups state gs) (compatible_groups state gs)))))
      at true others =
          subst (AreAlong (placed_in g ++ placed gs)) (sym (of_heeded noop (placed_in g) (placed (compatible_groups state gs))))
          (along_heeded noop (placed_in g) (placed gs) (of_entries (heeded_of noop state (placed (compatible_groups state gs)))) others)
      at false others = along_skip_all (placed_in g) (placed gs) _ others

-- ---- a search for the entry of the first conflict

along_left : (ps : List PlacedEntry) (c : ConflictData) (cs : List ConflictData) → AreAlong ps (c ∷ cs) → AreAlong ps cs
along_left [] c cs along = cc
along_left (p ∷ ps) c cs (inl own) = own.1
along_left (p ∷ ps) c cs (inr later) = along_skip p ps cs (along_left ps c cs later)

module _ (ps : List PlacedEntry) (i : ℕ) (c : ConflictData) (cs : List ConflictData) where
  -- the entry there is not its own
  pub along_next : (p : PlacedEntry) → i < length ps → p ≡ get_or ps i p → ¬ IsOf c p → AreAlong (drop i ps) (c ∷ cs) → AreAlong (drop (i + 1) ps) (c ∷ cs)
  along_next p lt is other along = at (subst (λ (l : List PlacedEntry). AreAlong l (c ∷ cs)) (drop_more ps i p lt ∙ ap (λ (q : PlacedEntry). q ∷ drop (i + 1) ps) (sym is)) along)
    where
      at : AreAlong (p ∷ drop (i + 1) ps) (c ∷ cs) → AreAlong (drop (i + 1) ps) (c ∷ cs)
      at (inl own) = absurd (other own.0)
      at (inr later) = later

  -- there is one
  pub along_some : length ps ≡ i → AreAlong (drop i ps) (c ∷ cs) → ⊥
  along_some past along = absurd (nothing (subst (λ (l : List PlacedEntry). AreAlong l (c ∷ cs)) (drop_all i ps (omega arith)) along))
    where
      nothing : (c ∷ cs) ≡ [] → ⊥
      nothing e = cc

  -- the others are from there on
  pub along_others : AreAlong (drop i ps) (c ∷ cs) → AreAlong (drop i ps) cs
  along_others along = along_left (drop i ps) c cs along
