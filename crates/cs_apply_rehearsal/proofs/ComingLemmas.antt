-- The conflicts that come with choices for those of a rehearsal.
use Rattle.std.proofs.Common.{◌≡◌, ◌≢◌, ◌==◌, ℕ, Bool, true, false, true≢false, ◌&&◌, if◌then◌else◌, List, [], ◌∷◌, ◌++◌, map, Option, None, Some, refl, sym, ap, ap₂, ◌∙◌, arith}
use Rattle.std.specs.Prelude.{IfSome}
use Rattle.std.specs.List.{AllByRecursion, flat_map}
use Rattle.cs_value.specs.State.{State}
use Rattle.cs_value.proofs.ListLemmas.{AllByRecursion-append_left, AllByRecursion-append_right, PairsByRecursion}
use Rattle.cs_apply_conflict_kinds.specs.declared.conflict.Kind.{Kind}
use Rattle.cs_apply_conflict_kinds.specs.declared.conflict.Kind.TheVariants.{Data, NotFound, Conflict, Constraint}
use Rattle.cs_apply_conflict_kinds.specs.declared.conflict.Choice.{Choice}
use Rattle.cs_apply_conflict_kinds.specs.declared.conflict.Choice.TheVariants.{Omit, Replace, Abort}
use Rattle.cs_apply_conflict_kinds.specs.Conflicts.{conflict_kind, is_overcome, kinds_from}
use Rattle.cs_apply_conflict_kinds.specs.Applying.{PlacedEntry, ConflictData, MetData, Choices, conflict_with, current, met_at, refused_at}
use Rattle.cs_apply_rehearsal.specs.Found.{IsOf}
use Rattle.cs_apply_rehearsal.specs.Rehearsing.{rehearsing, replace_or_omit}
use Rattle.cs_apply_rehearsal.specs.Choosing.{ChosenData, met_by, comes_after, coming_after}
use Rattle.cs_apply_rehearsal.proofs.AlongLemmas.{conflicts_in}

-- two entries are not the same one
abbrev pub AreOthers : PlacedEntry → PlacedEntry → Type 0
AreOthers p q = ¬ ((p.table ≡ q.table) × (p.entry ≡ q.entry))

-- what a conflict has that is overcome under any choice
pub overcome_so : (kind : Kind) (choice : Choice) → is_overcome kind choice ≡ true → is_overcome kind (replace_or_omit kind) ≡ true
overcome_so Data choice e = refl
overcome_so Conflict choice e = refl
overcome_so NotFound Omit e = cc
overcome_so NotFound Replace e = cc
overcome_so NotFound Abort e = cc
overcome_so Constraint Omit e = cc
overcome_so Constraint Replace e = cc
overcome_so Constraint Abort e = cc

not_equal : (m n : ℕ) → m ≢ n → (m == n) ≡ false
not_equal m n other = at (m == n) refl
  where
    at : (b : Bool) → (m == n) ≡ b → b ≡ false
    at true e = absurd (other (grind arith))
    at false e = refl

is_equal : (m n : ℕ) → m ≡ n → (m == n) ≡ true
is_equal m n e = grind arith

module _ (state : State) (choose : Choices)
    (Known : ChosenData → Type 0)
    (one : (b c : ChosenData) (p : PlacedEntry) → Known b → Known c → IsOf b.found.conflict p → IsOf c.found.conflict p → b.found.index ≡ c.found.index)
    (two : (b c : ChosenData) (p q : PlacedEntry) → Known b → Known c → IsOf b.found.conflict p → IsOf c.found.conflict q → AreOthers p q → b.found.index ≢ c.found.index)
    (ChosenSo : MetData → Type 0)
    (so : (c : ChosenData) (m : MetData) → Known c → c.found.conflict ≡ m.conflict → ChosenSo m → m.choice ≡ c.choice) where
  abbrev chosen_conflicts : List ChosenData → List ConflictData
  chosen_conflicts cs = map (λ c. c.found.conflict) cs

  -- the conflict before is of none of the entries
  abbrev IsBefore : Option ChosenData → List PlacedEntry → Type 0
  IsBefore before ps = IfSome before (λ b. Known b × ((p : PlacedEntry) × IsOf b.found.conflict p × AllByRecursion (λ q. AreOthers p q) ps))

  abbrev Comes : List PlacedEntry → List ChosenData → Type 0
  Comes ps cs = (before : Option ChosenData) → IsBefore before ps → flat_map (met_at state choose) ps ≡ coming_after before cs

  module _ (p : PlacedEntry) (ps : List PlacedEntry) (apart : AllByRecursion (λ q. AreOthers p q) ps) where
    -- the first conflict of an entry comes
    first_comes : (before : Option ChosenData) (c : ChosenData) → Known c → IsOf c.found.conflict p → IsBefore before (p ∷ ps) → comes_after before c ≡ true
    first_comes None c known of is = refl
    first_comes (Some b) c known of is = rw (not_equal b.found.index c.found.index (two b c is.1.0 p is.0 known is.1.1 of is.1.2.0)) refl

    passed_on : (before : Option ChosenData) → IsBefore before (p ∷ ps) → IsBefore before ps
    passed_on None is = tt
    passed_on (Some b) is = (is.0, (is.1.0, is.1.1, is.1.2.1))

    abbrev met_as : Kind → Choice → MetData
    met_as kind choice = record { conflict = conflict_with p (current state p) kind; choice = choice }

    is_of : (c : ChosenData) (kind : Kind) → c.found.conflict ≡ conflict_with p (current state p) kind → IsOf c.found.conflict p
    is_of c kind e = record { table = sym (ap (λ (d : ConflictData). d.table) e); entry = sym (ap (λ (d : ConflictData). d.entry) e) }

    same_met : (c : ChosenData) (kind : Kind) → c.found.conflict ≡ conflict_with p (current state p) kind → Known c → ChosenSo (met_as kind (choose p kind)) → met_as kind (choose p kind) ≡ met_by c
    same_met c kind e known chosen =
        ap₂ (λ (d : ConflictData) (choice : Choice). record { conflict = d; choice = choice }) (sym e) (so c (met_as kind (choose p kind)) known e chosen)

    -- what an entry has after its first conflict
    seconds : (refused : Bool) (kind : Kind) (c : ChosenData) → Known c → c.found.conflict ≡ conflict_with p (current state p) kind → choose p kind ≡ c.choice
        → (cs : List ChosenData) → chosen_conflicts cs ≡ conflicts_in (map (λ k. met_as k (replace_or_omit k)) (if refused && is_overcome kind (replace_or_omit kind) then Constraint ∷ [] else []) ++ flat_map (met_at state rehearsing) ps)
        → AllByRecursion Known cs
        → AllByRecursion ChosenSo (map (λ k. met_as k (choose p k)) (if refused && is_overcome kind (choose p kind) then Constraint ∷ [] else []))
        → ((ds : List ChosenData) → chosen_conflicts ds ≡ conflicts_in (flat_map (met_at state rehearsing) ps) → AllByRecursion Known ds → Comes ps ds)
        → map (λ k. met_as k (choose p k)) (if refused && is_overcome kind (choose p kind) then Constraint ∷ [] else []) ++ flat_map (met_at state choose) ps ≡ coming_after (Some c) cs
    seconds refused kind c known is choice cs listed each chosen others = at refused (is_overcome kind (choose p kind)) (is_overcome kind (replace_or_omit kind)) refl refl cs listed each chosen
      where
        own : IsBefore (Some c) ps
        own = (known, (p, is_of c kind is, apart))

        overcome : is_overcome c.found.conflict.kind c.choice ≡ is_overcome kind (choose p kind)
        overcome = ap₂ is_overcome (ap (λ (d : ConflictData). d.kind) is) (sym choice)

        at : (refused now rehearsed : Bool) → is_overcome kind (choose p kind) ≡ now → is_overcome kind (replace_or_omit kind) ≡ rehearsed
            → (cs : List ChosenData) → chosen_conflicts cs ≡ conflicts_in (map (λ k. met_as k (replace_or_omit k)) (if refused && rehearsed then Constraint ∷ [] else []) ++ flat_map (met_at state rehearsing) ps)
            → AllByRecursion Known cs
            → AllByRecursion ChosenSo (map (λ k. met_as k (choose p k)) (if refused && now then Constraint ∷ [] else []))
            → map (λ k. met_as k (choose p k)) (if refused && now then Constraint ∷ [] else []) ++ flat_map (met_at state choose) ps ≡ coming_after (Some c) cs
        at false now rehearsed now_is rehearsed_is cs listed each chosen = others cs listed each (Some c) own
        at true true false now_is rehearsed_is cs listed each chosen = absurd (true≢false (sym (overcome_so kind (choose p kind) now_is) ∙ rehearsed_is))
        at true false false now_is rehearsed_is cs listed each chosen = others cs listed each (Some c) own
        at true now true now_is rehearsed_is [] listed each chosen = cc
        at true true true now_is rehearsed_is (d ∷ ds) listed each chosen =
            let of : d.found.conflict ≡ conflict_with p (current state p) Constraint = cc (listed) in
            let rest : chosen_conflicts ds ≡ conflicts_in (flat_map (met_at state rehearsing) ps) = cc (listed) in
            rw (overcome ∙ now_is, is_equal c.found.index d.found.index (one c d p known each.0 (is_of c kind is) (is_of d Constraint of)))
            (ap₂ (λ (m : MetData) (l : List MetData). m ∷ l) (same_met d Constraint of each.0 chosen.0) (others ds rest each.1 (Some d) (each.0, (p, is_of d Constraint of, apart))))
        at true false true now_is rehearsed_is (d ∷ ds) listed each chosen =
            let of : d.found.conflict ≡ conflict_with p (current state p) Constraint = cc (listed) in
            let rest : chosen_conflicts ds ≡ conflicts_in (flat_map (met_at state rehearsing) ps) = cc (listed) in
            rw (overcome ∙ now_is, is_equal c.found.index d.found.index (one c d p known each.0 (is_of c kind is) (is_of d Constraint of)))
            (others ds rest each.1 (Some d) (each.0, (p, is_of d Constraint of, apart)))

    entry_comes : (refused : Bool) (o : Option Kind) (cs : List ChosenData)
        → chosen_conflicts cs ≡ conflicts_in (map (λ k. met_as k (replace_or_omit k)) (kinds_from refused replace_or_omit o) ++ flat_map (met_at state rehearsing) ps)
        → AllByRecursion Known cs
        → AllByRecursion ChosenSo (map (λ k. met_as k (choose p k)) (kinds_from refused (choose p) o))
        → ((ds : List ChosenData) → chosen_conflicts ds ≡ conflicts_in (flat_map (met_at state rehearsing) ps) → AllByRecursion Known ds → Comes ps ds)
        → (before : Option ChosenData) → IsBefore before (p ∷ ps)
        → map (λ k. met_as k (choose p k)) (kinds_from refused (choose p) o) ++ flat_map (met_at state choose) ps ≡ coming_after before cs
    entry_comes refused None cs listed each chosen others before is = others cs listed each before (passed_on before is)
    entry_comes refused (Some kind) [] listed each chosen others before is = cc
    entry_comes refused (Some kind) (c ∷ cs) listed each chosen others before is =
        let of : c.found.conflict ≡ conflict_with p (current state p) kind = cc (listed) in
        let rest : chosen_conflicts cs ≡ conflicts_in (map (λ k. met_as k (replace_or_omit k)) (if refused && is_overcome kind (replace_or_omit kind) then Constraint ∷ [] else []) ++ flat_map (met_at state rehearsing) ps) = cc (listed) in
        rw (first_comes before c each.0 (is_of c kind of) is)
        (ap₂ (λ (m : MetData) (l : List MetData). m ∷ l) (same_met c kind of each.0 chosen.0)
        (seconds refused kind c each.0 of (so c (met_as kind (choose p kind)) each.0 of chosen.0) cs rest each.1 chosen.1 others))

  pub all_come : (ps : List PlacedEntry) → PairsByRecursion AreOthers ps → AllByRecursion ChosenSo (flat_map (met_at state choose) ps)
      → (cs : List ChosenData) → chosen_conflicts cs ≡ conflicts_in (flat_map (met_at state rehearsing) ps) → AllByRecursion Known cs → Comes ps cs
  all_come [] apart chosen [] listed each before is = refl
  all_come [] apart chosen (c ∷ cs) listed each before is = cc
  all_come (p ∷ ps) apart chosen cs listed each before is =
      entry_comes p ps apart.0 (refused_at state p) (conflict_kind (refused_at state p) p.entry.change (current state p)) cs listed each
      (AllByRecursion-append_left ChosenSo (met_at state choose p) (flat_map (met_at state choose) ps) chosen)
      (all_come ps apart.1 (AllByRecursion-append_right ChosenSo (met_at state choose p) (flat_map (met_at state choose) ps) chosen))
      before is
