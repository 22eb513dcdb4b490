-- The columns of tables, judged one by one.
use Rattle.std.proofs.Common.{◌≡◌, ℕ, zero, suc, ◌<◌, ◌≤◌, Bool, true, false, not, ◌&&◌, List, [], ◌∷◌, length, drop, get_or, Option, Some, None, refl, ap, ◌∙◌, arith}
use Rattle.std.proofs.lemmas.List.{drop_all}
use Rattle.std.proofs.Math.Bool.{beq}
use Rattle.cs_group.specs.Net.{by_flag}
use Rattle.cs_apply_conflict_kinds.specs.Judging.{leads, judgement}
use Rattle.cs_group.specs.Joining.{key_marks}

-- fewer columns than those that lead
pub too_few : (flags table : List ℕ) → length table < length flags → leads flags table ≡ false
too_few [] table lt = absurd (omega arith)
too_few (flag ∷ flags) [] lt = refl
too_few (zero ∷ flags) (zero ∷ table) lt = too_few flags table (omega arith)
too_few (zero ∷ flags) (suc other ∷ table) lt = refl
too_few (suc flag ∷ flags) (zero ∷ table) lt = refl
too_few (suc flag ∷ flags) (suc other ∷ table) lt = too_few flags table (omega arith)

-- column by column
pub leads_next : (flags table : List ℕ) (i : ℕ) → i < length flags → i < length table
    → leads (drop i flags) (drop i table) ≡ (beq (by_flag (get_or flags i 0) false true) (by_flag (get_or table i 0) false true) && leads (drop (suc i) flags) (drop (suc i) table))
leads_next [] table i lt m = absurd (omega arith)
leads_next (f ∷ flags) [] i lt m = absurd (omega arith)
leads_next (zero ∷ flags) (zero ∷ table) zero lt m = refl
leads_next (zero ∷ flags) (suc g ∷ table) zero lt m = refl
leads_next (suc f ∷ flags) (zero ∷ table) zero lt m = refl
leads_next (suc f ∷ flags) (suc g ∷ table) zero lt m = refl
leads_next (f ∷ flags) (g ∷ table) (suc i) lt m = leads_next flags table i (omega arith) (omega arith)

not_differ : (b c : Bool) → not b ≡ c → b ≡ not c
not_differ true c e = ap not e
not_differ false c e = ap not e

-- none is left
pub leads_all : (flags table : List ℕ) (i : ℕ) → length flags ≤ i → leads (drop i flags) (drop i table) ≡ true
leads_all flags table i le = ap (λ (l : List ℕ). leads l (drop i table)) (drop_all i flags le)

-- the column as it was tested
pub leads_by : (flags table : List ℕ) (i : ℕ) (a b differ : Bool) → i < length flags → i < length table → a ≡ by_flag (get_or flags i 0) false true → b ≡ by_flag (get_or table i 0) false true
    → not (beq a b) ≡ differ → leads (drop i flags) (drop i table) ≡ (not differ && leads (drop (suc i) flags) (drop (suc i) table))
leads_by flags table i a b differ lt m p q e =
    leads_next flags table i lt m ∙ ap (λ (c : Bool). c && leads (drop (suc i) flags) (drop (suc i) table)) (rw (← p, ← q) (not_differ (beq a b) differ e))

-- ---- by the places of the key

-- they lead the same
leads_same : (f g table : List ℕ) → key_marks f ≡ key_marks g → leads f table ≡ leads g table
leads_same [] [] table e = refl
leads_same [] (b ∷ g) table e = absurd cc
leads_same (a ∷ f) [] table e = absurd cc
leads_same (a ∷ f) (b ∷ g) [] e = refl
leads_same (zero ∷ f) (zero ∷ g) (zero ∷ table) e = let rest : key_marks f ≡ key_marks g = cc in leads_same f g table rest
leads_same (zero ∷ f) (zero ∷ g) (suc t ∷ table) e = refl
leads_same (suc a ∷ f) (suc b ∷ g) (zero ∷ table) e = refl
leads_same (suc a ∷ f) (suc b ∷ g) (suc t ∷ table) e = let rest : key_marks f ≡ key_marks g = cc in leads_same f g table rest
leads_same (zero ∷ f) (suc b ∷ g) (t ∷ table) e = absurd cc
leads_same (suc a ∷ f) (zero ∷ g) (t ∷ table) e = absurd cc

-- and have as many
width_same : (f g : List ℕ) → key_marks f ≡ key_marks g → length f ≡ length g
width_same [] [] e = refl
width_same [] (b ∷ g) e = absurd cc
width_same (a ∷ f) [] e = absurd cc
width_same (a ∷ f) (b ∷ g) e = let rest : key_marks f ≡ key_marks g = cc in ap suc (width_same f g rest)

-- changes of the same columns with the same key are judged alike
pub judgement_same : (f g : List ℕ) (table : Option (List ℕ)) → key_marks f ≡ key_marks g → judgement f table ≡ judgement g table
judgement_same f g None e = refl
judgement_same f g (Some table) e = rw (leads_same f g table e, width_same f g e) refl
