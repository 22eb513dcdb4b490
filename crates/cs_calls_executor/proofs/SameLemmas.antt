-- Whether conflicts are the same.
use Rattle.std.proofs.Common.{◌≡◌, ◌↔◌, ◌+◌, ◌<◌, ◌++◌, ◌∷◌, [], IsTrue, true, Bool, ℕ, List, length, map, take, get_or, Option, Some, unwrap_or, sym, ap, subst, ◌∙◌}
use Rattle.std.proofs.lemmas.List.{map-append, take_more}
use Rattle.std.specs.Cmp.Lexicographic.{pointwise}
use Rattle.cs_value.specs.contracts.value.OwnedValuePartialEq.TheImpl as value_eq
use Rattle.cs_value.specs.declared.value.OwnedValue.{OwnedValue}
use Rattle.cs_value.specs.declared.value.OwnedField.TheVariants.{Defined}
use Rattle.cs_apply_conflict_kinds.specs.Conflicts.{has_values}
use Rattle.cs_apply_conflict_kinds.proofs.ConflictLemmas.{all_values, has_its_values, same_rows}
use Rattle.cs_calls_executor.specs.Applying.{HasSamePlace}
use Rattle.cs_calls_parts.specs.declared.conflicts.FoundConflict.{FoundConflict}

-- rows are compared value by value
pub rows_told : (a b : List OwnedValue) (r : Bool) → r ≡ pointwise (value_eq.ghosts).eq a b → (IsTrue r ↔ (a ≡ b))
rows_told a b r is = (
  λ t. all_values b a (sym (same_rows a b) ∙ sym is ∙ t),
  λ s. is ∙ same_rows a b ∙ subst (λ (z : List OwnedValue). has_values z (map Defined a) ≡ true) s (has_its_values a),
)

-- and so if they may be missing
pub options_told : {X : Type 0} (a b : X) (r : Bool) → (IsTrue r ↔ (a ≡ b)) → (IsTrue r ↔ (Some a ≡ Some b))
options_told {X} a b r told = (λ t. ap (λ (x : X). Some x) (told.0 t), λ s. told.1 (ap (λ (o : Option X). unwrap_or o a) s))

-- conflicts are the same if their places and their rows are
pub same_told : (a b : FoundConflict) (r : Bool) → HasSamePlace a b → (IsTrue r ↔ (a.current ≡ b.current)) → (IsTrue r ↔ (a ≡ b))
same_told a b r place told = (
  λ t. let rows = told.0 t in λ i. record { index = place.index i; kind = place.kind i; table = place.table i; key = place.key i; current = rows i },
  λ s. told.1 (ap (λ (f : FoundConflict). f.current) s),
)

pub same_place : (a b : FoundConflict) → a ≡ b → HasSamePlace a b
same_place a b s = record {
  index = ap (λ (f : FoundConflict). f.index) s;
  kind = ap (λ (f : FoundConflict). f.kind) s;
  table = ap (λ (f : FoundConflict). f.table) s;
  key = ap (λ (f : FoundConflict). f.key) s;
}

pub places_told : (a b : FoundConflict) (r : Bool) → (a.index ≡ b.index) × (a.kind ≡ b.kind) → (IsTrue r ↔ (a.table ≡ b.table) × (a.key ≡ b.key)) → (IsTrue r ↔ HasSamePlace a b)
places_told a b r entry told = (
  λ t. let keys = told.0 t in record { index = entry.0; kind = entry.1; table = keys.0; key = keys.1 },
  λ s. told.1 (s.table, s.key),
)

-- lists are the same if their first elements are
pub lists_more : {X Y : Type 0} (part : Y → X) (xs : List X) (ys : List Y) (i : ℕ) (x : X) (y : Y) → i < length xs → i < length ys → x ≡ get_or xs i x → y ≡ get_or ys i y → x ≡ part y → take i xs ≡ map part (take i ys)
    → take (i + 1) xs ≡ map part (take (i + 1) ys)
lists_more {X} {Y} part xs ys i x y within among here there same before =
    take_more xs i x within ∙ ap (λ (z : X). take i xs ++ z ∷ []) (sym here ∙ same) ∙ ap (λ (l : List X). l ++ part y ∷ []) before
    ∙ sym (map-append part (take i ys) (y ∷ []))
    ∙ ap (λ (z : Y). map part (take i ys ++ z ∷ [])) there ∙ sym (ap (λ (l : List Y). map part l) (take_more ys i y among))
