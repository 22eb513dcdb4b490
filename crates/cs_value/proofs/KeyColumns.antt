-- The values of the key columns, one after the other.
use Rattle.std.proofs.Common.{◌≡◌, ℕ, zero, suc, ◌+◌, ◌<◌, List, [], ◌∷◌, ◌++◌, length, get_or, take, refl, sym, ap, ◌∙◌, arith}
use Rattle.std.specs.List.{flat_map}
use Rattle.std.proofs.lemmas.List.{append-nil, take_more, length-take-le}
use Rattle.std.proofs.lemmas.List.Concat.{flat_map-append}
use Rattle.cs_value.specs.Key.{key_columns}

-- one column more
key_columns-push : {X : Type 0} (flags : List ℕ) (xs : List X) (flag : ℕ) (x : X) → length flags ≡ length xs → key_columns (flags ++ flag ∷ []) (xs ++ x ∷ []) ≡ key_columns flags xs ++ key_columns (flag ∷ []) (x ∷ [])
key_columns-push {X = X} [] [] flag x e = refl
key_columns-push {X = X} [] (y ∷ ys) flag x e = absurd (omega arith)
key_columns-push {X = X} (f ∷ fs) [] flag x e = absurd (omega arith)
key_columns-push {X = X} (zero ∷ fs) (y ∷ ys) flag x e = key_columns-push fs ys flag x (omega arith)
key_columns-push {X = X} (suc f ∷ fs) (y ∷ ys) flag x e = ap (λ (l : List X). y ∷ l) (key_columns-push fs ys flag x (omega arith))

-- the first columns, and one more
columns_more : {X : Type 0} (flags : List ℕ) (parts : List X) (i flag : ℕ) (x : X) → i < length flags → i < length parts → flag ≡ get_or flags i 0 → x ≡ get_or parts i x
    → key_columns (take (i + 1) flags) (take (i + 1) parts) ≡ key_columns (take i flags) (take i parts) ++ key_columns (flag ∷ []) (x ∷ [])
columns_more {X = X} flags parts i flag x in_flags in_parts flag_is x_is =
    let same : length (take i flags) ≡ length (take i parts) = omega (arith, length-take-le i flags, length-take-le i parts) in
    rw (take_more flags i 0 in_flags, take_more parts i x in_parts, ← flag_is, ← x_is) (key_columns-push (take i flags) (take i parts) flag x same)

-- the value of a key column is written
pub is_key_column : {X : Type 0} (spelled : X → List ℕ) (flags : List ℕ) (parts : List X) (i flag : ℕ) (x : X) → i < length flags → i < length parts → flag ≡ get_or flags i 0 → x ≡ get_or parts i x → 0 < flag
    → flat_map spelled (key_columns (take i flags) (take i parts)) ++ spelled x ≡ flat_map spelled (key_columns (take (i + 1) flags) (take (i + 1) parts))
is_key_column {X = X} spelled flags parts i zero x in_flags in_parts flag_is x_is marked = absurd (omega arith)
is_key_column {X = X} spelled flags parts i (suc f) x in_flags in_parts flag_is x_is marked =
    let so_far = key_columns (take i flags) (take i parts) in
    let more : flat_map spelled (x ∷ []) ≡ spelled x = append-nil (spelled x) in
    sym (ap (flat_map spelled) (columns_more flags parts i (suc f) x in_flags in_parts flag_is x_is) ∙ flat_map-append spelled so_far (x ∷ []) ∙ ap (λ (b : List ℕ). flat_map spelled so_far ++ b) more)

-- the value of another is not
pub no_key_column : {X : Type 0} (spelled : X → List ℕ) (flags : List ℕ) (parts : List X) (i flag : ℕ) (x : X) → i < length flags → i < length parts → flag ≡ get_or flags i 0 → x ≡ get_or parts i x → flag ≡ 0
    → flat_map spelled (key_columns (take i flags) (take i parts)) ≡ flat_map spelled (key_columns (take (i + 1) flags) (take (i + 1) parts))
no_key_column {X = X} spelled flags parts i zero x in_flags in_parts flag_is x_is other =
    sym (ap (flat_map spelled) (columns_more flags parts i zero x in_flags in_parts flag_is x_is ∙ append-nil (key_columns (take i flags) (take i parts))))
no_key_column {X = X} spelled flags parts i (suc f) x in_flags in_parts flag_is x_is other = absurd (omega arith)
