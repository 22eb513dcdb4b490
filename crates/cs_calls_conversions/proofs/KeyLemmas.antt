-- The key columns, one column at a time.
use Rattle.std.proofs.Common.{◌≡◌, ℕ, zero, suc, ◌+◌, ◌<◌, List, [], ◌∷◌, ◌++◌, length, get_or, take, refl, sym, ap, ◌∙◌, arith, true, false, true≢false, count_by, cond}
use Rattle.std.proofs.lemmas.List.{append-nil, take_more, length-take-le}
use Rattle.std.proofs.lemmas.List.Sums.{sum_by-cons}
use Rattle.cs_value.specs.Key.{key_columns}
use Rattle.cs_value.specs.State.{is_marked}

-- no column has no key
pub no_columns : {X : Type 0} (flags : List ℕ) → key_columns {X = X} flags [] ≡ []
no_columns {X = X} [] = refl
no_columns {X = X} (flag ∷ flags) = refl

columns_push : {X : Type 0} (flags : List ℕ) (xs : List X) (x : X) → key_columns flags (xs ++ x ∷ []) ≡ key_columns flags xs ++ key_columns (get_or flags (length xs) 0 ∷ []) (x ∷ [])
columns_push {X = X} [] [] x = refl
columns_push {X = X} [] (y ∷ ys) x = refl
columns_push {X = X} (zero ∷ flags) [] x = no_columns flags
columns_push {X = X} (suc flag ∷ flags) [] x = ap (λ (l : List X). x ∷ l) (no_columns flags)
columns_push {X = X} (zero ∷ flags) (y ∷ ys) x = columns_push flags ys x
columns_push {X = X} (suc flag ∷ flags) (y ∷ ys) x = ap (λ (l : List X). y ∷ l) (columns_push flags ys x)

-- one column more
columns_more : {X : Type 0} (flags : List ℕ) (xs : List X) (i : ℕ) (x : X) → i < length xs → x ≡ get_or xs i x → key_columns flags (take (i + 1) xs) ≡ key_columns flags (take i xs) ++ key_columns (get_or flags i 0 ∷ []) (x ∷ [])
columns_more {X = X} flags xs i x within x_is =
    let as_long : length (take i xs) ≡ i = length-take-le i xs (omega arith) in
    rw (take_more xs i x within, ← x_is) (columns_push flags (take i xs) x ∙ ap (λ (n : ℕ). key_columns flags (take i xs) ++ key_columns (get_or flags n 0 ∷ []) (x ∷ [])) as_long)

-- a column of the key, and another one
column_kept : {X : Type 0} (flag : ℕ) (x : X) → is_marked flag ≡ true → key_columns (flag ∷ []) (x ∷ []) ≡ x ∷ []
column_kept {X = X} zero x marked = absurd (true≢false (sym marked))
column_kept {X = X} (suc flag) x marked = refl

column_left : {X : Type 0} (flag : ℕ) (x : X) → is_marked flag ≡ false → key_columns (flag ∷ []) (x ∷ []) ≡ []
column_left {X = X} zero x other = refl
column_left {X = X} (suc flag) x other = absurd (true≢false other)

-- as many as flags that are not 0
pub as_many : {X : Type 0} (flags : List ℕ) (xs : List X) → length flags ≡ length xs → length (key_columns flags xs) ≡ count_by is_marked flags
as_many {X = X} [] xs same = refl
as_many {X = X} (flag ∷ flags) [] same = absurd (omega arith)
as_many {X = X} (zero ∷ flags) (x ∷ xs) same =
    as_many flags xs (omega arith) ∙ sym (sum_by-cons (λ (f : ℕ). cond (is_marked f) 1 0) zero flags ∙ omega arith)
as_many {X = X} (suc flag ∷ flags) (x ∷ xs) same =
    ap suc (as_many flags xs (omega arith)) ∙ sym (sum_by-cons (λ (f : ℕ). cond (is_marked f) 1 0) (suc flag) flags ∙ omega arith)

-- the next column is of the key, or it is not
pub more_kept : {X : Type 0} (flags : List ℕ) (xs : List X) (i : ℕ) (x : X) → i < length xs → x ≡ get_or xs i x → is_marked (get_or flags i 0) ≡ true → key_columns flags (take (i + 1) xs) ≡ key_columns flags (take i xs) ++ x ∷ []
more_kept {X = X} flags xs i x within x_is marked =
    columns_more flags xs i x within x_is ∙ ap (λ (l : List X). key_columns flags (take i xs) ++ l) (column_kept (get_or flags i 0) x marked)

pub more_left : {X : Type 0} (flags : List ℕ) (xs : List X) (i : ℕ) (x : X) → i < length xs → x ≡ get_or xs i x → is_marked (get_or flags i 0) ≡ false → key_columns flags (take (i + 1) xs) ≡ key_columns flags (take i xs)
more_left {X = X} flags xs i x within x_is other =
    columns_more flags xs i x within x_is ∙ ap (λ (l : List X). key_columns flags (take i xs) ++ l) (column_left (get_or flags i 0) x other) ∙ append-nil (key_columns flags (take i xs))
