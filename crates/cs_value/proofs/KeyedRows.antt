-- Rows that fit the flags of their table, by their columns.
use Rattle.std.proofs.Common.{◌≡◌, ℕ, zero, suc, ◌<◌, List, [], ◌∷◌, length, get_or, refl, ap, arith}
use Rattle.cs_value.specs.declared.value.OwnedValue.{OwnedValue}
use Rattle.cs_value.specs.declared.value.OwnedValue.TheVariants.{Null}
use Rattle.cs_value.specs.Table.{IsKeyedRow}

pub length-IsKeyedRow : (flags : List ℕ) (row : List OwnedValue) → IsKeyedRow flags row → length flags ≡ length row
length-IsKeyedRow [] [] h = refl
length-IsKeyedRow (zero ∷ flags) (v ∷ row) h = ap suc (length-IsKeyedRow flags row h)
length-IsKeyedRow (suc f ∷ flags) (v ∷ row) h = ap suc (length-IsKeyedRow flags row h.1)
length-IsKeyedRow [] (v ∷ row) h = absurd h
length-IsKeyedRow (f ∷ flags) [] h = absurd h

-- the row of this single column fits its flag
abbrev pub IsKeyedColumn : List ℕ → List OwnedValue → ℕ → Type 0
IsKeyedColumn flags row column = IsKeyedRow (get_or flags column 0 ∷ []) (get_or row column Null ∷ [])

row_cons : (flag : ℕ) (value : OwnedValue) (flags : List ℕ) (row : List OwnedValue) → IsKeyedRow (flag ∷ []) (value ∷ []) → IsKeyedRow flags row → IsKeyedRow (flag ∷ flags) (value ∷ row)
row_cons zero value flags row one others = others
row_cons (suc flag) value flags row one others = (one.0, others)

-- a row whose columns fit their flags fits the flags
pub row_of_columns : (flags : List ℕ) (row : List OwnedValue) → length flags ≡ length row → ((k : ℕ) → k < length flags → IsKeyedColumn flags row k) → IsKeyedRow flags row
row_of_columns [] [] same each = tt
row_of_columns [] (value ∷ row) same each = absurd (omega arith)
row_of_columns (flag ∷ flags) [] same each = absurd (omega arith)
row_of_columns (flag ∷ flags) (value ∷ row) same each =
    row_cons flag value flags row (each 0 (omega arith)) (row_of_columns flags row (omega arith) (λ k lt. each (suc k) (omega arith)))

-- and the other way round
pub row_column : (flags : List ℕ) (row : List OwnedValue) (k : ℕ) → IsKeyedRow flags row → k < length flags → IsKeyedRow (get_or flags k 0 ∷ []) (get_or row k Null ∷ [])
row_column [] row k h lt = absurd (omega arith)
row_column (zero ∷ flags) [] k h lt = absurd h
row_column (suc flag ∷ flags) [] k h lt = absurd h
row_column (zero ∷ flags) (value ∷ row) zero h lt = tt
row_column (suc flag ∷ flags) (value ∷ row) zero h lt = (h.0, tt)
row_column (zero ∷ flags) (value ∷ row) (suc k) h lt = row_column flags row k h (omega arith)
row_column (suc flag ∷ flags) (value ∷ row) (suc k) h lt = row_column flags row k h.1 (omega arith)
