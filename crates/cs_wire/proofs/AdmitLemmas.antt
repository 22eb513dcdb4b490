-- Updates that fit the flags of their table, by their columns.
use Rattle.std.proofs.Common.{◌≡◌, ℕ, zero, suc, ◌<◌, List, [], ◌∷◌, length, get_or, arith}
use Rattle.cs_value.specs.declared.value.OwnedField.{OwnedField}
use Rattle.cs_value.specs.declared.value.OwnedField.TheVariants.{Undefined}
use Rattle.cs_value.specs.Value.{IsField, IsRecord}
use Rattle.cs_wire_entries.specs.Entry.{IsKeyedUpdate}

-- the update of this single column fits its flag
pub record IsUpdateColumn (flags : List ℕ) (old new : List OwnedField) (column : ℕ) : Type 0 where
  pub is_old : IsField (get_or old column Undefined)
  pub is_new : IsField (get_or new column Undefined)
  pub keyed : IsKeyedUpdate (get_or flags column 0 ∷ []) (get_or old column Undefined ∷ []) (get_or new column Undefined ∷ [])

update_cons : (flag : ℕ) (o n : OwnedField) (flags : List ℕ) (old new : List OwnedField) → IsKeyedUpdate (flag ∷ []) (o ∷ []) (n ∷ []) → IsKeyedUpdate flags old new
    → IsKeyedUpdate (flag ∷ flags) (o ∷ old) (n ∷ new)
update_cons zero o n flags old new one others = (one.0, others)
update_cons (suc flag) o n flags old new one others = (one.0, others)

-- an update whose columns fit their flags fits the flags
pub update_of_columns : (flags : List ℕ) (old new : List OwnedField) → length flags ≡ length old → length flags ≡ length new
    → ((k : ℕ) → k < length flags → IsUpdateColumn flags old new k) → IsRecord old × IsRecord new × IsKeyedUpdate flags old new
update_of_columns [] [] [] p q each = (tt, tt, tt)
update_of_columns [] (o ∷ old) new p q each = absurd (omega arith)
update_of_columns [] [] (n ∷ new) p q each = absurd (omega arith)
update_of_columns (flag ∷ flags) [] new p q each = absurd (omega arith)
update_of_columns (flag ∷ flags) (o ∷ old) [] p q each = absurd (omega arith)
update_of_columns (flag ∷ flags) (o ∷ old) (n ∷ new) p q each =
    let first = each 0 (omega arith) in
    let next : (k : ℕ) → k < length flags → IsUpdateColumn flags old new k = λ k lt.
    let column = each (suc k) (omega arith) in
    record { is_old = column.is_old; is_new = column.is_new; keyed = column.keyed } in
    let others = update_of_columns flags old new (omega arith) (omega arith) next in
    ((first.is_old, others.0), (first.is_new, others.1), update_cons flag o n flags old new first.keyed others.2)

-- and the other way round
pub update_column : (flags : List ℕ) (old new : List OwnedField) (k : ℕ) → IsKeyedUpdate flags old new → k < length flags
    → IsKeyedUpdate (get_or flags k 0 ∷ []) (get_or old k Undefined ∷ []) (get_or new k Undefined ∷ [])
update_column [] old new k h lt = absurd (omega arith)
update_column (zero ∷ flags) [] new k h lt = absurd h
update_column (suc flag ∷ flags) [] new k h lt = absurd h
update_column (zero ∷ flags) (o ∷ old) [] k h lt = absurd h
update_column (suc flag ∷ flags) (o ∷ old) [] k h lt = absurd h
update_column (zero ∷ flags) (o ∷ old) (n ∷ new) zero h lt = (h.0, tt)
update_column (suc flag ∷ flags) (o ∷ old) (n ∷ new) zero h lt = (h.0, tt)
update_column (zero ∷ flags) (o ∷ old) (n ∷ new) (suc k) h lt = update_column flags old new k h.1 (omega arith)
update_column (suc flag ∷ flags) (o ∷ old) (n ∷ new) (suc k) h lt = update_column flags old new k h.1 (omega arith)
