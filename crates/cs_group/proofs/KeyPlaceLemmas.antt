-- Flags that mark the same columns: what fits the one fits the other, with the same key.
use Rattle.std.proofs.Common.{◌≡◌, ℕ, zero, suc, ◌<◌, true, false, true≢false, Bool, not, List, [], ◌∷◌, length, get_or, Option, None, Some, refl, sym, ap, ◌∙◌, arith}
use Rattle.std.specs.Prelude.{IfSome}
use Rattle.std.specs.List.{flat_map}
use Rattle.std.proofs.Math.Bool.{beq}
use Rattle.cs_value.specs.declared.value.OwnedValue.{OwnedValue}
use Rattle.cs_value.specs.declared.value.OwnedField.{OwnedField}
use Rattle.cs_value.specs.Spelling.{value_bytes, field_bytes}
use Rattle.cs_value.specs.Table.{IsKeyedRow}
use Rattle.cs_value.specs.Value.{IsRow}
use Rattle.cs_value.specs.Key.{key_columns, row_key}
use Rattle.cs_value.specs.State.{SchemaData, IsRowAt}
use Rattle.cs_wire_entries.specs.declared.entry.Change.{Change}
use Rattle.cs_wire_entries.specs.declared.entry.Change.TheVariants.{Insert, Delete, Update}
use Rattle.cs_wire.specs.Entry.{IsKeyedUpdate, IsChange, with_key, after_image, key_of}
use Rattle.cs_group.specs.Net.{by_flag}
use Rattle.cs_group.specs.Joining.{key_marks}

key_columns_same : {X : Type 0} (f g : List ℕ) (xs : List X) → key_marks f ≡ key_marks g → key_columns f xs ≡ key_columns g xs
key_columns_same [] [] xs e = refl
key_columns_same [] (b ∷ g) xs e = absurd cc
key_columns_same (a ∷ f) [] xs e = absurd cc
key_columns_same (a ∷ f) (b ∷ g) [] e = refl
key_columns_same (zero ∷ f) (zero ∷ g) (x ∷ xs) e = let rest : key_marks f ≡ key_marks g = cc in key_columns_same f g xs rest
key_columns_same {X} (suc a ∷ f) (suc b ∷ g) (x ∷ xs) e = let rest : key_marks f ≡ key_marks g = cc in ap (λ (k : List X). x ∷ k) (key_columns_same f g xs rest)
key_columns_same (zero ∷ f) (suc b ∷ g) (x ∷ xs) e = absurd cc
key_columns_same (suc a ∷ f) (zero ∷ g) (x ∷ xs) e = absurd cc

pub key_of_same : (f g : List ℕ) (change : Change) → key_marks f ≡ key_marks g → key_of f change ≡ key_of g change
key_of_same f g (Insert row) e = ap (flat_map value_bytes) (key_columns_same f g row e)
key_of_same f g (Delete row) e = ap (flat_map value_bytes) (key_columns_same f g row e)
key_of_same f g (Update old new) e = ap (flat_map field_bytes) (key_columns_same f g old e)

row_fits : (f g : List ℕ) (row : List OwnedValue) → key_marks f ≡ key_marks g → IsKeyedRow f row → IsKeyedRow g row
row_fits [] [] row e h = h
row_fits [] (b ∷ g) row e h = absurd cc
row_fits (a ∷ f) [] row e h = absurd cc
row_fits (a ∷ f) (b ∷ g) [] e h = absurd h
row_fits (zero ∷ f) (zero ∷ g) (v ∷ row) e h = let rest : key_marks f ≡ key_marks g = cc in row_fits f g row rest h
row_fits (suc a ∷ f) (suc b ∷ g) (v ∷ row) e h = let rest : key_marks f ≡ key_marks g = cc in (h.0, row_fits f g row rest h.1)
row_fits (zero ∷ f) (suc b ∷ g) (v ∷ row) e h = absurd cc
row_fits (suc a ∷ f) (zero ∷ g) (v ∷ row) e h = absurd cc

update_fits : (f g : List ℕ) (old new : List OwnedField) → key_marks f ≡ key_marks g → IsKeyedUpdate f old new → IsKeyedUpdate g old new
update_fits [] [] old new e h = h
update_fits [] (b ∷ g) old new e h = absurd cc
update_fits (a ∷ f) [] old new e h = absurd cc
update_fits (a ∷ f) (b ∷ g) [] new e h = absurd h
update_fits (a ∷ f) (b ∷ g) (o ∷ old) [] e h = absurd h
update_fits (zero ∷ f) (zero ∷ g) (o ∷ old) (n ∷ new) e h = let rest : key_marks f ≡ key_marks g = cc in (h.0, update_fits f g old new rest h.1)
update_fits (suc a ∷ f) (suc b ∷ g) (o ∷ old) (n ∷ new) e h = let rest : key_marks f ≡ key_marks g = cc in (h.0, update_fits f g old new rest h.1)
update_fits (zero ∷ f) (suc b ∷ g) (o ∷ old) (n ∷ new) e h = absurd cc
update_fits (suc a ∷ f) (zero ∷ g) (o ∷ old) (n ∷ new) e h = absurd cc

pub fits_same : (f g : List ℕ) (change : Change) → key_marks f ≡ key_marks g → IsChange f change → IsChange g change
fits_same f g (Insert row) e h = (h.0, row_fits f g row e h.1)
fits_same f g (Delete row) e h = (h.0, row_fits f g row e h.1)
fits_same f g (Update old new) e h = (h.0, h.1, update_fits f g old new e h.2)

with_key_same : (f g : List ℕ) (old new : List OwnedField) → key_marks f ≡ key_marks g → with_key f old new ≡ with_key g old new
with_key_same [] [] old new e = refl
with_key_same [] (b ∷ g) old new e = absurd cc
with_key_same (a ∷ f) [] old new e = absurd cc
with_key_same (a ∷ f) (b ∷ g) [] new e = refl
with_key_same (a ∷ f) (b ∷ g) (o ∷ old) [] e = refl
with_key_same (zero ∷ f) (zero ∷ g) (o ∷ old) (n ∷ new) e = let rest : key_marks f ≡ key_marks g = cc in ap (λ (l : List OwnedField). n ∷ l) (with_key_same f g old new rest)
with_key_same (suc a ∷ f) (suc b ∷ g) (o ∷ old) (n ∷ new) e = let rest : key_marks f ≡ key_marks g = cc in ap (λ (l : List OwnedField). o ∷ l) (with_key_same f g old new rest)
with_key_same (zero ∷ f) (suc b ∷ g) (o ∷ old) (n ∷ new) e = absurd cc
with_key_same (suc a ∷ f) (zero ∷ g) (o ∷ old) (n ∷ new) e = absurd cc

-- what is said of the row after a change
pub after_image_same : (f g : List ℕ) (change : Change) → key_marks f ≡ key_marks g → after_image f change ≡ after_image g change
after_image_same f g (Insert row) e = refl
after_image_same f g (Delete row) e = refl
after_image_same f g (Update old new) e = ap (λ (l : List OwnedField). Some l) (with_key_same f g old new e)

-- a row that changes under these flags can be of, and its key
pub record IsRowUnder (flags key : List ℕ) (row : List OwnedValue) : Type 0 where
  pub values : IsRow row
  pub keyed : IsKeyedRow flags row
  pub own : key ≡ row_key flags row

-- a row in a table is one
pub row_under : (schema : SchemaData) (key : List ℕ) (row : Option (List OwnedValue)) → IfSome row (IsRowAt schema key) → IfSome row (IsRowUnder schema.flags key)
row_under schema key None is = tt
row_under schema key (Some row) is = record { values = is.values; keyed = is.keyed; own = is.own }

-- and is one under flags with the same key marks
pub row_under_same : (f g key : List ℕ) (row : List OwnedValue) → key_marks f ≡ key_marks g → IsRowUnder f key row → IsRowUnder g key row
row_under_same f g key row e is = record {
  values = is.values;
  keyed = row_fits f g row e is.keyed;
  own = is.own ∙ key_of_same f g (Insert row) e;
}

-- in each column
pub key_place_at : (f g : List ℕ) (i : ℕ) → key_marks f ≡ key_marks g → i < length f → i < length g → by_flag (get_or f i 0) false true ≡ by_flag (get_or g i 0) false true
key_place_at [] g i e l m = absurd (omega arith)
key_place_at (a ∷ f) [] i e l m = absurd (omega arith)
key_place_at (a ∷ f) (b ∷ g) zero e l m = cc
key_place_at (a ∷ f) (b ∷ g) (suc i) e l m = let rest : key_marks f ≡ key_marks g = cc in key_place_at f g i rest (omega arith) (omega arith)

-- answers that differ are not one
pub differ : (x y : Bool) → not (beq x y) ≡ true → x ≡ y → ⊥
differ true true h e = true≢false (sym h)
differ false false h e = true≢false (sym h)
differ true false h e = true≢false e
differ false true h e = true≢false (sym e)
