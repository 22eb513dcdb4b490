-- The keys of rows: what distinguishes the rows of a table.
use Rattle.std.specs.Prelude.{◌≡◌, ℕ, zero, suc, List, [], ◌∷◌}
use Rattle.cs_value.specs.declared.value.OwnedValue.{OwnedValue}
use Rattle.cs_value.specs.declared.value.OwnedField.{OwnedField}
use Rattle.cs_value.specs.declared.value.OwnedField.TheVariants.{Undefined, Defined}
use Rattle.cs_value.specs.Spelling.{row_bytes, record_bytes}

-- the values of the key columns, in column order: those with a flag other than 0
abbrev pub key_columns : {X : Type 0} → List ℕ → List X → List X
key_columns [] xs = []
key_columns (flag ∷ flags) [] = []
key_columns (zero ∷ flags) (x ∷ xs) = key_columns flags xs
key_columns (suc flag ∷ flags) (x ∷ xs) = x ∷ key_columns flags xs

-- the key of a row: the bytes of the values in its key columns
abbrev pub row_key : List ℕ → List OwnedValue → List ℕ
row_key flags row = row_bytes (key_columns flags row)

-- the key of an image: the bytes of the fields in its key columns
abbrev pub image_key : List ℕ → List OwnedField → List ℕ
image_key flags image = record_bytes (key_columns flags image)

-- the row has the values of the image's defined columns
abbrev pub HasValues : List OwnedValue → List OwnedField → Type 0
HasValues [] [] = Unit {0}
HasValues (value ∷ row) (Undefined ∷ image) = HasValues row image
HasValues (value ∷ row) (Defined v ∷ image) = (value ≡ v) × HasValues row image
HasValues [] (f ∷ image) = ⊥
HasValues (value ∷ row) [] = ⊥
