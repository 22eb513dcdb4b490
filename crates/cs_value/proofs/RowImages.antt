-- Rows as images without an undefined field: their bytes, that they are records, and which row each is of.
use Rattle.std.proofs.Common.{◌≡◌, ℕ, List, [], ◌∷◌, ◌++◌, map, refl, ap}
use Rattle.cs_value.specs.declared.value.OwnedValue.{OwnedValue}
use Rattle.cs_value.specs.declared.value.OwnedField.TheVariants.{Defined}
use Rattle.cs_value.specs.Value.{IsField, IsRow, IsRecord}
use Rattle.cs_value.specs.Spelling.{field_bytes, record_bytes, row_bytes}
use Rattle.cs_value.proofs.ListLemmas.{AllByRecursion-map}

-- values are spelled as the fields that they are
pub record_bytes-map : (values : List OwnedValue) → record_bytes (map Defined values) ≡ row_bytes values
unfolding field_bytes
record_bytes-map [] = refl
record_bytes-map (v ∷ values) = ap (λ (bytes : List ℕ). field_bytes (Defined v) ++ bytes) (record_bytes-map values)

pub IsRecord-map : (values : List OwnedValue) → IsRow values → IsRecord (map Defined values)
IsRecord-map values each = AllByRecursion-map IsField Defined values each

pub IsRow-map : (values : List OwnedValue) → IsRecord (map Defined values) → IsRow values
IsRow-map [] each = tt
IsRow-map (v ∷ values) each = (each.0, IsRow-map values each.1)

-- rows with equal fields are equal
pub same_from_fields : (values others : List OwnedValue) → map Defined values ≡ map Defined others → values ≡ others
same_from_fields [] [] e = refl
same_from_fields [] (w ∷ others) e = absurd cc
same_from_fields (v ∷ values) [] e = absurd cc
same_from_fields (v ∷ values) (w ∷ others) e =
    let head : v ≡ w = cc in
    let tail : map Defined values ≡ map Defined others = cc in
    let rest = same_from_fields values others tail in
    cc (head, rest)
