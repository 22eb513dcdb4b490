-- Images that borrow their fields, as contracts see them.
use Rattle.std.specs.Prelude.{◌≡◌, ℕ, List, length, map, Vec, Option, option_map}
use Rattle.std.specs.List.{AllByRecursion}
use Rattle.std.specs.Borrow.{Bor}
use Rattle.cs_value.specs.declared.value.Field.{Field}
use Rattle.cs_value.specs.declared.value.OwnedField.{OwnedField}
use Rattle.cs_value.specs.Value.{field_of, FieldFits}

-- a field for each flag, with no content too long
pub record IsImage (flags : List ℕ) (fields : List Field) : Type 0 where
  pub width : length flags ≡ length fields
  pub short : AllByRecursion FieldFits fields

-- what lent fields say of a row, or that there is none
abbrev pub lent_image : Option (Bor (List Field)) → Option (List OwnedField)
lent_image fields = option_map (λ f. map field_of f.now) fields

abbrev pub image_in : {Z : Type 0} → Option (Vec Field Z) → Option (List OwnedField)
image_in fields = option_map (λ f. map field_of f.items) fields
