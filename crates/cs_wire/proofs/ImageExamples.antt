-- What changes say of the row with their key, before and after, on the table of the other examples.
use Rattle.std.proofs.Common.{◌≡◌, pos, Bool, cond, [], ◌∷◌, codes, refl, ap, ◌∙◌}
use Rattle.std.specs.Prelude.{Some, None}
use Rattle.std.specs.Ordering.{nat_cmp}
use Rattle.std.specs.Cmp.Lexicographic.{slice_cmp, nat_list_cmp_total}
use Rattle.std.specs.FinMap.{get, empty, get-insert, get-empty}
use Rattle.std.proofs.lemmas.Cmp.{eq_by_cmp_equiv}
use Rattle.cs_value.specs.declared.value.OwnedValue.TheVariants.{Int}
use Rattle.cs_value.specs.declared.value.OwnedField.TheVariants.{Undefined, Defined}
use Rattle.cs_value.specs.Spelling.{field_bytes}
use Rattle.cs_value.specs.Key.{row_key, HasValues}
use Rattle.cs_value.specs.Maps.{ByBytes}
use Rattle.cs_wire_entries.specs.declared.entry.Change.{Change}
use Rattle.cs_wire_entries.specs.declared.entry.Change.TheVariants.{Insert, Delete}
use Rattle.cs_wire_entries.specs.Entry.{before_image, after_image, key_of}
use Rattle.cs_wire_entries.specs.Changeset.{ImageData, image_of, group_images, images}
use Rattle.cs_wire.proofs.Examples.{flags, direct, group, one_change, x, y, row, update, idle_update}

abbrev Images : Type 0
Images = ByBytes ImageData

-- an insertion says that there is no row, and then this one; a deletion the reverse
images_are :
    (before_image (Insert row) ≡ None)
    × (after_image flags (Insert row) ≡ Some (Defined (Int (pos 1)) ∷ Defined x ∷ []))
    × (before_image (Delete row) ≡ Some (Defined (Int (pos 1)) ∷ Defined x ∷ []))
    × (after_image flags (Delete row) ≡ None)
    -- the update of 'x' to 'y' says that the row with key 1 has 'x' before and 'y' after
    × (before_image (update x y) ≡ Some (Defined (Int (pos 1)) ∷ Defined x ∷ []))
    × (after_image flags (update x y) ≡ Some (Defined (Int (pos 1)) ∷ Defined y ∷ []))
    -- an update that modifies nothing says only that there is a row, before and after
    × (before_image idle_update ≡ Some (Defined (Int (pos 1)) ∷ Undefined ∷ []))
    × (after_image flags idle_update ≡ Some (Defined (Int (pos 1)) ∷ Undefined ∷ []))
images_are = (refl, refl, refl, refl, refl, refl, refl, refl)

-- the row (1, 'x') has what the update says of it before, and what the no-op update says, and not what is said of more
-- columns
row_has_values :
    (HasValues row (Defined (Int (pos 1)) ∷ Defined x ∷ []))
    × (HasValues row (Defined (Int (pos 1)) ∷ Undefined ∷ []))
    × (HasValues row (Defined (Int (pos 1)) ∷ Defined x ∷ Undefined ∷ []) → ⊥)
row_has_values = ((refl, (refl, tt)), (refl, tt), λ h. h.1.1)

-- the update is of the key of the row
update_key : key_of flags (update x y) ≡ row_key flags row
unfolding field_bytes
update_key = refl

-- a changeset says it under the name of the table
in_table : (change : Change) → get (images (one_change change)) (codes "t") ≡ Some (group_images (group (change ∷ [])))
in_table change = get-insert nat_list_cmp_total empty (codes "t") (group_images (group (change ∷ []))) (codes "t")

-- and there under the key
at_key : (change : Change) → get (group_images (group (change ∷ []))) (key_of flags change) ≡ Some (image_of flags (direct change))
at_key change =
    let key = key_of flags change in
    let said = image_of flags (direct change) in
    let nothing : Images = empty in
    get-insert nat_list_cmp_total nothing key said key ∙ ap (λ (b : Bool). cond b (Some said) (get nothing key)) ((eq_by_cmp_equiv nat_list_cmp_total).refl key)

-- of another table it says nothing
no_other_table : get (images (one_change (update x y))) (codes "u") ≡ None
no_other_table = get-insert nat_list_cmp_total empty (codes "t") (group_images (group (update x y ∷ []))) (codes "u") ∙ get-empty (slice_cmp nat_cmp) (codes "u")
