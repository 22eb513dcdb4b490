-- The key of an entry is that of the rows before and after it.
use Rattle.std.proofs.Common.{◌≡◌, ℕ, zero, suc, List, [], ◌∷◌, ◌++◌, map, refl, sym, ap, ◌∙◌}
use Rattle.cs_value.specs.declared.value.OwnedValue.{OwnedValue}
use Rattle.cs_value.specs.declared.value.OwnedField.{OwnedField}
use Rattle.cs_value.specs.declared.value.OwnedField.TheVariants.{Undefined, Defined}
use Rattle.cs_value.specs.Spelling.{field_bytes}
use Rattle.cs_value.specs.Key.{row_key, image_key, HasValues}
use Rattle.cs_wire_entries.specs.declared.entry.Change.TheVariants.{Insert, Delete, Update}
use Rattle.cs_wire.specs.Laws.{RowKeys}
use Rattle.cs_wire_entries.specs.Entry.{IsKeyedUpdate, with_key}

-- a row that has the values of a whole row is that row
same_row : (row whole : List OwnedValue) → HasValues row (map Defined whole) → row ≡ whole
same_row [] [] h = refl
same_row [] (w ∷ whole) h = absurd h
same_row (v ∷ row) [] h = absurd h
same_row (v ∷ row) (w ∷ whole) h = cc (h.0, same_row row whole h.1)

-- the key of a row that has the values of an old record is the record's
old_key : (flags : List ℕ) (old new : List OwnedField) (row : List OwnedValue) → IsKeyedUpdate flags old new → HasValues row old → image_key flags old ≡ row_key flags row
unfolding field_bytes
old_key [] old new row is h = refl
old_key (flag ∷ flags) [] new row is h = absurd is
old_key (flag ∷ flags) (o ∷ old) [] row is h = absurd is
old_key (flag ∷ flags) (o ∷ old) (n ∷ new) [] is h = absurd h
old_key (zero ∷ flags) (Undefined ∷ old) (n ∷ new) (v ∷ row) is h = old_key flags old new row is.1 h
old_key (zero ∷ flags) (Defined w ∷ old) (n ∷ new) (v ∷ row) is h = old_key flags old new row is.1 h.1
old_key (suc flag ∷ flags) (Undefined ∷ old) (n ∷ new) (v ∷ row) is h = absurd is.0
old_key (suc flag ∷ flags) (Defined w ∷ old) (n ∷ new) (v ∷ row) is h =
    ap (λ (x : List ℕ). field_bytes (Defined w) ++ x) (old_key flags old new row is.1 h.1) ∙ ap (λ (x : OwnedValue). field_bytes (Defined x) ++ row_key flags row) (sym h.0)

-- and so is that of a row that has the values of the new record, with the key of the old one
new_key : (flags : List ℕ) (old new : List OwnedField) (row : List OwnedValue) → IsKeyedUpdate flags old new → HasValues row (with_key flags old new) → image_key flags old ≡ row_key flags row
unfolding field_bytes
new_key [] [] [] row is h = refl
new_key [] [] (n ∷ new) row is h = absurd is
new_key [] (o ∷ old) new row is h = absurd is
new_key (flag ∷ flags) [] new row is h = absurd is
new_key (flag ∷ flags) (o ∷ old) [] row is h = absurd is
new_key (zero ∷ flags) (o ∷ old) (n ∷ new) [] is h = absurd h
new_key (suc flag ∷ flags) (o ∷ old) (n ∷ new) [] is h = absurd h
new_key (zero ∷ flags) (o ∷ old) (Undefined ∷ new) (v ∷ row) is h = new_key flags old new row is.1 h
new_key (zero ∷ flags) (o ∷ old) (Defined w ∷ new) (v ∷ row) is h = new_key flags old new row is.1 h.1
new_key (suc flag ∷ flags) (Undefined ∷ old) (n ∷ new) (v ∷ row) is h = absurd is.0
new_key (suc flag ∷ flags) (Defined w ∷ old) (n ∷ new) (v ∷ row) is h =
    ap (λ (x : List ℕ). field_bytes (Defined w) ++ x) (new_key flags old new row is.1 h.1) ∙ ap (λ (x : OwnedValue). field_bytes (Defined x) ++ row_key flags row) (sym h.0)

-- a row that a change finds, or leaves, has the key of the change
pub row_keys : RowKeys
row_keys flags (Insert whole) row is = (λ h. absurd h, λ h. ap (row_key flags) (same_row row whole h))
row_keys flags (Delete whole) row is = (λ h. ap (row_key flags) (same_row row whole h), λ h. absurd h)
row_keys flags (Update old new) row is = (λ h. sym (old_key flags old new row is.2 h), λ h. sym (new_key flags old new row is.2 h))
