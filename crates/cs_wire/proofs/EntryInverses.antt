-- An entry is determined by its images.
use Rattle.std.proofs.Common.{◌≡◌, ℕ, zero, suc, List, [], ◌∷◌, map, Option, Some, None, refl, sym, ap, ◌∙◌}
use Rattle.cs_value.specs.declared.value.OwnedValue.{OwnedValue}
use Rattle.cs_value.specs.declared.value.OwnedField.{OwnedField}
use Rattle.cs_value.specs.declared.value.OwnedField.TheVariants.{Undefined, Defined}
use Rattle.cs_value.proofs.RowImages.{same_from_fields}
use Rattle.cs_wire_entries.specs.declared.entry.Change.{Change}
use Rattle.cs_wire_entries.specs.declared.entry.Change.TheVariants.{Insert, Delete, Update}
use Rattle.cs_wire_entries.specs.Entry.{IsKeyedUpdate, IsChange, with_key, before_image, after_image}
use Rattle.cs_wire_entries.specs.Changeset.{ImageData, image_of}
use Rattle.cs_wire.specs.Laws.{EntryInverses}
use Rattle.cs_wire_entries.proofs.EntryLemmas.{same_entry}

abbrev Image : Type 0
Image = Option (List OwnedField)

abbrev some : List OwnedField → Image
some fields = Some fields

abbrev none : Image
none = None

same_some : (x y : List OwnedField) → some x ≡ some y → x ≡ y
same_some x y e = cc

no_some : (x : List OwnedField) → some x ≡ none → ⊥
no_some x e = cc

-- new records are equal that are so outside the key
same_new : (flags : List ℕ) (old m n : List OwnedField) → IsKeyedUpdate flags old m → IsKeyedUpdate flags old n → with_key flags old m ≡ with_key flags old n → m ≡ n
same_new [] [] [] [] p q e = refl
same_new [] [] (x ∷ m) n p q e = absurd p
same_new [] [] [] (y ∷ n) p q e = absurd q
same_new [] (o ∷ old) m n p q e = absurd p
same_new (flag ∷ flags) [] m n p q e = absurd p
same_new (flag ∷ flags) (o ∷ old) [] n p q e = absurd p
same_new (flag ∷ flags) (o ∷ old) (x ∷ m) [] p q e = absurd q
same_new (zero ∷ flags) (o ∷ old) (x ∷ m) (y ∷ n) p q e =
    let head : x ≡ y = cc in
    let tail : with_key flags old m ≡ with_key flags old n = cc in
    let others = same_new flags old m n p.1 q.1 tail in
    cc (head, others)
same_new (suc flag ∷ flags) (Undefined ∷ old) (x ∷ m) (y ∷ n) p q e = absurd p.0
same_new (suc flag ∷ flags) (Defined o ∷ old) (Defined x ∷ m) (y ∷ n) p q e = absurd p.0
same_new (suc flag ∷ flags) (Defined o ∷ old) (Undefined ∷ m) (Defined y ∷ n) p q e = absurd q.0
same_new (suc flag ∷ flags) (Defined o ∷ old) (Undefined ∷ m) (Undefined ∷ n) p q e =
    let tail : with_key flags old m ≡ with_key flags old n = cc in
    let others = same_new flags old m n p.1 q.1 tail in
    cc others

same_update : (flags : List ℕ) (old m other n : List OwnedField) → IsKeyedUpdate flags old m → IsKeyedUpdate flags other n → old ≡ other → with_key flags old m ≡ with_key flags other n → Update old m ≡ Update other n
same_update flags old m other n p q same e =
    let new = same_new flags old m n p (rw (← same) at q) (e ∙ ap (λ (x : List OwnedField). with_key flags x n) (sym same)) in
    cc (same, new)

-- well-formed changes with the same images are equal
same_change : (flags : List ℕ) (c d : Change) → IsChange flags c → IsChange flags d → before_image c ≡ before_image d → after_image flags c ≡ after_image flags d → c ≡ d
same_change flags (Insert r) (Insert s) p q before after = ap (λ (x : List OwnedValue). Insert x) (same_from_fields r s (same_some (map Defined r) (map Defined s) after))
same_change flags (Insert r) (Delete s) p q before after = absurd (no_some (map Defined r) after)
same_change flags (Insert r) (Update old new) p q before after = absurd (no_some old (sym before))
same_change flags (Delete r) (Insert s) p q before after = absurd (no_some (map Defined r) before)
same_change flags (Delete r) (Delete s) p q before after = ap (λ (x : List OwnedValue). Delete x) (same_from_fields r s (same_some (map Defined r) (map Defined s) before))
same_change flags (Delete r) (Update old new) p q before after = absurd (no_some (with_key flags old new) (sym after))
same_change flags (Update old new) (Insert s) p q before after = absurd (no_some old before)
same_change flags (Update old new) (Delete s) p q before after = absurd (no_some (with_key flags old new) after)
same_change flags (Update old m) (Update other n) p q before after =
    same_update flags old m other n p.2 q.2 (same_some old other before) (same_some (with_key flags old m) (with_key flags other n) after)

-- an entry has exactly one inverse
pub entry_inverses : EntryInverses
entry_inverses flags entry inverse other p q i j =
    let image : image_of flags inverse ≡ image_of flags other = i.image ∙ sym j.image in
    same_entry inverse.indirect inverse.change other (i.indirect ∙ sym j.indirect)
    (same_change flags inverse.change other.change p q (ap (λ (x : ImageData). x.before) image) (ap (λ (x : ImageData). x.after) image))
