-- A changeset and its inverse join to nothing.
use Rattle.std.proofs.Common.{◌≡◌, ℕ, ◌<◌, Bool, true, false, List, [], ◌∷◌, length, get_or, Option, Some, None, All, refl, sym, ap, ◌∙◌, arith}
use Rattle.std.specs.Prelude.{is_none, filter, filter_map}
use Rattle.std.specs.List.{AllByRecursion, AllZip}
use Rattle.std.specs.Cmp.Lexicographic.{pointwise}
use Rattle.std.proofs.lemmas.List.Elements.{All-head, All-tail, AllZip-get_or, length_all_zip, recursion_from_All}
use Rattle.cs_value.specs.declared.value.OwnedField.{OwnedField}
use Rattle.cs_wire_entries.specs.declared.entry.Entry.{Entry}
use Rattle.cs_wire.specs.Entry.{before_image, after_image}
use Rattle.cs_wire.specs.Changeset.{GroupData, ImageData, IsGroup}
use Rattle.cs_wire.specs.Inverse.{IsInverseEntry, IsInverseGroup}
use Rattle.cs_group.specs.Inverse.{IsInverse, InverseJoins}
use Rattle.cs_group.specs.Net.{is_same, net_between}
use Rattle.cs_group.specs.Joining.{known, is_alike, merged, left_of, entry_key, table_name, is_new, outcome, joined_by, joined_entry, some_group, joined_group}
use Rattle.cs_group.proofs.ImageLemmas.{same_itself}
use Rattle.cs_group.proofs.TextLemmas.{Once, with_text-at}

-- ---- two entries

-- an image, or none, is like itself
alike_itself : (image : Option (List OwnedField)) → is_alike image image ≡ true
alike_itself None = refl
alike_itself (Some image) = refl

images_same : (image : List OwnedField) → pointwise is_same image image ≡ true
images_same [] = refl
images_same (f ∷ image) = rw (same_itself f) (images_same image)

-- there is no change from an image to itself
no_change : (flags : List ℕ) (image : Option (List OwnedField)) → net_between flags image image ≡ None
no_change flags None = refl
no_change flags (Some image) = rw (images_same image) refl

-- nothing becomes of an entry and its inverse
entry_vanishes : (flags : List ℕ) (entry inverse : Entry) → IsInverseEntry flags entry inverse → left_of entry (merged flags entry inverse) ≡ None
entry_vanishes flags entry inverse is =
    let before : before_image inverse.change ≡ after_image flags entry.change = ap (λ (image : ImageData). image.before) is.image in
    let after : after_image flags inverse.change ≡ before_image entry.change = ap (λ (image : ImageData). image.after) is.image in
    let image = known (before_image entry.change) (after_image flags entry.change) in
    rw (before, after, alike_itself (after_image flags entry.change), no_change flags image) refl

-- ---- two lists

-- nothing is left where nothing is left of each
filter_map-nothing : {X Y : Type 0} (h : X → Option Y) (xs : List X) → All (λ x. h x ≡ None) xs → filter_map h xs ≡ []
filter_map-nothing h [] each = refl
filter_map-nothing h (x ∷ xs) each = rw (All-head (λ x. h x ≡ None) x xs each) (filter_map-nothing h xs (All-tail (λ x. h x ≡ None) x xs each))

filter-nothing : {X : Type 0} (p : X → Bool) (xs : List X) → All (λ x. p x ≡ false) xs → filter p xs ≡ []
filter-nothing p [] each = refl
filter-nothing p (x ∷ xs) each = rw (All-head (λ x. p x ≡ false) x xs each) (filter-nothing p xs (All-tail (λ x. p x ≡ false) x xs each))

module _ {X : Type 0} (text_of : X → List ℕ) (join : X → Option X → Option X) where
  -- the two have one text, and nothing becomes of the first with the second
  abbrev Vanish : X → X → Type 0
  Vanish x y = (text_of y ≡ text_of x) × (join x (Some y) ≡ None)

  -- nothing becomes of the first of two lists of such things
  each-vanishes : (first second : List X) → Once text_of second → AllZip Vanish first second → All (λ x. outcome text_of join second x ≡ None) first
  each-vanishes first second once zip k d lt =
      let x = get_or first k d in
      let pair = AllZip-get_or Vanish first second k d d zip lt in
      ap (join x) (with_text-at text_of second (text_of x) k d once (omega (arith, length_all_zip Vanish first second zip)) pair.0) ∙ pair.1

  -- nothing of the second is new
  none-new : (first second : List X) → Once text_of first → AllZip Vanish first second → All (λ y. is_new text_of first y ≡ false) second
  none-new first second once zip k d lt =
      let within : k < length first = omega (arith, length_all_zip Vanish first second zip) in
      let y = get_or second k d in
      let pair = AllZip-get_or Vanish first second k d d zip within in
      ap is_none (with_text-at text_of first (text_of y) k d once within (sym pair.0))

  -- and so they join to nothing
  joined-nothing : (first second : List X) → Once text_of first → Once text_of second → AllZip Vanish first second → joined_by text_of join first second ≡ []
  joined-nothing first second once also zip =
      rw (
        filter_map-nothing (outcome text_of join second) first (each-vanishes first second also zip),
        filter-nothing (is_new text_of first) second (none-new first second once zip),
      ) refl

-- ---- two groups

entries_vanish : (flags : List ℕ) (es is : List Entry) → AllZip (IsInverseEntry flags) es is → AllZip (Vanish (entry_key flags) (joined_entry flags)) es is
entries_vanish flags [] [] h = tt
entries_vanish flags [] (i ∷ is) h = absurd h
entries_vanish flags (e ∷ es) [] h = absurd h
entries_vanish flags (e ∷ es) (i ∷ is) h = ((h.0.key, entry_vanishes flags e i h.0), entries_vanish flags es is h.1)

-- nothing is left of a group and its inverse
group_vanishes : (group inverse : GroupData) → IsGroup group → IsGroup inverse → IsInverseGroup group inverse → joined_group group (Some inverse) ≡ None
group_vanishes group inverse p q is =
    let flags = group.header.flags in
    let also : Once (entry_key flags) inverse.entries = rw is.header at q.once in
    ap (some_group group.header) (joined-nothing (entry_key flags) (joined_entry flags) group.entries inverse.entries p.once also (entries_vanish flags group.entries inverse.entries is.entries))

-- ---- two changesets

groups_vanish : (groups inverse : List GroupData) → AllByRecursion IsGroup groups → AllByRecursion IsGroup inverse → IsInverse groups inverse → AllZip (Vanish table_name joined_group) groups inverse
groups_vanish [] [] p q h = tt
groups_vanish [] (i ∷ is) p q h = absurd h
groups_vanish (g ∷ gs) [] p q h = absurd h
groups_vanish (g ∷ gs) (i ∷ is) p q h = ((ap (λ h. h.name) h.0.header, group_vanishes g i p.0 q.0 h.0), groups_vanish gs is p.1 q.1 h.1)

pub inverse_joins : InverseJoins
inverse_joins changeset inverse join p q is joins =
    joins.is_joined
    ∙ joined-nothing table_name joined_group changeset inverse p.once q.once
    (groups_vanish changeset inverse (recursion_from_All IsGroup changeset p.each) (recursion_from_All IsGroup inverse q.each) is)
