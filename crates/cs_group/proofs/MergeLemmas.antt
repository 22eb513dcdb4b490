-- What two entries of one key make together fits the flags, and has their key.
use Rattle.std.proofs.Common.{◌≡◌, ◌≢◌, ℕ, zero, suc, Bool, true, false, true≢false, if◌then◌else◌, List, [], ◌∷◌, ◌++◌, length, map, Option, Some, None, refl, sym, ap, ◌∙◌, arith}
use Rattle.std.specs.Prelude.{IfSome, ◌&&◌}
use Rattle.std.specs.Cmp.Lexicographic.{pointwise}
use Rattle.cs_value.specs.declared.value.OwnedValue.{OwnedValue}
use Rattle.cs_value.specs.declared.value.OwnedValue.TheVariants.{Null}
use Rattle.cs_value.specs.declared.value.OwnedField.{OwnedField}
use Rattle.cs_value.specs.declared.value.OwnedField.TheVariants.{Undefined, Defined}
use Rattle.cs_value.specs.Value.{IsField, IsRecord, IsRow}
use Rattle.cs_value.specs.Table.{IsKeyedRow}
use Rattle.cs_value.specs.Spelling.{field_bytes}
use Rattle.cs_value.specs.Key.{row_key, image_key}
use Rattle.cs_value.proofs.RowImages.{IsRecord-map}
use Rattle.cs_wire_entries.specs.declared.entry.Change.{Change}
use Rattle.cs_wire_entries.specs.declared.entry.Change.TheVariants.{Insert, Delete, Update}
use Rattle.cs_wire_entries.specs.declared.entry.Entry.{Entry}
use Rattle.cs_wire.specs.Entry.{IsPaired, IsKeyPair, IsKeyedUpdate, IsChange, IsEntry, with_key, key_of}
use Rattle.cs_wire_entries.proofs.InverseLemmas.{IsRecord-with_key}
use Rattle.cs_group.specs.Net.{is_same, old_record, new_record, values_of, net_between, net_change}
use Rattle.cs_value.proofs.KeyedRows.{length-IsKeyedRow}
use Rattle.cs_wire_entries.proofs.EntryLemmas.{length-IsKeyedUpdate}
use Rattle.cs_group.specs.declared.merging.Merged.{Merged}
use Rattle.cs_group.specs.declared.merging.Merged.TheVariants.{Keep}
use Rattle.cs_group.specs.Joining.{over, laid_over, joint_image, follows, becomes, merged, IfBecomes, FitsKey}

-- ---- images of a table

abbrev pub IsKeyValue : OwnedField → Type 0
IsKeyValue Undefined = ⊥
IsKeyValue (Defined v) = v ≢ Null

-- the image has the values of the key
abbrev IsKeyed : List ℕ → List OwnedField → Type 0
IsKeyed [] [] = Unit {0}
IsKeyed [] (f ∷ image) = ⊥
IsKeyed (flag ∷ flags) [] = ⊥
IsKeyed (zero ∷ flags) (f ∷ image) = IsKeyed flags image
IsKeyed (suc flag ∷ flags) (f ∷ image) = IsKeyValue f × IsKeyed flags image

-- two images of one width, the first with the values of the key, which know the same columns outside of it
abbrev pub ArePaired : List ℕ → List OwnedField → List OwnedField → Type 0
ArePaired [] [] [] = Unit {0}
ArePaired [] [] (a ∷ after) = ⊥
ArePaired [] (b ∷ before) after = ⊥
ArePaired (flag ∷ flags) [] after = ⊥
ArePaired (flag ∷ flags) (b ∷ before) [] = ⊥
ArePaired (zero ∷ flags) (b ∷ before) (a ∷ after) = IsPaired b a × ArePaired flags before after
ArePaired (suc flag ∷ flags) (b ∷ before) (a ∷ after) = IsKeyValue b × ArePaired flags before after

-- ---- the update between two images

unless : (s : Bool) (b a : OwnedField) → IsPaired b a → IsPaired (if s then Undefined else b) (if s then Undefined else a)
unless true b a h = tt
unless false b a h = h

field_unless : (s : Bool) (f : OwnedField) → IsField f → IsField (if s then Undefined else f)
field_unless true f h = tt
field_unless false f h = h

key_pair : (b : OwnedField) → IsKeyValue b → IsKeyPair b Undefined
key_pair Undefined h = h
key_pair (Defined v) h = h

-- it is one
pub update_is : (flags : List ℕ) (before after : List OwnedField) → IsRecord before → IsRecord after → ArePaired flags before after
    → IsRecord (old_record flags before after) × IsRecord (new_record flags before after) × IsKeyedUpdate flags (old_record flags before after) (new_record flags before after)
update_is [] [] [] p q h = (tt, tt, tt)
update_is [] [] (a ∷ after) p q h = absurd h
update_is [] (b ∷ before) after p q h = absurd h
update_is (flag ∷ flags) [] after p q h = absurd h
update_is (flag ∷ flags) (b ∷ before) [] p q h = absurd h
update_is (zero ∷ flags) (b ∷ before) (a ∷ after) p q h =
    let others = update_is flags before after p.1 q.1 h.1 in
    ((field_unless (is_same b a) b p.0, others.0), (field_unless (is_same b a) a q.0, others.1), (unless (is_same b a) b a h.0, others.2))
update_is (suc flag ∷ flags) (b ∷ before) (a ∷ after) p q h =
    let others = update_is flags before after p.1 q.1 h.1 in
    ((p.0, others.0), (tt, others.1), (key_pair b h.0, others.2))

-- of the key of the first
pub update_key : (flags : List ℕ) (before after : List OwnedField) → ArePaired flags before after → image_key flags (old_record flags before after) ≡ image_key flags before
update_key [] [] [] h = refl
update_key [] [] (a ∷ after) h = absurd h
update_key [] (b ∷ before) after h = absurd h
update_key (flag ∷ flags) [] after h = absurd h
update_key (flag ∷ flags) (b ∷ before) [] h = absurd h
update_key (zero ∷ flags) (b ∷ before) (a ∷ after) h = update_key flags before after h.1
update_key (suc flag ∷ flags) (b ∷ before) (a ∷ after) h = ap (λ (key : List ℕ). field_bytes b ++ key) (update_key flags before after h.1)

-- ---- an image laid over a row

row_is : (flags : List ℕ) (image : List OwnedField) (row : List OwnedValue) → IsRecord image → IsKeyed flags image → IsRow row → length row ≡ length flags
    → IsRow (values_of (laid_over image (map Defined row))) × IsKeyedRow flags (values_of (laid_over image (map Defined row)))
row_is [] [] row p k q e = (tt, tt)
row_is [] (f ∷ image) row p k q e = absurd k
row_is (flag ∷ flags) [] row p k q e = absurd k
row_is (flag ∷ flags) (f ∷ image) [] p k q e = absurd (omega arith)
row_is (zero ∷ flags) (Undefined ∷ image) (v ∷ row) p k q e =
    let others = row_is flags image row p.1 k q.1 (omega arith) in
    ((q.0, others.0), others.1)
row_is (zero ∷ flags) (Defined w ∷ image) (v ∷ row) p k q e =
    let others = row_is flags image row p.1 k q.1 (omega arith) in
    ((p.0, others.0), others.1)
row_is (suc flag ∷ flags) (Undefined ∷ image) (v ∷ row) p k q e = absurd k.0
row_is (suc flag ∷ flags) (Defined w ∷ image) (v ∷ row) p k q e =
    let others = row_is flags image row p.1 k.1 q.1 (omega arith) in
    ((p.0, others.0), (k.0, others.1))

row_key_is : (flags : List ℕ) (image : List OwnedField) (row : List OwnedValue) → IsKeyed flags image → length row ≡ length flags
    → row_key flags (values_of (laid_over image (map Defined row))) ≡ image_key flags image
unfolding field_bytes
row_key_is [] [] row k e = refl
row_key_is [] (f ∷ image) row k e = absurd k
row_key_is (flag ∷ flags) [] row k e = absurd k
row_key_is (flag ∷ flags) (f ∷ image) [] k e = absurd (omega arith)
row_key_is (zero ∷ flags) (Undefined ∷ image) (v ∷ row) k e = row_key_is flags image row k (omega arith)
row_key_is (zero ∷ flags) (Defined w ∷ image) (v ∷ row) k e = row_key_is flags image row k (omega arith)
row_key_is (suc flag ∷ flags) (Undefined ∷ image) (v ∷ row) k e = absurd k.0
row_key_is (suc flag ∷ flags) (Defined w ∷ image) (v ∷ row) k e = ap (λ (key : List ℕ). field_bytes (Defined w) ++ key) (row_key_is flags image row k.1 (omega arith))

-- ---- the images of rows

pub row_image_key : (flags : List ℕ) (row : List OwnedValue) → image_key flags (map Defined row) ≡ row_key flags row
unfolding field_bytes
row_image_key [] row = refl
row_image_key (flag ∷ flags) [] = refl
row_image_key (zero ∷ flags) (v ∷ row) = row_image_key flags row
row_image_key (suc flag ∷ flags) (v ∷ row) = ap (λ (key : List ℕ). field_bytes (Defined v) ++ key) (row_image_key flags row)

pub rows_paired : (flags : List ℕ) (row other : List OwnedValue) → IsKeyedRow flags row → IsKeyedRow flags other → ArePaired flags (map Defined row) (map Defined other)
rows_paired [] [] [] h k = tt
rows_paired [] [] (w ∷ other) h k = absurd k
rows_paired [] (v ∷ row) other h k = absurd h
rows_paired (flag ∷ flags) [] other h k = absurd h
rows_paired (flag ∷ flags) (v ∷ row) [] h k = absurd k
rows_paired (zero ∷ flags) (v ∷ row) (w ∷ other) h k = (tt, rows_paired flags row other h k)
rows_paired (suc flag ∷ flags) (v ∷ row) (w ∷ other) h k = (h.0, rows_paired flags row other h.1 k.1)

-- ---- the images of updates

old_keyed : (flags : List ℕ) (old new : List OwnedField) → IsKeyedUpdate flags old new → IsKeyed flags old
old_keyed [] [] [] h = tt
old_keyed [] [] (n ∷ new) h = absurd h
old_keyed [] (o ∷ old) new h = absurd h
old_keyed (flag ∷ flags) [] new h = absurd h
old_keyed (flag ∷ flags) (o ∷ old) [] h = absurd h
old_keyed (zero ∷ flags) (o ∷ old) (n ∷ new) h = old_keyed flags old new h.1
old_keyed (suc flag ∷ flags) (Undefined ∷ old) (n ∷ new) h = absurd h.0
old_keyed (suc flag ∷ flags) (Defined v ∷ old) (Undefined ∷ new) h = (h.0, old_keyed flags old new h.1)
old_keyed (suc flag ∷ flags) (Defined v ∷ old) (Defined w ∷ new) h = absurd h.0

new_keyed : (flags : List ℕ) (old new : List OwnedField) → IsKeyedUpdate flags old new → IsKeyed flags (with_key flags old new)
new_keyed [] [] [] h = tt
new_keyed [] [] (n ∷ new) h = absurd h
new_keyed [] (o ∷ old) new h = absurd h
new_keyed (flag ∷ flags) [] new h = absurd h
new_keyed (flag ∷ flags) (o ∷ old) [] h = absurd h
new_keyed (zero ∷ flags) (o ∷ old) (n ∷ new) h = new_keyed flags old new h.1
new_keyed (suc flag ∷ flags) (Undefined ∷ old) (n ∷ new) h = absurd h.0
new_keyed (suc flag ∷ flags) (Defined v ∷ old) (Undefined ∷ new) h = (h.0, new_keyed flags old new h.1)
new_keyed (suc flag ∷ flags) (Defined v ∷ old) (Defined w ∷ new) h = absurd h.0

new_image_key : (flags : List ℕ) (old new : List OwnedField) → length flags ≡ length new → image_key flags (with_key flags old new) ≡ image_key flags old
new_image_key [] old new e = refl
new_image_key (flag ∷ flags) [] new e = refl
new_image_key (flag ∷ flags) (o ∷ old) [] e = absurd (omega arith)
new_image_key (zero ∷ flags) (o ∷ old) (n ∷ new) e = new_image_key flags old new (omega arith)
new_image_key (suc flag ∷ flags) (o ∷ old) (n ∷ new) e = ap (λ (key : List ℕ). field_bytes o ++ key) (new_image_key flags old new (omega arith))

over_field : (upper lower : OwnedField) → IsField upper → IsField lower → IsField (over upper lower)
over_field Undefined lower p q = q
over_field (Defined v) lower p q = p

laid_over_record : (upper lower : List OwnedField) → IsRecord upper → IsRecord lower → IsRecord (laid_over upper lower)
laid_over_record [] lower p q = tt
laid_over_record (u ∷ upper) [] p q = tt
laid_over_record (u ∷ upper) (l ∷ lower) p q = (over_field u l p.0 q.0, laid_over_record upper lower p.1 q.1)

laid_over_key : (flags : List ℕ) (upper lower : List OwnedField) → IsKeyed flags upper → length lower ≡ length flags → image_key flags (laid_over upper lower) ≡ image_key flags upper
laid_over_key [] [] lower h e = refl
laid_over_key [] (u ∷ upper) lower h e = absurd h
laid_over_key (flag ∷ flags) [] lower h e = absurd h
laid_over_key (flag ∷ flags) (u ∷ upper) [] h e = absurd (omega arith)
laid_over_key (zero ∷ flags) (u ∷ upper) (l ∷ lower) h e = laid_over_key flags upper lower h (omega arith)
laid_over_key (suc flag ∷ flags) (Undefined ∷ upper) (l ∷ lower) h e = absurd h.0
laid_over_key (suc flag ∷ flags) (Defined v ∷ upper) (l ∷ lower) h e = ap (λ (key : List ℕ). field_bytes (Defined v) ++ key) (laid_over_key flags upper lower h.1 (omega arith))

over_paired : (o n p m : OwnedField) → IsPaired o n → IsPaired p m → IsPaired (over o p) (over m n)
over_paired Undefined Undefined Undefined Undefined h k = tt
over_paired Undefined Undefined (Defined p) (Defined m) h k = tt
over_paired (Defined o) (Defined n) Undefined Undefined h k = tt
over_paired (Defined o) (Defined n) (Defined p) (Defined m) h k = tt
over_paired Undefined (Defined n) p m h k = absurd h
over_paired (Defined o) Undefined p m h k = absurd h
over_paired Undefined Undefined Undefined (Defined m) h k = absurd k
over_paired Undefined Undefined (Defined p) Undefined h k = absurd k
over_paired (Defined o) (Defined n) Undefined (Defined m) h k = absurd k
over_paired (Defined o) (Defined n) (Defined p) Undefined h k = absurd k

over_key : (o n p : OwnedField) → IsKeyPair o n → IsKeyValue (over o p)
over_key Undefined n p h = absurd h
over_key (Defined v) Undefined p h = h
over_key (Defined v) (Defined w) p h = absurd h

-- of one update after another
updates_paired : (flags : List ℕ) (old new next last : List OwnedField) → IsKeyedUpdate flags old new → IsKeyedUpdate flags next last
    → ArePaired flags (laid_over old next) (laid_over (with_key flags next last) (with_key flags old new))
updates_paired [] [] [] [] [] h k = tt
updates_paired [] [] [] [] (m ∷ last) h k = absurd k
updates_paired [] [] [] (p ∷ next) last h k = absurd k
updates_paired [] [] (n ∷ new) next last h k = absurd h
updates_paired [] (o ∷ old) new next last h k = absurd h
updates_paired (flag ∷ flags) [] new next last h k = absurd h
updates_paired (flag ∷ flags) (o ∷ old) [] next last h k = absurd h
updates_paired (flag ∷ flags) (o ∷ old) (n ∷ new) [] last h k = absurd k
updates_paired (flag ∷ flags) (o ∷ old) (n ∷ new) (p ∷ next) [] h k = absurd k
updates_paired (zero ∷ flags) (o ∷ old) (n ∷ new) (p ∷ next) (m ∷ last) h k = (over_paired o n p m h.0 k.0, updates_paired flags old new next last h.1 k.1)
updates_paired (suc flag ∷ flags) (o ∷ old) (n ∷ new) (p ∷ next) (m ∷ last) h k = (over_key o n p h.0, updates_paired flags old new next last h.1 k.1)

-- ---- merging

-- the same of a change
record Fits (flags key : List ℕ) (change : Change) : Type 0 where
  fits : IsChange flags change
  same : key_of flags change ≡ key

unless_same_fits : (flags key : List ℕ) (same : Bool) (change : Change) → Fits flags key change → IfSome (if same then None else Some change) (Fits flags key)
unless_same_fits flags key true change h = tt
unless_same_fits flags key false change h = h

update_fits : (flags key : List ℕ) (before after : List OwnedField) → IsRecord before → IsRecord after → ArePaired flags before after → image_key flags before ≡ key
    → IfSome (net_between flags (Some before) (Some after)) (Fits flags key)
update_fits flags key before after p q h k =
    unless_same_fits flags key (pointwise is_same before after) (Update (old_record flags before after) (new_record flags before after))
    (record { fits = update_is flags before after p q h; same = update_key flags before after h ∙ k })

net_fits : (flags key : List ℕ) (first second : Change) → IsChange flags first → IsChange flags second → key_of flags first ≡ key → key_of flags second ≡ key
    → follows flags first second ≡ true → IfSome (net_change flags (joint_image flags first second)) (Fits flags key)
net_fits flags key (Insert row) (Insert other) p q k l e = absurd (true≢false (sym e))
net_fits flags key (Insert row) (Delete other) p q k l e = tt
net_fits flags key (Insert row) (Update old new) p q k l e =
    let image = with_key flags old new in
    let keyed = new_keyed flags old new q.2 in
    let width = sym (length-IsKeyedRow flags row p.1) in
    record {
      fits = row_is flags image row (IsRecord-with_key flags old new q.0 q.1) keyed p.0 width;
      same = row_key_is flags image row keyed width ∙ new_image_key flags old new (length-IsKeyedUpdate flags old new q.2).1 ∙ l;
    }
net_fits flags key (Delete row) (Insert other) p q k l e =
    update_fits flags key (map Defined row) (map Defined other) (IsRecord-map row p.0) (IsRecord-map other q.0) (rows_paired flags row other p.1 q.1) (row_image_key flags row ∙ k)
net_fits flags key (Delete row) (Delete other) p q k l e = absurd (true≢false (sym e))
net_fits flags key (Delete row) (Update old new) p q k l e = absurd (true≢false (sym e))
net_fits flags key (Update old new) (Insert row) p q k l e = absurd (true≢false (sym e))
net_fits flags key (Update old new) (Delete row) p q k l e =
    let keyed = old_keyed flags old new p.2 in
    let width = sym (length-IsKeyedRow flags row q.1) in
    record {
      fits = row_is flags old row p.0 keyed q.0 width;
      same = row_key_is flags old row keyed width ∙ k;
    }
net_fits flags key (Update old new) (Update next last) p q k l e =
    let width = length-IsKeyedUpdate flags next last q.2 in
    update_fits flags key (laid_over old next) (laid_over (with_key flags next last) (with_key flags old new))
    (laid_over_record old next p.0 q.0)
    (laid_over_record (with_key flags next last) (with_key flags old new) (IsRecord-with_key flags next last q.0 q.1) (IsRecord-with_key flags old new p.0 p.1))
    (updates_paired flags old new next last p.2 q.2)
    (laid_over_key flags old next (old_keyed flags old new p.2) (sym width.0) ∙ k)

becomes_fits : (flags key : List ℕ) (indirect : Bool) (net : Option Change) → IfSome net (Fits flags key) → IfBecomes (becomes indirect net) (FitsKey flags key)
becomes_fits flags key indirect None h = tt
becomes_fits flags key indirect (Some change) h = record { fits = h.fits; same = h.same }

if_follows : (flags key : List ℕ) (b : Bool) (merge : Merged) → (b ≡ true → IfBecomes merge (FitsKey flags key)) → IfBecomes (if b then merge else Keep) (FitsKey flags key)
if_follows flags key true merge h = h refl
if_follows flags key false merge h = tt

-- what becomes of two entries of one key fits the flags, and has their key
pub merged_fits : (flags : List ℕ) (first second : Entry) → IsEntry flags first → IsEntry flags second → key_of flags first.change ≡ key_of flags second.change
    → IfBecomes (merged flags first second) (FitsKey flags (key_of flags first.change))
merged_fits flags first second p q k =
    let key = key_of flags first.change in
    let net = net_change flags (joint_image flags first.change second.change) in
    if_follows flags key (follows flags first.change second.change) (becomes (first.indirect && second.indirect) net)
    (λ e. becomes_fits flags key (first.indirect && second.indirect) net (net_fits flags key first.change second.change p q refl (sym k) e))
