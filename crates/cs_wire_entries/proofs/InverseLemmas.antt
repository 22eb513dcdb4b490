-- Entries and groups, and what undoes them.
use Rattle.std.proofs.Common.{◌≡◌, ℕ, zero, suc, ◌+◌, ◌<◌, ◌≤◌, Bool, List, [], ◌∷◌, ◌++◌, length, map, take, drop, set, get_or, refl, sym, ap, ◌∙◌, append_assoc, arith}
use Rattle.std.specs.List.{AllByRecursion, AllZip}
use Rattle.std.proofs.lemmas.List.{append-nil, drop_all, drop-set-lt, get_or-map, length-map, take_all, take_more}
use Rattle.std.proofs.lemmas.List.Elements.{recursion_from_All, All-from_recursion}
use Rattle.std.proofs.Math.Seq.{take-suc-set}
use Rattle.cs_value.specs.declared.value.OwnedField.{OwnedField}
use Rattle.cs_value.specs.declared.value.OwnedField.TheVariants.{Undefined, Defined}
use Rattle.cs_value.specs.Value.{IsRecord}
use Rattle.cs_value.specs.Spelling.{record_bytes}
use Rattle.cs_value.specs.Key.{key_columns}
use Rattle.cs_value.specs.Maps.{ByBytes}
use Rattle.cs_wire_entries.specs.declared.entry.Change.{Change}
use Rattle.cs_wire_entries.specs.declared.entry.Change.TheVariants.{Insert, Delete, Update}
use Rattle.cs_wire_entries.specs.declared.entry.Entry.{Entry}
use Rattle.cs_wire_entries.specs.Entry.{IsPaired, IsKeyedUpdate, IsChange, IsEntry, key_of, with_key}
use Rattle.cs_wire_entries.specs.Changeset.{GroupData, IsGroup, image_of}
use Rattle.cs_wire_entries.specs.Inverse.{exchanged, IsInverseEntry, IsInverseGroup}
use Rattle.cs_wire_entries.proofs.EntryLemmas.{length-IsKeyedUpdate}
use Rattle.cs_wire_entries.specs.Views.{group_keys, IsIndex, inverse_change, inverse_entry}

-- ---- the two records of an update

-- the fields in the key columns are those of the first image
key_with_key : (flags : List ℕ) (old new : List OwnedField) → IsKeyedUpdate flags old new → key_columns flags (with_key flags old new) ≡ key_columns flags old
key_with_key [] [] [] h = refl
key_with_key (zero ∷ flags) (o ∷ old) (n ∷ new) h = key_with_key flags old new h.1
key_with_key (suc flag ∷ flags) (o ∷ old) (n ∷ new) h = ap (λ (fs : List OwnedField). o ∷ fs) (key_with_key flags old new h.1)
key_with_key [] [] (n ∷ new) h = absurd h
key_with_key [] (o ∷ old) new h = absurd h
key_with_key (zero ∷ flags) [] new h = absurd h
key_with_key (suc flag ∷ flags) [] new h = absurd h
key_with_key (zero ∷ flags) (o ∷ old) [] h = absurd h
key_with_key (suc flag ∷ flags) (o ∷ old) [] h = absurd h

-- exchanged twice, the first image is back
pub with_key_twice : (flags : List ℕ) (a b : List OwnedField) → length flags ≡ length a → length flags ≡ length b → with_key flags (with_key flags a b) (with_key flags b a) ≡ a
with_key_twice [] [] b p q = refl
with_key_twice [] (x ∷ a) b p q = absurd (omega arith)
with_key_twice (flag ∷ flags) [] b p q = absurd (omega arith)
with_key_twice (flag ∷ flags) (x ∷ a) [] p q = absurd (omega arith)
with_key_twice (zero ∷ flags) (x ∷ a) (y ∷ b) p q = ap (λ (fs : List OwnedField). x ∷ fs) (with_key_twice flags a b (omega arith) (omega arith))
with_key_twice (suc flag ∷ flags) (x ∷ a) (y ∷ b) p q = ap (λ (fs : List OwnedField). x ∷ fs) (with_key_twice flags a b (omega arith) (omega arith))

paired_back : (o n : OwnedField) → IsPaired o n → IsPaired n o
paired_back Undefined Undefined h = tt
paired_back (Defined v) (Defined w) h = tt
paired_back Undefined (Defined w) h = absurd h
paired_back (Defined v) Undefined h = absurd h

keyed_back : (flags : List ℕ) (old new : List OwnedField) → IsKeyedUpdate flags old new → IsKeyedUpdate flags (with_key flags old new) (with_key flags new old)
keyed_back [] [] [] h = tt
keyed_back (zero ∷ flags) (o ∷ old) (n ∷ new) h = (paired_back o n h.0, keyed_back flags old new h.1)
keyed_back (suc flag ∷ flags) (o ∷ old) (n ∷ new) h = (h.0, keyed_back flags old new h.1)
keyed_back [] [] (n ∷ new) h = absurd h
keyed_back [] (o ∷ old) new h = absurd h
keyed_back (zero ∷ flags) [] new h = absurd h
keyed_back (suc flag ∷ flags) [] new h = absurd h
keyed_back (zero ∷ flags) (o ∷ old) [] h = absurd h
keyed_back (suc flag ∷ flags) (o ∷ old) [] h = absurd h

pub IsRecord-with_key : (flags : List ℕ) (a b : List OwnedField) → IsRecord a → IsRecord b → IsRecord (with_key flags a b)
IsRecord-with_key [] a b h k = tt
IsRecord-with_key (zero ∷ flags) [] b h k = tt
IsRecord-with_key (suc flag ∷ flags) [] b h k = tt
IsRecord-with_key (zero ∷ flags) (x ∷ a) [] h k = tt
IsRecord-with_key (suc flag ∷ flags) (x ∷ a) [] h k = tt
IsRecord-with_key (zero ∷ flags) (x ∷ a) (y ∷ b) h k = (k.0, IsRecord-with_key flags a b h.1 k.1)
IsRecord-with_key (suc flag ∷ flags) (x ∷ a) (y ∷ b) h k = (h.0, IsRecord-with_key flags a b h.1 k.1)

-- one more field of an image that is made of two
pub with_key_in : (flags : List ℕ) (a b : List OwnedField) (i : ℕ) (f : OwnedField) → length flags ≡ length a → length flags ≡ length b → i < length flags → (get_or flags i 0 ≡ 0 → ⊥) → get_or a i f ≡ f
    → with_key (drop i flags) (drop i a) (drop i b) ≡ f ∷ with_key (drop (suc i) flags) (drop (suc i) a) (drop (suc i) b)
with_key_in [] a b i f p q lt key here = absurd (omega arith)
with_key_in (flag ∷ flags) [] b i f p q lt key here = absurd (omega arith)
with_key_in (flag ∷ flags) (x ∷ a) [] i f p q lt key here = absurd (omega arith)
with_key_in (zero ∷ flags) (x ∷ a) (y ∷ b) zero f p q lt key here = absurd (key refl)
with_key_in (suc flag ∷ flags) (x ∷ a) (y ∷ b) zero f p q lt key here = ap (λ (g : OwnedField). g ∷ with_key flags a b) here
with_key_in (flag ∷ flags) (x ∷ a) (y ∷ b) (suc i) f p q lt key here = with_key_in flags a b i f (omega arith) (omega arith) (omega arith) key here

pub with_key_out : (flags : List ℕ) (a b : List OwnedField) (i : ℕ) (f : OwnedField) → length flags ≡ length a → length flags ≡ length b → i < length flags → get_or flags i 0 ≡ 0 → get_or b i f ≡ f
    → with_key (drop i flags) (drop i a) (drop i b) ≡ f ∷ with_key (drop (suc i) flags) (drop (suc i) a) (drop (suc i) b)
with_key_out [] a b i f p q lt none here = absurd (omega arith)
with_key_out (flag ∷ flags) [] b i f p q lt none here = absurd (omega arith)
with_key_out (flag ∷ flags) (x ∷ a) [] i f p q lt none here = absurd (omega arith)
with_key_out (zero ∷ flags) (x ∷ a) (y ∷ b) zero f p q lt none here = ap (λ (g : OwnedField). g ∷ with_key flags a b) here
with_key_out (suc flag ∷ flags) (x ∷ a) (y ∷ b) zero f p q lt none here = absurd (omega arith)
with_key_out (flag ∷ flags) (x ∷ a) (y ∷ b) (suc i) f p q lt none here = with_key_out flags a b i f (omega arith) (omega arith) (omega arith) none here

-- ---- fields that are exchanged one column after the other

-- what the first record is to become: its first fields are there, and the others are still to come from both
pub ExchangedSoFar : (flags : List ℕ) (a b : List OwnedField) (i : ℕ) (x y : List OwnedField) → Type 0
ExchangedSoFar flags a b i x y = take i x ++ with_key (drop i flags) (drop i x) (drop i y) ≡ with_key flags a b

pub ExchangedSoFar-none : (flags : List ℕ) (a b : List OwnedField) → ExchangedSoFar flags a b 0 a b
unfolding ExchangedSoFar
ExchangedSoFar-none flags a b = refl

-- a key column stays
pub ExchangedSoFar-key : (flags : List ℕ) (a b : List OwnedField) (i : ℕ) (x y : List OwnedField) → ExchangedSoFar flags a b i x y
    → length flags ≡ length x → length flags ≡ length y → i < length flags → (get_or flags i 0 ≡ 0 → ⊥) → ExchangedSoFar flags a b (i + 1) x y
unfolding ExchangedSoFar
ExchangedSoFar-key flags a b i x y so p q lt key =
    let n : i + 1 ≡ suc i = omega arith in
    let f = get_or x i Undefined in
    let next = with_key_in flags x y i f p q lt key (same_default x i lt_x) in
    let more : take (i + 1) x ≡ take i x ++ f ∷ [] = take_more x i Undefined lt_x in
    rw (more, n) (append_assoc (take i x) (f ∷ []) (with_key (drop (suc i) flags) (drop (suc i) x) (drop (suc i) y)) ∙ ap (λ (fs : List OwnedField). take i x ++ fs) (sym next) ∙ so)
  where
    lt_x : i < length x
    lt_x = omega arith

    same_default : (z : List OwnedField) (k : ℕ) → k < length z → get_or z k (get_or z k Undefined) ≡ get_or z k Undefined
    same_default [] k lt = absurd (omega arith)
    same_default (g ∷ z) zero lt = refl
    same_default (g ∷ z) (suc k) lt = same_default z k (omega arith)

-- the fields of another column are exchanged
pub ExchangedSoFar-field : (flags : List ℕ) (a b : List OwnedField) (i : ℕ) (x y : List OwnedField) (f g : OwnedField) → ExchangedSoFar flags a b i x y
    → length flags ≡ length x → length flags ≡ length y → i < length flags → get_or flags i 0 ≡ 0 → get_or y i f ≡ f → ExchangedSoFar flags a b (i + 1) (set x i f) (set y i g)
unfolding ExchangedSoFar
ExchangedSoFar-field flags a b i x y f g so p q lt none here =
    let n : i + 1 ≡ suc i = omega arith in
    let in_x : i < length x = omega arith in
    let next = with_key_out flags x y i f p q lt none here in
    rw (n, take-suc-set x i f in_x, drop-set-lt (suc i) x i f (omega arith), drop-set-lt (suc i) y i g (omega arith))
    (append_assoc (take i x) (f ∷ []) (with_key (drop (suc i) flags) (drop (suc i) x) (drop (suc i) y)) ∙ ap (λ (fs : List OwnedField). take i x ++ fs) (sym next) ∙ so)

-- all are exchanged
pub ExchangedSoFar-all : (flags : List ℕ) (a b : List OwnedField) (i : ℕ) (x y : List OwnedField) → ExchangedSoFar flags a b i x y → length flags ≤ i → length x ≤ i → x ≡ with_key flags a b
unfolding ExchangedSoFar
ExchangedSoFar-all flags a b i x y so le all =
    let none : drop i flags ≡ [] = drop_all i flags le in
    let whole : take i x ≡ x = take_all i x all in
    sym (append-nil x) ∙ sym (ap (λ (z : List OwnedField). z ++ []) whole) ∙ ap (λ (fs : List OwnedField). take i x ++ fs) (sym (ap (λ (z : List ℕ). with_key z (drop i x) (drop i y)) none)) ∙ so

-- both records of an update, so far
pub record Exchanging (flags : List ℕ) (a b : List OwnedField) (i : ℕ) (x y : List OwnedField) : Type 0 where
  pub old : ExchangedSoFar flags a b i x y
  pub new : ExchangedSoFar flags b a i y x
  pub old_width : length flags ≡ length x
  pub new_width : length flags ≡ length y

-- ---- changes

-- a change and its inverse are of one key
pub key_of-inverse : (flags : List ℕ) (change : Change) → IsChange flags change → key_of flags (inverse_change flags change) ≡ key_of flags change
key_of-inverse flags (Insert row) h = refl
key_of-inverse flags (Delete row) h = refl
key_of-inverse flags (Update old new) h = ap record_bytes (key_with_key flags old new h.2)

pub IsChange-inverse : (flags : List ℕ) (change : Change) → IsChange flags change → IsChange flags (inverse_change flags change)
IsChange-inverse flags (Insert row) h = h
IsChange-inverse flags (Delete row) h = h
IsChange-inverse flags (Update old new) h = (IsRecord-with_key flags old new h.0 h.1, IsRecord-with_key flags new old h.1 h.0, keyed_back flags old new h.2)

pub IsEntry-inverse : (flags : List ℕ) (entry : Entry) → IsEntry flags entry → IsEntry flags (inverse_entry flags entry)
IsEntry-inverse flags entry h = IsChange-inverse flags entry.change h

image_of-inverse : (flags : List ℕ) (indirect : Bool) (change : Change) → IsChange flags change
    → image_of flags (record { indirect = indirect; change = inverse_change flags change }) ≡ exchanged (image_of flags (record { indirect = indirect; change = change }))
image_of-inverse flags indirect (Insert row) h = refl
image_of-inverse flags indirect (Delete row) h = refl
image_of-inverse flags indirect (Update old new) h =
    let width = length-IsKeyedUpdate flags old new h.2 in
    cc (with_key_twice flags old new width.0 width.1)

-- the inverse of an entry is one
pub inverse_entry_is : (flags : List ℕ) (entry : Entry) → IsEntry flags entry → IsInverseEntry flags entry (inverse_entry flags entry)
inverse_entry_is flags entry h = record { indirect = refl; key = key_of-inverse flags entry.change h; image = image_of-inverse flags entry.indirect entry.change h }

-- ---- groups

-- the entries of one key are at the same places
keys-inverse : (flags : List ℕ) (es : List Entry) → AllByRecursion (IsEntry flags) es → group_keys flags (map (inverse_entry flags) es) ≡ group_keys flags es
keys-inverse flags [] h = refl
keys-inverse flags (e ∷ es) h =
    let one = key_of-inverse flags e.change h.0 in
    let others = keys-inverse flags es h.1 in
    cc (one, others)

each-inverse : (flags : List ℕ) (es : List Entry) → AllByRecursion (IsEntry flags) es → AllByRecursion (IsEntry flags) (map (inverse_entry flags) es)
each-inverse flags [] h = tt
each-inverse flags (e ∷ es) h = (IsChange-inverse flags e.change h.0, each-inverse flags es h.1)

entries-inverse : (flags : List ℕ) (es : List Entry) → AllByRecursion (IsEntry flags) es → AllZip (IsInverseEntry flags) es (map (inverse_entry flags) es)
entries-inverse flags [] h = tt
entries-inverse flags (e ∷ es) h = (inverse_entry_is flags e h.0, entries-inverse flags es h.1)

-- the key at a place
key_at : (flags : List ℕ) (es : List Entry) (i : ℕ) (d : Entry) → i < length es → get_or (group_keys flags es) i [] ≡ key_of flags (get_or es i d).change
key_at flags es i d lt = get_or-map (λ (e : Entry). key_of flags e.change) es i d [] lt

-- each entry of a group
pub each_entry : (group : GroupData) → IsGroup group → AllByRecursion (IsEntry group.header.flags) group.entries
each_entry group g = recursion_from_All (IsEntry group.header.flags) group.entries g.each

-- the group of the inverses of a group's entries is one, and is the inverse
pub IsGroup-inverse : (group : GroupData) → IsGroup group → IsGroup (record { header = group.header; entries = map (inverse_entry group.header.flags) group.entries })
IsGroup-inverse group g =
    let flags = group.header.flags in
    let es = group.entries in
    let inverses = map (inverse_entry flags) es in
    let len = length-map es (inverse_entry flags) in
    let each = each_entry group g in
    let keys = keys-inverse flags es each in record {
      header = g.header;
      some = omega (arith, g.some, len);
      each = All-from_recursion (IsEntry flags) inverses (each-inverse flags es each);
      once = λ i j d lt in_list same.
          let i_in : i < length es = omega (arith, len) in
          let j_in : j < length es = omega (arith, len) in
          let at = λ (k : ℕ) (k_in : k < length es) (k_out : k < length inverses). sym (key_at flags es k d k_in) ∙ ap (λ (ks : List (List ℕ)). get_or ks k []) (sym keys) ∙ key_at flags inverses k d k_out in
          g.once i j d lt j_in (at i i_in (omega (arith, lt, in_list)) ∙ same ∙ sym (at j j_in in_list));
    }

pub IsInverseGroup-is : (group : GroupData) → IsGroup group → IsInverseGroup group (record { header = group.header; entries = map (inverse_entry group.header.flags) group.entries })
IsInverseGroup-is group g = record { header = refl; entries = entries-inverse group.header.flags group.entries (each_entry group g) }

-- and its index is the group's
pub index-inverse : (group : GroupData) (places : ByBytes ℕ) → IsGroup group → IsIndex places (group_keys group.header.flags group.entries)
    → IsIndex places (group_keys group.header.flags (map (inverse_entry group.header.flags) group.entries))
index-inverse group places g index = rw (keys-inverse group.header.flags group.entries (each_entry group g)) index
