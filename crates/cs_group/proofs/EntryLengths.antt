-- How long entries are: what becomes of two of one key is at most as long as both.
use Rattle.std.proofs.Common.{◌≡◌, ℕ, zero, suc, ◌+◌, ◌≤◌, Bool, true, false, true≢false, if◌then◌else◌, List, [], ◌∷◌, length, length-append, map, Option, Some, None, refl, sym, ap, ◌∙◌, arith}
use Rattle.std.specs.Prelude.{◌&&◌}
use Rattle.std.specs.Cmp.Lexicographic.{pointwise}
use Rattle.std.proofs.lemmas.Grind.{flat_map-append}
use Rattle.cs_value.specs.declared.value.OwnedValue.TheVariants.{Int, Text, Blob, Null}
use Rattle.cs_value.specs.declared.value.OwnedField.{OwnedField}
use Rattle.cs_value.specs.declared.value.OwnedField.TheVariants.{Undefined, Defined}
use Rattle.cs_value.specs.Spelling.{value_bytes, field_bytes, record_bytes}
use Rattle.cs_wire_entries.specs.declared.entry.Change.{Change}
use Rattle.cs_wire_entries.specs.declared.entry.Change.TheVariants.{Insert, Delete, Update}
use Rattle.cs_wire_entries.specs.declared.entry.Entry.{Entry}
use Rattle.cs_wire.specs.Entry.{with_key, fields_of, entry_bytes}
use Rattle.cs_group.specs.declared.merging.Merged.{Merged}
use Rattle.cs_group.specs.declared.merging.Merged.TheVariants.{Keep}
use Rattle.cs_group.specs.Net.{is_same, unless_same, old_record, new_record, values_of, net_change}
use Rattle.cs_group.specs.Joining.{over, laid_over, joint_image, follows, becomes, left_of, joined_entry}

-- ---- a field

-- how long a field is, and a record
abbrev field_length : OwnedField → ℕ
field_length f = length (field_bytes f)

abbrev pub record_length : List OwnedField → ℕ
record_length fields = length (record_bytes fields)

-- a field has a byte at least
field_some : (f : OwnedField) → 1 ≤ field_length f
unfolding value_bytes field_bytes
field_some Undefined = omega arith
field_some (Defined (Int z)) = omega arith
field_some (Defined (Text t)) = omega arith
field_some (Defined (Blob b)) = omega arith
field_some (Defined Null) = omega arith

-- and an undefined one no more
undefined_one : field_length Undefined ≡ 1
unfolding field_bytes
undefined_one = omega arith

-- so it is no longer than any
undefined_length : (f : OwnedField) → field_length Undefined ≤ field_length f
undefined_length f = omega (arith, undefined_one, field_some f)

-- nor is a field that is left out where two are the same longer than it
unless_length : (s : Bool) (f : OwnedField) → field_length (if s then Undefined else f) ≤ field_length f
unless_length true f = undefined_length f
unless_length false f = omega arith

-- nor one field over another than both
over_length : (upper lower : OwnedField) → field_length (over upper lower) ≤ field_length upper + field_length lower
over_length Undefined lower = omega arith
over_length (Defined v) lower = omega arith

-- ---- a record

-- one more field
pub record_more : (f : OwnedField) (fields : List OwnedField) → record_length (f ∷ fields) ≡ field_length f + record_length fields
record_more f fields = length-append (field_bytes f) (record_bytes fields)

-- the values of an image are no longer than it
values_length : (image : List OwnedField) → record_length (map Defined (values_of image)) ≤ record_length image
values_length [] = omega arith
values_length (Undefined ∷ image) = omega (arith, values_length image, record_more Undefined image)
values_length (Defined v ∷ image) =
    omega (arith, values_length image, record_more (Defined v) image, record_more (Defined v) (map Defined (values_of image)))

-- nor is an image laid over another longer than both
laid_length : (upper lower : List OwnedField) → record_length (laid_over upper lower) ≤ record_length upper + record_length lower
laid_length [] lower = omega arith
laid_length (u ∷ uppers) [] = omega arith
laid_length (u ∷ uppers) (l ∷ lowers) =
    omega (arith, laid_length uppers lowers, over_length u l, record_more (over u l) (laid_over uppers lowers), record_more u uppers, record_more l lowers)

-- nor what an update says of the row after it than both its records
with_key_length : (flags : List ℕ) (old new : List OwnedField) → record_length (with_key flags old new) ≤ record_length old + record_length new
with_key_length [] old new = omega arith
with_key_length (flag ∷ flags) [] new = omega arith
with_key_length (flag ∷ flags) (o ∷ old) [] = omega arith
with_key_length (zero ∷ flags) (o ∷ old) (n ∷ new) =
    omega (arith, with_key_length flags old new, record_more n (with_key flags old new), record_more o old, record_more n new)
with_key_length (suc flag ∷ flags) (o ∷ old) (n ∷ new) =
    omega (arith, with_key_length flags old new, record_more o (with_key flags old new), record_more o old, record_more n new)

-- ---- the update between two images

-- its old record is no longer than the first
old_length : (flags : List ℕ) (before after : List OwnedField) → record_length (old_record flags before after) ≤ record_length before
old_length [] before after = omega arith
old_length (flag ∷ flags) [] after = omega arith
old_length (flag ∷ flags) (b ∷ before) [] = omega arith
old_length (zero ∷ flags) (b ∷ before) (a ∷ after) =
    omega (arith, old_length flags before after, unless_length (is_same b a) b, record_more (unless_same b a b) (old_record flags before after), record_more b before)
old_length (suc flag ∷ flags) (b ∷ before) (a ∷ after) =
    omega (arith, old_length flags before after, record_more b (old_record flags before after), record_more b before)

-- nor its new record than the second
new_length : (flags : List ℕ) (before after : List OwnedField) → record_length (new_record flags before after) ≤ record_length after
new_length [] before after = omega arith
new_length (flag ∷ flags) [] after = omega arith
new_length (flag ∷ flags) (b ∷ before) [] = omega arith
new_length (zero ∷ flags) (b ∷ before) (a ∷ after) =
    omega (arith, new_length flags before after, unless_length (is_same b a) a, record_more (unless_same b a a) (new_record flags before after), record_more a after)
new_length (suc flag ∷ flags) (b ∷ before) (a ∷ after) =
    omega (arith, new_length flags before after, undefined_length a, record_more Undefined (new_record flags before after), record_more a after)

-- and of two updates in turn it is no longer than their new records: it says nothing of the key
new_laid_length : (flags : List ℕ) (before old new next last : List OwnedField)
    → record_length (new_record flags before (laid_over (with_key flags next last) (with_key flags old new))) ≤ record_length new + record_length last
new_laid_length [] before old new next last = omega arith
new_laid_length (flag ∷ flags) [] old new next last = omega arith
new_laid_length (flag ∷ flags) (b ∷ before) old new [] last = omega arith
new_laid_length (flag ∷ flags) (b ∷ before) old new (p ∷ next) [] = omega arith
new_laid_length (zero ∷ flags) (b ∷ before) [] new (p ∷ next) (m ∷ last) = omega arith
new_laid_length (suc flag ∷ flags) (b ∷ before) [] new (p ∷ next) (m ∷ last) = omega arith
new_laid_length (zero ∷ flags) (b ∷ before) (o ∷ old) [] (p ∷ next) (m ∷ last) = omega arith
new_laid_length (suc flag ∷ flags) (b ∷ before) (o ∷ old) [] (p ∷ next) (m ∷ last) = omega arith
new_laid_length (zero ∷ flags) (b ∷ before) (o ∷ old) (n ∷ new) (p ∷ next) (m ∷ last) =
    let after = laid_over (with_key flags next last) (with_key flags old new) in
    omega (
      arith,
      new_laid_length flags before old new next last,
      unless_length (is_same b (over m n)) (over m n),
      over_length m n,
      record_more (unless_same b (over m n) (over m n)) (new_record flags before after),
      record_more n new,
      record_more m last,
    )
new_laid_length (suc flag ∷ flags) (b ∷ before) (o ∷ old) (n ∷ new) (p ∷ next) (m ∷ last) =
    let after = laid_over (with_key flags next last) (with_key flags old new) in
    omega (arith, new_laid_length flags before old new next last, undefined_length n, record_more Undefined (new_record flags before after), record_more n new, record_more m last)

-- ---- two changes

-- how long the records of a change are, if there is one
abbrev pub change_length : Option Change → ℕ
change_length None = 0
change_length (Some change) = record_length (fields_of change)

-- an update is as long as its two records
pub update_length : (old new : List OwnedField) → change_length (Some (Update old new)) ≡ record_length old + record_length new
update_length old new = ap length (flat_map-append field_bytes old new) ∙ length-append (record_bytes old) (record_bytes new)

-- the update, unless the images are found equal
unless_same_length : (s : Bool) (n : ℕ) (change : Change) → change_length (Some change) ≤ n → change_length (if s then None else Some change) ≤ n
unless_same_length true n change h = omega arith
unless_same_length false n change h = h

-- the net change of two, if the second follows the first
net_length : (flags : List ℕ) (first second : Change) → follows flags first second ≡ true
    → change_length (net_change flags (joint_image flags first second)) ≤ change_length (Some first) + change_length (Some second)
net_length flags (Insert row) (Insert other) e = absurd (true≢false (sym e))
net_length flags (Insert row) (Delete other) e = omega arith
net_length flags (Insert row) (Update old new) e =
    let image = with_key flags old new in
    omega (arith, values_length (laid_over image (map Defined row)), laid_length image (map Defined row), with_key_length flags old new, update_length old new)
net_length flags (Delete row) (Insert other) e =
    let before : List OwnedField = map Defined row in
    let after : List OwnedField = map Defined other in
    unless_same_length (pointwise is_same before after) (record_length before + record_length after) (Update (old_record flags before after) (new_record flags before after))
    (omega (arith, update_length (old_record flags before after) (new_record flags before after), old_length flags before after, new_length flags before after))
net_length flags (Delete row) (Delete other) e = absurd (true≢false (sym e))
net_length flags (Delete row) (Update old new) e = absurd (true≢false (sym e))
net_length flags (Update old new) (Insert row) e = absurd (true≢false (sym e))
net_length flags (Update old new) (Delete row) e =
    omega (arith, values_length (laid_over old (map Defined row)), laid_length old (map Defined row), update_length old new)
net_length flags (Update old new) (Update next last) e =
    let before = laid_over old next in
    let after = laid_over (with_key flags next last) (with_key flags old new) in
    unless_same_length (pointwise is_same before after) (change_length (Some (Update old new)) + change_length (Some (Update next last))) (Update (old_record flags before after) (new_record flags before after))
    (omega (
      arith,
      update_length (old_record flags before after) (new_record flags before after),
      update_length old new,
      update_length next last,
      old_length flags before after,
      laid_length old next,
      new_laid_length flags before old new next last,
    ))

-- ---- two entries

-- how long an entry is, if there is one
abbrev pub entry_length : Option Entry → ℕ
entry_length None = 0
entry_length (Some entry) = length (entry_bytes entry)

-- two bytes and its records
pub entry_length_is : (entry : Entry) → length (entry_bytes entry) ≡ 2 + change_length (Some entry.change)
unfolding entry_bytes
entry_length_is entry = omega arith

-- what the first becomes is as long, with the two bytes, as the records of the net change
becomes_length : (first : Entry) (indirect : Bool) (net : Option Change) (n : ℕ) → change_length net ≤ n → entry_length (left_of first (becomes indirect net)) ≤ 2 + n
becomes_length first indirect None n h = omega arith
becomes_length first indirect (Some change) n h = omega (arith, h, entry_length_is (record { indirect = indirect; change = change }))

-- and where the second does not follow, the first is what is left
if_follows_length : (first : Entry) (b : Bool) (merge : Merged) (n : ℕ) → length (entry_bytes first) ≤ n → (b ≡ true → entry_length (left_of first merge) ≤ n)
    → entry_length (left_of first (if b then merge else Keep)) ≤ n
if_follows_length first true merge n p h = h refl
if_follows_length first false merge n p h = p

-- what is left of an entry is no longer than it and the one that it was joined with
pub joined_entry_length : (flags : List ℕ) (entry : Entry) (found : Option Entry) → entry_length (joined_entry flags entry found) ≤ length (entry_bytes entry) + entry_length found
joined_entry_length flags entry None = omega arith
joined_entry_length flags entry (Some second) =
    let net = net_change flags (joint_image flags entry.change second.change) in
    let n = length (entry_bytes entry) + length (entry_bytes second) in
    if_follows_length entry (follows flags entry.change second.change) (becomes (entry.indirect && second.indirect) net) n (omega arith)
    (λ e.
    let both = net_length flags entry.change second.change e in
    let left = becomes_length entry (entry.indirect && second.indirect) net (change_length (Some entry.change) + change_length (Some second.change)) both in
    omega (arith, left, entry_length_is entry, entry_length_is second))
