-- Key columns that are next to each other.
use Rattle.std.proofs.Common.{◌≡◌, ℕ, zero, suc, ◌+◌, ◌-◌, ◌<◌, ◌≤◌, Bool, true, false, true≢false, not, List, [], ◌∷◌, ◌++◌, length, length-append, take, drop, get_or, refl, sym, ap, ◌∙◌, arith, take-append-drop}
use Rattle.std.specs.List.{AllByRecursion}
use Rattle.std.proofs.lemmas.Bool.{ne_eqb}
use Rattle.std.proofs.lemmas.List.{length-drop, take_at, take_more}
use Rattle.std.proofs.lemmas.List.Concat.{flat_map-append}
use Rattle.cs_value.specs.Key.{key_columns}
use Rattle.cs_value.specs.declared.value.OwnedField.{OwnedField}
use Rattle.cs_value.specs.Value.{IsRecord}
use Rattle.cs_value.specs.Spelling.{field_bytes, record_bytes}
use Rattle.cs_wire_entries.specs.Items.{front_of}
use Rattle.cs_wire_entries.specs.Reading.{is_key_flag}
use Rattle.cs_wire_entries.proofs.ItemLemmas.{front_left}

-- ---- a run of flags

abbrev pub IsRun : Bool → List ℕ → Type 0
IsRun of_key flags = AllByRecursion (λ flag. is_key_flag flag ≡ of_key) flags

pub IsRun-more : (of_key : Bool) (flags : List ℕ) (i : ℕ) → i < length flags → IsRun of_key (take i flags) → is_key_flag (get_or flags i 0) ≡ of_key → IsRun of_key (take (i + 1) flags)
IsRun-more of_key flags i lt so here = rw (take_more flags i 0 lt) (pushed (take i flags) so)
  where
    pushed : (front : List ℕ) → IsRun of_key front → IsRun of_key (front ++ get_or flags i 0 ∷ [])
    pushed [] so = (here, tt)
    pushed (flag ∷ front) so = (so.0, pushed front so.1)

is_key-suc : (flag : ℕ) → is_key_flag (suc flag) ≡ true
is_key-suc flag = ap not (ne_eqb (suc flag) 0 (omega arith))

no_key : (flags : List ℕ) (fields : List OwnedField) → IsRun false flags → key_columns flags fields ≡ []
no_key [] fields run = refl
no_key (flag ∷ flags) [] run = refl
no_key (zero ∷ flags) (f ∷ fields) run = no_key flags fields run.1
no_key (suc flag ∷ flags) (f ∷ fields) run = absurd (true≢false (sym (is_key-suc flag) ∙ run.0))

keys_first : (flags : List ℕ) (fields : List OwnedField) (b : ℕ) → length flags ≡ length fields → IsRun true (take b flags) → IsRun false (drop b flags) → key_columns flags fields ≡ take b fields
keys_first flags fields zero width keys others = no_key flags fields others
keys_first [] [] (suc b) width keys others = refl
keys_first [] (f ∷ fields) (suc b) width keys others = absurd (omega arith)
keys_first (flag ∷ flags) [] (suc b) width keys others = absurd (omega arith)
keys_first (zero ∷ flags) (f ∷ fields) (suc b) width keys others = absurd (true≢false (sym keys.0))
keys_first (suc flag ∷ flags) (f ∷ fields) (suc b) width keys others = ap (λ (fs : List OwnedField). f ∷ fs) (keys_first flags fields b (omega arith) keys.1 others)

-- after some other columns those of the key, and then others again
pub key_run : (flags : List ℕ) (fields : List OwnedField) (a b : ℕ) → length flags ≡ length fields → IsRun false (take a flags) → IsRun true (take b (drop a flags)) → IsRun false (drop b (drop a flags))
    → key_columns flags fields ≡ take b (drop a fields)
key_run flags fields zero b width before keys others = keys_first flags fields b width keys others
key_run [] [] (suc a) b width before keys others = sym (nil b)
  where
    no_field : List OwnedField
    no_field = []

    nil : (n : ℕ) → take n no_field ≡ []
    nil zero = refl
    nil (suc n) = refl
key_run [] (f ∷ fields) (suc a) b width before keys others = absurd (omega arith)
key_run (flag ∷ flags) [] (suc a) b width before keys others = absurd (omega arith)
key_run (zero ∷ flags) (f ∷ fields) (suc a) b width before keys others = key_run flags fields a b (omega arith) before.1 keys others
key_run (suc flag ∷ flags) (f ∷ fields) (suc a) b width before keys others = absurd (true≢false (sym (is_key-suc flag) ∙ before.0))

-- ---- the bytes of a run of fields

-- as many fields are skipped: these bytes are left, whatever fields they spell
abbrev pub Skips : List ℕ → ℕ → ℕ → List ℕ → Type 0
Skips bytes count i rest = (fields : List OwnedField) → IsRecord fields → count ≤ length fields → bytes ≡ record_bytes fields → rest ≡ record_bytes (drop i fields)

pub Skips-next : (bytes : List ℕ) (count i : ℕ) (rest after : List ℕ) → Skips bytes count i rest → i < count → after ≡ drop (front_of rest).1 rest → Skips bytes count (i + 1) after
Skips-next bytes count i rest after so lt after_is = λ fields are le spelled. after_is ∙ (front_left fields i rest are (omega (arith, lt, le)) (so fields are le spelled)).3

IsRecord-drop : (fields : List OwnedField) (n : ℕ) → IsRecord fields → IsRecord (drop n fields)
IsRecord-drop fields zero are = are
IsRecord-drop [] (suc n) are = tt
IsRecord-drop (f ∷ fields) (suc n) are = IsRecord-drop fields n are.1

pub columns_between : (bytes behind rest : List ℕ) (first count : ℕ) → Skips bytes first first behind → Skips behind count count rest
    → (fields : List OwnedField) → IsRecord fields → first + count ≤ length fields → bytes ≡ record_bytes fields → take (length behind - length rest) behind ≡ record_bytes (take count (drop first fields))
columns_between bytes behind rest first count skip skip_more fields are le spelled =
    let left = drop first fields in
    let behind_is = skip fields are (omega (arith, le)) spelled in
    let rest_is = skip_more left (IsRecord-drop fields first are) (omega (arith, le, length-drop first fields)) behind_is in
    let parts : record_bytes left ≡ record_bytes (take count left) ++ record_bytes (drop count left) =
    ap record_bytes (sym (take-append-drop count left)) ∙ flat_map-append field_bytes (take count left) (drop count left) in
    let width : length behind - length rest ≡ length (record_bytes (take count left)) =
    omega (arith, ap length behind_is, ap length rest_is, ap length parts, length-append (record_bytes (take count left)) (record_bytes (drop count left))) in
    rw (width, behind_is, parts) (take_at (record_bytes (take count left)) (record_bytes (drop count left)) (length (record_bytes (take count left))) refl)
