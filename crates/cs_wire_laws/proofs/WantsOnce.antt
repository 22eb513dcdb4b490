-- What is wanted of a field of a change. The change has it. It depends only on the fields before. A fault of a field
-- says that another field was found.
use Rattle.std.proofs.Common.{◌≡◌, ℕ, zero, suc, ◌+◌, ◌-◌, ◌<◌, ◌≤◌, Bool, true, false, List, [], ◌∷◌, ◌++◌, length, get_or, take, None, Some, refl, sym, ap, ◌∙◌, arith, length-append, inl, inr}
use Rattle.std.specs.Prelude.{◌⊎◌}
use Rattle.std.proofs.lemmas.Bool.{cases_lt}
use Rattle.std.proofs.lemmas.List.{length-map, get_or_append_left, get_or-append-add, take-take, take_at}
use Rattle.cs_value.specs.declared.value.OwnedValue.TheVariants.{Null}
use Rattle.cs_value.specs.declared.value.OwnedField.{OwnedField}
use Rattle.cs_value.specs.declared.value.OwnedField.TheVariants.{Undefined, Defined}
use Rattle.cs_value.specs.Value.{IsField, IsRecord}
use Rattle.cs_value.proofs.ListLemmas.{same_from_append, AllByRecursion-append}
use Rattle.cs_value.proofs.RowImages.{IsRecord-map, same_from_fields}
use Rattle.cs_value.proofs.KeyedRows.{length-IsKeyedRow}
use Rattle.cs_wire_entries.specs.declared.entry.Change.{Change}
use Rattle.cs_wire_entries.specs.declared.entry.Change.TheVariants.{Insert, Delete, Update}
use Rattle.cs_wire_entries.specs.declared.fault.ReadFaultKind.TheVariants.{UndefinedField, Unpaired, NullKey}
use Rattle.cs_wire_entries.specs.Entry.{IsChange, operation, fields_of}
use Rattle.cs_wire_entries.specs.ReadFaults.{IsWhole, IsKeyColumn, IsAlike}
use Rattle.cs_wire_entries.specs.Reading.{refusal, is_key_flag, in_row, in_old, in_new, is_modified, row_wants, old_wants, new_wants, wants_of, Meets}
use Rattle.cs_wire_entries.proofs.EntryLemmas.{length-IsKeyedUpdate}
use Rattle.cs_wire_entries.proofs.FieldsLemmas.{want_at, length-new_wants}
use Rattle.cs_wire_entries.proofs.ChangeLemmas.{key_flag, row_met, old_met, new_met}

-- ---- changes with one operation

-- the records of changes with one operation have as many fields
pub same_width : (flags : List ℕ) (c d : Change) → IsChange flags c → IsChange flags d → operation c ≡ operation d → length (fields_of c) ≡ length (fields_of d)
same_width flags (Insert row) (Insert other) h k e = omega (arith, length-map row Defined, length-map other Defined, length-IsKeyedRow flags row h.1, length-IsKeyedRow flags other k.1)
same_width flags (Delete row) (Delete other) h k e = omega (arith, length-map row Defined, length-map other Defined, length-IsKeyedRow flags row h.1, length-IsKeyedRow flags other k.1)
same_width flags (Update old new) (Update before after) h k e =
    let widths = length-IsKeyedUpdate flags old new h.2 in
    let others = length-IsKeyedUpdate flags before after k.2 in
    omega (arith, length-append old new, length-append before after, widths.0, widths.1, others.0, others.1)
same_width flags (Insert row) (Delete other) h k e = absurd (omega arith)
same_width flags (Insert row) (Update before after) h k e = absurd (omega arith)
same_width flags (Delete row) (Insert other) h k e = absurd (omega arith)
same_width flags (Delete row) (Update before after) h k e = absurd (omega arith)
same_width flags (Update old new) (Insert other) h k e = absurd (omega arith)
same_width flags (Update old new) (Delete other) h k e = absurd (omega arith)

-- and if these are equal, so are the changes
pub same_change : (flags : List ℕ) (c d : Change) → IsChange flags c → IsChange flags d → operation c ≡ operation d → fields_of c ≡ fields_of d → c ≡ d
same_change flags (Insert row) (Insert other) h k e same = ap Insert (same_from_fields row other same)
same_change flags (Delete row) (Delete other) h k e same = ap Delete (same_from_fields row other same)
same_change flags (Update old new) (Update before after) h k e same =
    let width : length old ≡ length before = sym (length-IsKeyedUpdate flags old new h.2).0 ∙ (length-IsKeyedUpdate flags before after k.2).0 in
    let both = same_from_append old before new after width same in
    cc (both.0, both.1)
same_change flags (Insert row) (Delete other) h k e same = absurd (omega arith)
same_change flags (Insert row) (Update before after) h k e same = absurd (omega arith)
same_change flags (Delete row) (Insert other) h k e same = absurd (omega arith)
same_change flags (Delete row) (Update before after) h k e same = absurd (omega arith)
same_change flags (Update old new) (Insert other) h k e same = absurd (omega arith)
same_change flags (Update old new) (Delete other) h k e same = absurd (omega arith)

pub fields_are : (flags : List ℕ) (c : Change) → IsChange flags c → IsRecord (fields_of c)
fields_are flags (Insert row) h = IsRecord-map row h.0
fields_are flags (Delete row) h = IsRecord-map row h.0
fields_are flags (Update old new) h = AllByRecursion-append IsField old new h.0 h.1

-- ---- a change has what is wanted

-- the type of what is wanted is private to cs_wire_entries, so it is named here as that of the elements of a list
abbrev pub TypeOf : {A : Type 0} → List A → Type 0
TypeOf {A = A} xs = A

abbrev pub Want : Type 0
Want = TypeOf (wants_of [] (Insert []))

abbrev pub AnyField : Want
AnyField = in_old false

abbrev pub KeyValue : Want
KeyValue = in_row true

-- what is wanted of the field after so many
abbrev pub want : List ℕ → Change → ℕ → Want
want flags change count = get_or (wants_of flags change) count AnyField

Meets-append : (v w : List Want) (f g : List OwnedField) → Meets v f → Meets w g → Meets (v ++ w) (f ++ g)
Meets-append [] w [] g h k = k
Meets-append [] w (x ∷ f) g h k = absurd h
Meets-append (a ∷ v) w [] g h k = absurd h
Meets-append (a ∷ v) w (x ∷ f) g h k = (h.0, Meets-append v w f g h.1 k)

Meets-get : (wants : List Want) (fields : List OwnedField) (i : ℕ) → Meets wants fields → i < length fields → refusal (get_or wants i AnyField) (get_or fields i Undefined) ≡ None
Meets-get [] [] i h lt = absurd (omega arith)
Meets-get [] (f ∷ fields) i h lt = absurd h
Meets-get (w ∷ wants) [] i h lt = absurd h
Meets-get (w ∷ wants) (f ∷ fields) zero h lt = h.0
Meets-get (w ∷ wants) (f ∷ fields) (suc i) h lt = Meets-get wants fields i h.1 (omega arith)

change_met : (flags : List ℕ) (c : Change) → IsChange flags c → Meets (wants_of flags c) (fields_of c)
change_met flags (Insert row) h = row_met flags row h.1
change_met flags (Delete row) h = row_met flags row h.1
change_met flags (Update old new) h = Meets-append (old_wants flags) (new_wants flags old) old new (old_met flags old new h.2) (new_met flags old new h.2)

pub want_met : (flags : List ℕ) (c : Change) (count : ℕ) → IsChange flags c → count < length (fields_of c) → refusal (want flags c count) (get_or (fields_of c) count Undefined) ≡ None
want_met flags c count h lt = Meets-get (wants_of flags c) (fields_of c) count (change_met flags c h) lt

-- ---- what is wanted depends only on the fields before

old_width : (flags : List ℕ) → length (old_wants flags) ≡ length flags
old_width flags = length-map flags (λ (flag : ℕ). in_old (is_key_flag flag))

pub want_same : (flags : List ℕ) (c d : Change) (count : ℕ) → IsChange flags c → IsChange flags d → operation c ≡ operation d → take count (fields_of c) ≡ take count (fields_of d)
    → want flags c count ≡ want flags d count
want_same flags (Insert row) (Insert other) count h k e same = refl
want_same flags (Delete row) (Delete other) count h k e same = refl
want_same flags (Update old new) (Update before after) count h k e same =
    elim (cases_lt count (length flags)) [
      | inl lt ↦ get_or_append_left (old_wants flags) (new_wants flags old) AnyField count (omega (arith, old_width flags)) ∙ sym (get_or_append_left (old_wants flags) (new_wants flags before) AnyField count (omega (arith, old_width flags)))
      | inr le ↦
          let n = length flags in
          let cut : take n (take count (old ++ new)) ≡ take n (take count (before ++ after)) = ap (take n) same in
          let old_is : old ≡ before = sym (take_at old new n (sym (length-IsKeyedUpdate flags old new h.2).0)) ∙ sym (take-take n count (old ++ new) le) ∙ cut ∙ take-take n count (before ++ after) le
          ∙ take_at before after n (sym (length-IsKeyedUpdate flags before after k.2).0) in
          ap (λ (x : List OwnedField). get_or (old_wants flags ++ new_wants flags x) count AnyField) old_is
    ]
want_same flags (Insert row) (Delete other) count h k e same = absurd (omega arith)
want_same flags (Insert row) (Update before after) count h k e same = absurd (omega arith)
want_same flags (Delete row) (Insert other) count h k e same = absurd (omega arith)
want_same flags (Delete row) (Update before after) count h k e same = absurd (omega arith)
want_same flags (Update old new) (Insert other) count h k e same = absurd (omega arith)
want_same flags (Update old new) (Delete other) count h k e same = absurd (omega arith)

-- ---- what a fault says

key_column : (flags : List ℕ) (column : ℕ) → IsKeyColumn flags column → is_key_flag (get_or flags column 0) ≡ true
key_column flags column key = by (get_or flags column 0) key
  where
    by : (flag : ℕ) → 0 < flag → is_key_flag flag ≡ true
    by zero lt = absurd (omega arith)
    by (suc flag) lt = key_flag flag

-- a value is wanted in each column of a row
row_value : (flags : List ℕ) (column : ℕ) → column < length flags → refusal (get_or (row_wants flags) column AnyField) Undefined ≡ Some UndefinedField
row_value flags column lt = rw (want_at (λ (flag : ℕ). in_row (is_key_flag flag)) flags column lt) (by (is_key_flag (get_or flags column 0)))
  where
    by : (b : Bool) → refusal (in_row b) Undefined ≡ Some UndefinedField
    by true = refl
    by false = refl

-- and that of a key in a column of the key
key_value : (flags : List ℕ) (c : Change) (column : ℕ) → column < length flags → IsKeyColumn flags column → want flags c column ≡ KeyValue
key_value flags (Insert row) column lt key = want_at (λ (flag : ℕ). in_row (is_key_flag flag)) flags column lt ∙ ap in_row (key_column flags column key)
key_value flags (Delete row) column lt key = want_at (λ (flag : ℕ). in_row (is_key_flag flag)) flags column lt ∙ ap in_row (key_column flags column key)
key_value flags (Update old new) column lt key =
    get_or_append_left (old_wants flags) (new_wants flags old) AnyField column (omega (arith, old_width flags)) ∙ want_at (λ (flag : ℕ). in_old (is_key_flag flag)) flags column lt ∙ ap in_old (key_column flags column key)

pub null_refused : (flags : List ℕ) (c : Change) (column : ℕ) → column < length flags → IsKeyColumn flags column → refusal (want flags c column) (Defined Null) ≡ Some NullKey
null_refused flags c column lt key = rw (key_value flags c column lt key) refl

pub undefined_refused : (flags : List ℕ) (c : Change) (column : ℕ) → column < length flags → IsWhole c ⊎ IsKeyColumn flags column → refusal (want flags c column) Undefined ≡ Some UndefinedField
undefined_refused flags c column lt (inr key) = rw (key_value flags c column lt key) refl
undefined_refused flags (Insert row) column lt (inl whole) = row_value flags column lt
undefined_refused flags (Delete row) column lt (inl whole) = row_value flags column lt
undefined_refused flags (Update old new) column lt (inl whole) = absurd whole

-- a new record wants a value or nothing
new_form : (flags : List ℕ) (old : List OwnedField) (i : ℕ) → i < length (new_wants flags old) → (b : Bool) × (get_or (new_wants flags old) i AnyField ≡ in_new b)
new_form [] old i lt = absurd (omega arith)
new_form (flag ∷ flags) [] i lt = absurd (omega arith)
new_form (flag ∷ flags) (o ∷ old) zero lt = (is_modified flag o, refl)
new_form (flag ∷ flags) (o ∷ old) (suc i) lt = new_form flags old i (omega arith)

-- a field unlike one that meets what is wanted is refused
unlike_refused : (b : Bool) (had found : OwnedField) → refusal (in_new b) had ≡ None → (IsAlike found had → ⊥) → refusal (in_new b) found ≡ Some Unpaired
unlike_refused true Undefined found met unlike = absurd cc
unlike_refused true (Defined v) Undefined met unlike = refl
unlike_refused true (Defined v) (Defined w) met unlike = absurd (unlike tt)
unlike_refused false Undefined Undefined met unlike = absurd (unlike tt)
unlike_refused false Undefined (Defined w) met unlike = refl
unlike_refused false (Defined v) found met unlike = absurd cc

pub unpaired_refused : (flags : List ℕ) (c : Change) (count : ℕ) (found : OwnedField) → IsChange flags c → length flags ≤ count → count < length (fields_of c)
    → (IsAlike found (get_or (fields_of c) count Undefined) → ⊥) → refusal (want flags c count) found ≡ Some Unpaired
unpaired_refused flags (Insert row) count found h le lt unlike = absurd (omega (arith, lt, length-map row Defined, length-IsKeyedRow flags row h.1))
unpaired_refused flags (Delete row) count found h le lt unlike = absurd (omega (arith, lt, length-map row Defined, length-IsKeyedRow flags row h.1))
unpaired_refused flags (Update old new) count found h le lt unlike =
    let widths = length-IsKeyedUpdate flags old new h.2 in
    let j = count - length flags in
    let at : count ≡ length (old_wants flags) + j = omega (arith, old_width flags) in
    let here : want flags (Update old new) count ≡ get_or (new_wants flags old) j AnyField =
    ap (λ (n : ℕ). get_or (old_wants flags ++ new_wants flags old) n AnyField) at ∙ get_or-append-add (old_wants flags) (new_wants flags old) j AnyField in
    let form = new_form flags old j (omega (arith, lt, length-append old new, widths.0, widths.1, length-new_wants flags old widths.0)) in
    let is = here ∙ form.1 in
    let met = want_met flags (Update old new) count h lt in
    rw is (unlike_refused form.0 (get_or (old ++ new) count Undefined) found (rw is at met) unlike)
