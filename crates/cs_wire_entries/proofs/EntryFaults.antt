-- Faults inside an entry.
use Rattle.std.proofs.Common.{◌≡◌, ℕ, zero, suc, ◌+◌, ◌-◌, ◌<◌, ◌≤◌, Bool, true, false, cond, List, [], ◌∷◌, ◌++◌, length, get_or, None, Some, refl, sym, ap, subst, ◌∙◌, arith, length-append, inl, inr}
use Rattle.std.specs.Prelude.{◌⊎◌, Option}
use Rattle.std.proofs.lemmas.Bool.{cases_lt}
use Rattle.std.proofs.lemmas.List.{length-map, get_or_append_left, get_or-append-add}
use Rattle.cs_value.specs.declared.fault.FieldFaultKind.{FieldFaultKind}
use Rattle.cs_value.specs.declared.fault.FieldFaultKind.TheVariants as field
use Rattle.cs_value.specs.declared.value.OwnedValue.{OwnedValue}
use Rattle.cs_value.specs.declared.value.OwnedValue.TheVariants.{Int, Text, Blob, Null}
use Rattle.cs_value.specs.declared.value.OwnedField.{OwnedField}
use Rattle.cs_value.specs.declared.value.OwnedField.TheVariants.{Undefined, Defined}
use Rattle.cs_value.specs.Value.{IsField}
use Rattle.cs_value.specs.Spelling.{field_bytes}
use Rattle.cs_wire_entries.specs.declared.entry.Change.{Change}
use Rattle.cs_wire_entries.specs.declared.entry.Change.TheVariants.{Insert, Delete, Update}
use Rattle.cs_wire_entries.specs.declared.entry.Entry.{Entry}
use Rattle.cs_wire_entries.specs.declared.fault.ReadFaultKind.{ReadFaultKind}
use Rattle.cs_wire_entries.specs.declared.fault.ReadFaultKind.TheVariants.{UndefinedField, Unpaired, NullKey}
use Rattle.cs_wire_entries.specs.Entry.{IsChange, operation, fields_of}
use Rattle.cs_wire_entries.specs.Changeset.{HeaderData}
use Rattle.cs_wire_entries.specs.ReadFaults.{kind_of, Stands, EntryStart, FieldStart, HasNoField, IsWhole, IsKeyColumn, IsAlike, StandsBefore, StandsUnpaired, ReadCase}
use Rattle.cs_wire_entries.specs.Reading.{Want, KeyValue, AnyValue, AnyField, NewValue, Nothing, refusal, is_key_flag, in_row, in_old, in_new, is_modified, row_wants, old_wants, new_wants, wants_of, Meets, NoField, OtherField, ChangeRefused}
use Rattle.cs_wire_entries.proofs.ReadingLemmas.{Stands-then}
use Rattle.cs_value.proofs.KeyedRows.{length-IsKeyedRow}
use Rattle.cs_wire_entries.proofs.EntryLemmas.{length-IsKeyedUpdate}
use Rattle.cs_wire_entries.proofs.FieldsLemmas.{want_at, length-new_wants}
use Rattle.cs_wire_entries.proofs.ChangeLemmas.{key_flag, new_met}

-- there is no field where one is to begin
no_field_case : (file : List ℕ) (place : ℕ) (why : FieldFaultKind) → HasNoField file why place → ReadCase file (kind_of why) place
no_field_case file place field.Truncated h = inl (inr h)
no_field_case file place field.BadVarint h = inr h
no_field_case file place field.BadType h = h
no_field_case file place field.RealValue h = h
no_field_case file place field.BadText h = h

-- what it means that this is wanted of a field of a change
Means : List ℕ → Change → ℕ → Want → Type 0
Means flags change count KeyValue = (count < length flags) × IsKeyColumn flags count
Means flags change count AnyValue = (count < length flags) × IsWhole change
Means flags change count AnyField = Unit {0}
Means flags change count NewValue = (length flags ≤ count) × (refusal NewValue (get_or (fields_of change) count Undefined) ≡ None)
Means flags change count Nothing = (length flags ≤ count) × (refusal Nothing (get_or (fields_of change) count Undefined) ≡ None)

-- what is wanted of a field at a place
Meets-get : (wants : List Want) (fields : List OwnedField) (i : ℕ) → Meets wants fields → i < length wants → refusal (get_or wants i AnyField) (get_or fields i Undefined) ≡ None
Meets-get [] fields i h lt = absurd (omega arith)
Meets-get (w ∷ wants) [] i h lt = absurd h
Meets-get (w ∷ wants) (f ∷ fields) zero h lt = h.0
Meets-get (w ∷ wants) (f ∷ fields) (suc i) h lt = Meets-get wants fields i h.1 (omega arith)

row_means : (flags : List ℕ) (change : Change) (count : ℕ) → IsWhole change → count < length flags → Means flags change count (get_or (row_wants flags) count AnyField)
unfolding Means
row_means flags change count whole lt = rw (want_at (λ (flag : ℕ). in_row (is_key_flag flag)) flags count lt) (by_flag (get_or flags count 0) refl)
  where
    by_flag : (flag : ℕ) → get_or flags count 0 ≡ flag → Means flags change count (in_row (is_key_flag flag))
    by_flag zero is = (lt, whole)
    by_flag (suc flag) is = rw (key_flag flag) (lt, omega (arith, is))

old_means : (flags : List ℕ) (change : Change) (count : ℕ) → count < length flags → Means flags change count (get_or (old_wants flags) count AnyField)
unfolding Means
old_means flags change count lt = rw (want_at (λ (flag : ℕ). in_old (is_key_flag flag)) flags count lt) (by_flag (get_or flags count 0) refl)
  where
    by_flag : (flag : ℕ) → get_or flags count 0 ≡ flag → Means flags change count (in_old (is_key_flag flag))
    by_flag zero is = tt
    by_flag (suc flag) is = rw (key_flag flag) (lt, omega (arith, is))

-- a new record wants a value or nothing
new_form : (flags : List ℕ) (old : List OwnedField) (i : ℕ) → i < length (new_wants flags old) → (b : Bool) × (get_or (new_wants flags old) i AnyField ≡ in_new b)
new_form [] old i lt = absurd (omega arith)
new_form (flag ∷ flags) [] i lt = absurd (omega arith)
new_form (flag ∷ flags) (o ∷ old) zero lt = (is_modified flag o, refl)
new_form (flag ∷ flags) (o ∷ old) (suc i) lt = new_form flags old i (omega arith)

new_means : (flags : List ℕ) (change : Change) (count : ℕ) (want : Want) (b : Bool) → want ≡ in_new b → length flags ≤ count → refusal want (get_or (fields_of change) count Undefined) ≡ None → Means flags change count want
unfolding Means
new_means flags change count want true is le met = rw is (le, rw is at met)
new_means flags change count want false is le met = rw is (le, rw is at met)

update_means : (flags : List ℕ) (old new : List OwnedField) (count : ℕ) → IsChange flags (Update old new) → count < length (old ++ new) → Means flags (Update old new) count (get_or (old_wants flags ++ new_wants flags old) count AnyField)
update_means flags old new count is lt =
    let olds = old_wants flags in
    let news = new_wants flags old in
    let width = length-IsKeyedUpdate flags old new is.2 in
    let first : length olds ≡ length flags = length-map flags (λ (flag : ℕ). in_old (is_key_flag flag)) in
    elim (cases_lt count (length flags)) [
      | inl before ↦ rw (get_or_append_left olds news AnyField count (omega (arith, first))) (old_means flags (Update old new) count before)
      | inr behind ↦
          let j = count - length flags in
          let second : length news ≡ length flags = length-new_wants flags old width.0 in
          let within : j < length news = omega (arith, lt, length-append old new, width.0, width.1, second) in
          let at_olds : count ≡ length olds + j = omega (arith, first) in
          let at_old : count ≡ length old + j = omega (arith, width.0) in
          let here : get_or (olds ++ news) count AnyField ≡ get_or news j AnyField = ap (λ (n : ℕ). get_or (olds ++ news) n AnyField) at_olds ∙ get_or-append-add olds news j AnyField in
          let there : get_or (old ++ new) count Undefined ≡ get_or new j Undefined = ap (λ (n : ℕ). get_or (old ++ new) n Undefined) at_old ∙ get_or-append-add old new j Undefined in
          let form = new_form flags old j within in
          rw here (new_means flags (Update old new) count (get_or news j AnyField) form.0 form.1 behind (rw there (Meets-get news new j (new_met flags old new is.2) within)))
    ]

means : (flags : List ℕ) (change : Change) (count : ℕ) → IsChange flags change → count < length (fields_of change) → Means flags change count (get_or (wants_of flags change) count AnyField)
means flags (Insert row) count is lt = row_means flags (Insert row) count tt (omega (arith, length-map row (λ (v : OwnedValue). Defined v), length-IsKeyedRow flags row is.1))
means flags (Delete row) count is lt = row_means flags (Delete row) count tt (omega (arith, length-map row (λ (v : OwnedValue). Defined v), length-IsKeyedRow flags row is.1))
means flags (Update old new) count is lt = update_means flags old new count is lt

abbrev some : ReadFaultKind → Option ReadFaultKind
some kind = Some kind

some_is : (a b : ReadFaultKind) → some a ≡ some b → a ≡ b
some_is a b e = cc

not_some : (kind : ReadFaultKind) → None ≡ some kind → ⊥
not_some kind e = cc

-- one is wanted and the other is not
unlike_value : (f : OwnedField) → refusal NewValue f ≡ None → IsAlike Undefined f → ⊥
unlike_value Undefined met same = cc
unlike_value (Defined v) met same = same

unlike_nothing : (v : OwnedValue) (f : OwnedField) → refusal Nothing f ≡ None → IsAlike (Defined v) f → ⊥
unlike_nothing v Undefined met same = same
unlike_nothing v (Defined w) met same = cc

-- a field of a row or of an old record
before : {file : List ℕ} {place : ℕ} {found : OwnedField} {Holds : List ℕ → Change → ℕ → Type 0} (flags : List ℕ) (change : Change) (column to : ℕ) → FieldStart file place flags change column
    → column < length flags → Stands file place (field_bytes found) to → Holds flags change column → StandsBefore file place found Holds
before flags change column to start in_row stands holds = record { flags = flags; change = change; column = column; to = to; start = start; in_row = in_row; stands = stands; holds = holds }

-- a field of a new record that is defined where none is wanted, or the reverse
unpaired : {file : List ℕ} {place : ℕ} (flags : List ℕ) (change : Change) (count : ℕ) (found : OwnedField) (to : ℕ) → FieldStart file place flags change count → length flags ≤ count → IsField found
    → Stands file place (field_bytes found) to → (IsAlike found (get_or (fields_of change) count Undefined) → ⊥) → StandsUnpaired file place
unpaired flags change count found to start in_new is stands unlike =
    record { flags = flags; change = change; count = count; found = found; to = to; start = start; in_new = in_new; is_field = is; stands = stands; unlike = unlike }

-- a field that is not wanted is where one is to begin
other_field_case : (file : List ℕ) (place : ℕ) (flags : List ℕ) (change : Change) (count : ℕ) (want : Want) (f : OwnedField) (to : ℕ) (kind : ReadFaultKind) → FieldStart file place flags change count
    → Means flags change count want → IsField f → Stands file place (field_bytes f) to → refusal want f ≡ Some kind → ReadCase file kind place
unfolding Means
other_field_case file place flags change count KeyValue Undefined to kind start m is stands why = subst (λ (k : ReadFaultKind). ReadCase file k place) (some_is UndefinedField kind why) (before flags change count to start m.0 stands (inr m.1))
other_field_case file place flags change count KeyValue (Defined (Int z)) to kind start m is stands why = absurd (not_some kind why)
other_field_case file place flags change count KeyValue (Defined (Text t)) to kind start m is stands why = absurd (not_some kind why)
other_field_case file place flags change count KeyValue (Defined (Blob b)) to kind start m is stands why = absurd (not_some kind why)
other_field_case file place flags change count KeyValue (Defined Null) to kind start m is stands why = subst (λ (k : ReadFaultKind). ReadCase file k place) (some_is NullKey kind why) (before flags change count to start m.0 stands m.1)
other_field_case file place flags change count AnyValue Undefined to kind start m is stands why = subst (λ (k : ReadFaultKind). ReadCase file k place) (some_is UndefinedField kind why) (before flags change count to start m.0 stands (inl m.1))
other_field_case file place flags change count AnyValue (Defined v) to kind start m is stands why = absurd (not_some kind why)
other_field_case file place flags change count AnyField f to kind start m is stands why = absurd (not_some kind why)
other_field_case file place flags change count NewValue Undefined to kind start m is stands why =
    subst (λ (k : ReadFaultKind). ReadCase file k place) (some_is Unpaired kind why) (unpaired flags change count Undefined to start m.0 is stands (unlike_value (get_or (fields_of change) count Undefined) m.1))
other_field_case file place flags change count NewValue (Defined v) to kind start m is stands why = absurd (not_some kind why)
other_field_case file place flags change count Nothing Undefined to kind start m is stands why = absurd (not_some kind why)
other_field_case file place flags change count Nothing (Defined v) to kind start m is stands why =
    subst (λ (k : ReadFaultKind). ReadCase file k place) (some_is Unpaired kind why) (unpaired flags change count (Defined v) to start m.0 is stands (unlike_nothing v (get_or (fields_of change) count Undefined) m.1))

-- a change that is refused after an operation and an indirect flag
pub change_case : (file : List ℕ) (from at : ℕ) (header : HeaderData) (entries : List Entry) (byte : ℕ) (indirect : Bool) (flags : List ℕ) → flags ≡ header.flags → EntryStart file from header entries
    → Stands file from (byte ∷ cond indirect 1 0 ∷ []) at → (kind : ReadFaultKind) (place : ℕ) → ChangeRefused byte flags file at kind place → ReadCase file kind place
change_case file from at header entries byte indirect flags same start stands kind place r =
    let head : Stands file from (operation r.change ∷ cond indirect 1 0 ∷ []) at = rw r.does stands in
    let begun : FieldStart file r.end flags r.change r.count = record {
      from = from;
      header = header;
      entries = entries;
      start = start;
      flags_are = same;
      is_change = r.is_change;
      more = r.fewer;
      indirect = indirect;
      stand = Stands-then file from at r.end _ _ head r.stands;
    } in
    by_why begun r.why
  where
    by_why : FieldStart file r.end flags r.change r.count → NoField file r.end kind place ⊎ OtherField (get_or (wants_of flags r.change) r.count AnyField) file r.end kind place → ReadCase file kind place
    by_why begun (inl none) = subst (λ (k : ReadFaultKind). ReadCase file k place) (sym none.kind_is) (no_field_case file place none.why (record { at = r.end; behind = none.behind; flags = flags; change = r.change; count = r.count; start = begun; fails = none.fails; place_is = none.place_is }))
    by_why begun (inr other) =
        subst (λ (p : ℕ). ReadCase file kind p) (sym other.place_is) (other_field_case file r.end flags r.change r.count (get_or (wants_of flags r.change) r.count AnyField) other.field other.end kind begun (means flags r.change r.count r.is_change r.fewer) other.is_field other.stands other.refused)
