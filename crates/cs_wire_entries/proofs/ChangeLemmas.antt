-- Changes, by what is wanted in their columns.
use Rattle.std.proofs.Common.{◌≡◌, ◌≢◌, ℕ, zero, suc, ◌+◌, ◌≤◌, pos, not, Bool, true, false, List, [], ◌∷◌, ◌++◌, length, map, take, drop, get_or, None, refl, sym, ap, ◌∙◌, append_assoc, arith, length-append}
use Rattle.std.proofs.lemmas.Bool.{ne_eqb}
use Rattle.std.proofs.lemmas.List.{append-nil, length-map, take_at, get_or_append_left, get_or-append-add}
use Rattle.std.proofs.lemmas.List.Concat.{flat_map-append}
use Rattle.cs_value.specs.declared.value.OwnedValue.{OwnedValue}
use Rattle.cs_value.specs.declared.value.OwnedValue.TheVariants.{Int, Text, Blob, Null}
use Rattle.cs_value.specs.declared.value.OwnedField.{OwnedField}
use Rattle.cs_value.specs.declared.value.OwnedField.TheVariants.{Undefined, Defined}
use Rattle.cs_value.specs.Value.{IsField, IsRecord, IsRow}
use Rattle.cs_value.specs.Spelling.{field_bytes, record_bytes}
use Rattle.cs_value.proofs.ListLemmas.{AllByRecursion-append}
use Rattle.cs_wire_entries.specs.declared.entry.Change.{Change}
use Rattle.cs_wire_entries.specs.declared.entry.Change.TheVariants.{Insert, Delete, Update}
use Rattle.cs_wire_entries.specs.declared.fault.ReadFaultKind.{ReadFaultKind}
use Rattle.cs_value.specs.Table.{IsKeyedRow}
use Rattle.cs_wire_entries.specs.Entry.{IsPaired, IsKeyPair, IsKeyedUpdate, IsChange, operation, fields_of}
use Rattle.cs_wire_entries.specs.Items.{value_in}
use Rattle.cs_wire_entries.specs.ReadFaults.{Stands}
use Rattle.cs_wire_entries.specs.Reading.{Want, KeyValue, AnyValue, AnyField, NewValue, Nothing, refusal, is_key_flag, in_row, in_old, in_new, is_modified, row_wants, old_wants, new_wants, wants_of, Meets, IsRecordAt, RecordRefused, ChangeRefused}
use Rattle.cs_wire_entries.proofs.ReadingLemmas.{Stands-then, rest_is}
use Rattle.cs_value.proofs.RowImages.{IsRow-map}
use Rattle.cs_wire_entries.proofs.FieldsLemmas.{length-Meets}

-- a flag other than 0 marks a key column
pub key_flag : (flag : ℕ) → is_key_flag (suc flag) ≡ true
key_flag flag = ap not (ne_eqb (suc flag) 0 (omega arith))

-- a value of a key is not NULL
key_value : (v : OwnedValue) → v ≢ Null → refusal KeyValue (Defined v) ≡ None
key_value (Int z) h = refl
key_value (Text t) h = refl
key_value (Blob b) h = refl
key_value Null h = absurd (h refl)

not_null : (v : OwnedValue) → refusal KeyValue (Defined v) ≡ None → v ≢ Null
not_null (Int z) h = λ e. cc
not_null (Text t) h = λ e. cc
not_null (Blob b) h = λ e. cc
not_null Null h = absurd cc

-- ---- rows

pub row_met : (flags : List ℕ) (row : List OwnedValue) → IsKeyedRow flags row → Meets (row_wants flags) (map Defined row)
row_met [] [] h = tt
row_met (zero ∷ flags) (v ∷ row) h = (refl, row_met flags row h)
row_met (suc flag ∷ flags) (v ∷ row) h = (ap (λ (b : Bool). refusal (in_row b) (Defined v)) (key_flag flag) ∙ key_value v h.0, row_met flags row h.1)
row_met [] (v ∷ row) h = absurd h
row_met (zero ∷ flags) [] h = absurd h
row_met (suc flag ∷ flags) [] h = absurd h

pub keyed_row : (flags : List ℕ) (row : List OwnedValue) → Meets (row_wants flags) (map Defined row) → IsKeyedRow flags row
keyed_row [] [] h = tt
keyed_row (zero ∷ flags) (v ∷ row) h = keyed_row flags row h.1
keyed_row (suc flag ∷ flags) (v ∷ row) h = (not_null v (sym (ap (λ (b : Bool). refusal (in_row b) (Defined v)) (key_flag flag)) ∙ h.0), keyed_row flags row h.1)
keyed_row [] (v ∷ row) h = absurd h
keyed_row (zero ∷ flags) [] h = absurd h
keyed_row (suc flag ∷ flags) [] h = absurd h

undefined_refused : (b : Bool) → refusal (in_row b) Undefined ≡ None → ⊥
undefined_refused true h = cc
undefined_refused false h = cc

-- the fields of a row are values
pub row_of : (flags : List ℕ) (fields : List OwnedField) → Meets (row_wants flags) fields → (row : List OwnedValue) × (fields ≡ map Defined row)
row_of [] [] h = ([], refl)
row_of (flag ∷ flags) (Defined v ∷ fields) h =
    let others = row_of flags fields h.1 in
    (v ∷ others.0, ap (λ (fs : List OwnedField). Defined v ∷ fs) others.1)
row_of (flag ∷ flags) (Undefined ∷ fields) h = absurd (undefined_refused (is_key_flag flag) h.0)
row_of [] (f ∷ fields) h = absurd h
row_of (flag ∷ flags) [] h = absurd h

-- the fields of a row are its values
pub row_values : (flags : List ℕ) (fields : List OwnedField) → Meets (row_wants flags) fields → map Defined (map value_in fields) ≡ fields
row_values [] [] h = refl
row_values (flag ∷ flags) (Defined v ∷ fields) h = ap (λ (fs : List OwnedField). Defined v ∷ fs) (row_values flags fields h.1)
row_values (flag ∷ flags) (Undefined ∷ fields) h = absurd (undefined_refused (is_key_flag flag) h.0)
row_values [] (f ∷ fields) h = absurd h
row_values (flag ∷ flags) [] h = absurd h

-- ---- updates

old_met_key : (o n : OwnedField) → IsKeyPair o n → refusal KeyValue o ≡ None
old_met_key (Defined v) Undefined h = key_value v h
old_met_key (Defined v) (Defined w) h = absurd h
old_met_key Undefined n h = absurd h

pub old_met : (flags : List ℕ) (old new : List OwnedField) → IsKeyedUpdate flags old new → Meets (old_wants flags) old
old_met [] [] [] h = tt
old_met (zero ∷ flags) (o ∷ old) (n ∷ new) h = (refl, old_met flags old new h.1)
old_met (suc flag ∷ flags) (o ∷ old) (n ∷ new) h = (ap (λ (b : Bool). refusal (in_old b) o) (key_flag flag) ∙ old_met_key o n h.0, old_met flags old new h.1)
old_met [] [] (n ∷ new) h = absurd h
old_met [] (o ∷ old) new h = absurd h
old_met (zero ∷ flags) [] new h = absurd h
old_met (suc flag ∷ flags) [] new h = absurd h
old_met (zero ∷ flags) (o ∷ old) [] h = absurd h
old_met (suc flag ∷ flags) (o ∷ old) [] h = absurd h

new_met_other : (o n : OwnedField) → IsPaired o n → refusal (in_new (is_modified 0 o)) n ≡ None
new_met_other Undefined Undefined h = refl
new_met_other (Defined v) (Defined w) h = refl
new_met_other Undefined (Defined w) h = absurd h
new_met_other (Defined v) Undefined h = absurd h

-- no key column is modified
not_modified : (flag : ℕ) (o : OwnedField) → is_modified (suc flag) o ≡ false
not_modified flag o = rw (ne_eqb (suc flag) 0 (omega arith)) refl

new_met_key : (o n : OwnedField) → IsKeyPair o n → refusal Nothing n ≡ None
new_met_key (Defined v) Undefined h = refl
new_met_key (Defined v) (Defined w) h = absurd h
new_met_key Undefined n h = absurd h

pub new_met : (flags : List ℕ) (old new : List OwnedField) → IsKeyedUpdate flags old new → Meets (new_wants flags old) new
new_met [] [] [] h = tt
new_met (zero ∷ flags) (o ∷ old) (n ∷ new) h = (new_met_other o n h.0, new_met flags old new h.1)
new_met (suc flag ∷ flags) (o ∷ old) (n ∷ new) h = (ap (λ (b : Bool). refusal (in_new b) n) (not_modified flag o) ∙ new_met_key o n h.0, new_met flags old new h.1)
new_met [] [] (n ∷ new) h = absurd h
new_met [] (o ∷ old) new h = absurd h
new_met (zero ∷ flags) [] new h = absurd h
new_met (suc flag ∷ flags) [] new h = absurd h
new_met (zero ∷ flags) (o ∷ old) [] h = absurd h
new_met (suc flag ∷ flags) (o ∷ old) [] h = absurd h

paired_of : (o n : OwnedField) → refusal (in_new (is_modified 0 o)) n ≡ None → IsPaired o n
paired_of Undefined Undefined h = tt
paired_of (Defined v) (Defined w) h = tt
paired_of Undefined (Defined w) h = absurd cc
paired_of (Defined v) Undefined h = absurd cc

key_pair_of : (o n : OwnedField) → refusal KeyValue o ≡ None → refusal Nothing n ≡ None → IsKeyPair o n
key_pair_of (Defined v) Undefined h k = not_null v h
key_pair_of (Defined v) (Defined w) h k = absurd cc
key_pair_of Undefined n h k = absurd cc

pub keyed_update : (flags : List ℕ) (old new : List OwnedField) → Meets (old_wants flags) old → Meets (new_wants flags old) new → IsKeyedUpdate flags old new
keyed_update [] [] [] h k = tt
keyed_update (zero ∷ flags) (o ∷ old) (n ∷ new) h k = (paired_of o n k.0, keyed_update flags old new h.1 k.1)
keyed_update (suc flag ∷ flags) (o ∷ old) (n ∷ new) h k = (
  key_pair_of o n (sym (ap (λ (b : Bool). refusal (in_old b) o) (key_flag flag)) ∙ h.0) (sym (ap (λ (b : Bool). refusal (in_new b) n) (not_modified flag o)) ∙ k.0),
  keyed_update flags old new h.1 k.1,
)
keyed_update [] [] (n ∷ new) h k = absurd k
keyed_update [] (o ∷ old) new h k = absurd h
keyed_update (flag ∷ flags) [] new h k = absurd h
keyed_update (zero ∷ flags) (o ∷ old) [] h k = absurd k
keyed_update (suc flag ∷ flags) (o ∷ old) [] h k = absurd k

-- ---- records that are begun can be ended

-- a field that is wanted
filler : Want → OwnedField
filler KeyValue = Defined (Int (pos 0))
filler AnyValue = Defined Null
filler AnyField = Undefined
filler NewValue = Defined Null
filler Nothing = Undefined

filler_met : (want : Want) → refusal want (filler want) ≡ None
unfolding filler
filler_met KeyValue = refl
filler_met AnyValue = refl
filler_met AnyField = refl
filler_met NewValue = refl
filler_met Nothing = refl

filler_is : (want : Want) → IsField (filler want)
unfolding filler
filler_is KeyValue = record { sfits = omega arith }
filler_is AnyValue = tt
filler_is AnyField = tt
filler_is NewValue = tt
filler_is Nothing = tt

pub filled : List Want → List OwnedField → List OwnedField
filled wants fields = fields ++ map filler (drop (length fields) wants)

fillers_met : (wants : List Want) → Meets wants (map filler wants)
fillers_met [] = tt
fillers_met (w ∷ wants) = (filler_met w, fillers_met wants)

fillers_are : (wants : List Want) → IsRecord (map filler wants)
fillers_are [] = tt
fillers_are (w ∷ wants) = (filler_is w, fillers_are wants)

pub filled_met : (wants : List Want) (fields : List OwnedField) → length fields ≤ length wants → Meets (take (length fields) wants) fields → Meets wants (filled wants fields)
unfolding filled
filled_met wants [] le h = fillers_met wants
filled_met [] (f ∷ fields) le h = absurd (omega arith)
filled_met (w ∷ wants) (f ∷ fields) le h = (h.0, filled_met wants fields (omega arith) h.1)

pub filled_is : (wants : List Want) (fields : List OwnedField) → IsRecord fields → IsRecord (filled wants fields)
unfolding filled
filled_is wants fields h = AllByRecursion-append IsField fields (map filler (drop (length fields) wants)) h (fillers_are (drop (length fields) wants))

-- ---- changes that are begun

module _ (flags file : List ℕ) (at : ℕ) where
  -- a record that is refused refuses a change whose first record it is
  first_refused : (change : Change) (wants more : List Want) (kind : ReadFaultKind) (place : ℕ) (r : RecordRefused wants file at kind place) (after : List OwnedField)
      → IsChange flags change → fields_of change ≡ filled wants r.fields ++ after → wants_of flags change ≡ wants ++ more → ChangeRefused (operation change) flags file at kind place
  unfolding filled
  first_refused change wants more kind place r after is fields_are wants_are = record {
    change = change;
    count = length r.fields;
    end = r.end;
    is_change = is;
    does = refl;
    fewer = rw fields_are (omega (arith, length-append (filled wants r.fields) after, length-Meets wants (filled wants r.fields) (filled_met wants r.fields (omega (arith, r.fewer)) r.wanted), r.fewer));
    stands =
        let front : take (length r.fields) (fields_of change) ≡ r.fields =
        rw (fields_are, append_assoc) (take_at r.fields (map filler (drop (length r.fields) wants) ++ after) (length r.fields) refl) in
        rw front r.stands;
    why = rw (wants_are, get_or_append_left wants more AnyField (length r.fields) r.fewer) r.why;
  }

  pub row_refused : (kind : ReadFaultKind) (place : ℕ) → RecordRefused (row_wants flags) file at kind place → (change : List OwnedValue → Change) → ((row : List OwnedValue) → fields_of (change row) ≡ map Defined row)
      → ((row : List OwnedValue) → wants_of flags (change row) ≡ row_wants flags) → ((row : List OwnedValue) → IsRow row → IsKeyedRow flags row → IsChange flags (change row))
      → (byte : ℕ) → ((row : List OwnedValue) → operation (change row) ≡ byte) → ChangeRefused byte flags file at kind place
  row_refused kind place r change fields_are wants_are is byte does =
      let wants = row_wants flags in
      let all = filled wants r.fields in
      let met = filled_met wants r.fields (omega (arith, r.fewer)) r.wanted in
      let row = row_of flags all met in
      let whole = is row.0 (IsRow-map row.0 (rw row.1 at (filled_is wants r.fields r.is_record))) (keyed_row flags row.0 (rw row.1 at met)) in
      rw (← does row.0) (first_refused (change row.0) wants [] kind place r [] whole (fields_are row.0 ∙ sym row.1 ∙ sym (append-nil all)) (wants_are row.0 ∙ sym (append-nil wants)))

  pub old_refused : (kind : ReadFaultKind) (place : ℕ) → RecordRefused (old_wants flags) file at kind place → ChangeRefused 0x17 flags file at kind place
  old_refused kind place r =
      let wants = old_wants flags in
      let old = filled wants r.fields in
      let met = filled_met wants r.fields (omega (arith, r.fewer)) r.wanted in
      let new = map filler (new_wants flags old) in
      first_refused (Update old new) wants (new_wants flags old) kind place r new
      (filled_is wants r.fields r.is_record, fillers_are (new_wants flags old), keyed_update flags old new met (fillers_met (new_wants flags old))) refl refl

  pub new_refused : (old : List OwnedField) (middle : ℕ) → IsRecordAt (old_wants flags) file at old middle → (kind : ReadFaultKind) (place : ℕ) → RecordRefused (new_wants flags old) file middle kind place
      → ChangeRefused 0x17 flags file at kind place
  unfolding filled
  new_refused old middle o kind place r =
      let wants = new_wants flags old in
      let new = filled wants r.fields in
      let met = filled_met wants r.fields (omega (arith, r.fewer)) r.wanted in
      let width = length-Meets (old_wants flags) old o.wanted in
      let count = length old + length r.fields in record {
        change = Update old new;
        count = count;
        end = r.end;
        is_change = (o.is_record, filled_is wants r.fields r.is_record, keyed_update flags old new o.wanted met);
        does = refl;
        fewer = omega (arith, length-append old new, length-Meets wants new met, r.fewer);
        stands =
            let front : take count (old ++ new) ≡ old ++ r.fields =
            rw (← append_assoc old r.fields (map filler (drop (length r.fields) wants))) (take_at (old ++ r.fields) (map filler (drop (length r.fields) wants)) count (length-append old r.fields)) in
            rw (front, flat_map-append) (Stands-then file at middle r.end (record_bytes old) (record_bytes r.fields) o.stands r.stands);
        why =
            let here : get_or (old_wants flags ++ wants) count AnyField ≡ get_or wants (length r.fields) AnyField =
            ap (λ (n : ℕ). get_or (old_wants flags ++ wants) (n + length r.fields) AnyField) (sym width) ∙ get_or-append-add (old_wants flags) wants (length r.fields) AnyField in
            rw here r.why;
      }

-- ---- changes by their operation

pub inserted : (change : Change) → operation change ≡ 0x12 → (row : List OwnedValue) × (change ≡ Insert row)
inserted (Insert row) e = (row, refl)
inserted (Delete row) e = absurd (omega arith)
inserted (Update old new) e = absurd (omega arith)

pub deleted : (change : Change) → operation change ≡ 0x09 → (row : List OwnedValue) × (change ≡ Delete row)
deleted (Insert row) e = absurd (omega arith)
deleted (Delete row) e = (row, refl)
deleted (Update old new) e = absurd (omega arith)

pub updated : (change : Change) → operation change ≡ 0x17 → (old : List OwnedField) × (new : List OwnedField) × (change ≡ Update old new)
updated (Insert row) e = absurd (omega arith)
updated (Delete row) e = absurd (omega arith)
updated (Update old new) e = (old, new, refl)

-- ---- the records of an update

pub length-old : (flags : List ℕ) (old : List OwnedField) → Meets (old_wants flags) old → length flags ≡ length old
length-old flags old met = sym (length-map flags (λ (flag : ℕ). in_old (is_key_flag flag))) ∙ length-Meets (old_wants flags) old met

pub spelled_update : (file : List ℕ) (at : ℕ) (old new : List OwnedField) (rest : List ℕ) → drop at file ≡ record_bytes (old ++ new) ++ rest → drop at file ≡ record_bytes old ++ (record_bytes new ++ rest)
spelled_update file at old new rest e = e ∙ ap (λ (x : List ℕ). x ++ rest) (flat_map-append field_bytes old new) ∙ append_assoc (record_bytes old) (record_bytes new) rest

pub behind_old : (file : List ℕ) (at middle : ℕ) (read old : List OwnedField) (tail : List ℕ) → Stands file at (record_bytes read) middle → read ≡ old → drop at file ≡ record_bytes old ++ tail → drop middle file ≡ tail
behind_old file at middle read old tail stands same e = rest_is file at middle (record_bytes old) tail (rw (← same) stands) e
