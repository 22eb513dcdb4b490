-- Fields in a file.
use Rattle.std.proofs.Common.{◌≡◌, ℕ, zero, suc, ◌+◌, ◌-◌, ◌<◌, ◌≤◌, List, [], ◌∷◌, ◌++◌, length, map, take, drop, get_or, Result, Ok, Err, refl, sym, ap, ◌∙◌, append_assoc, arith}
use Rattle.std.proofs.lemmas.List.{append-nil, drop_at, drop_all, drop_more, length-map, take_at, get_or_default}
use Rattle.std.proofs.lemmas.List.Elements.{All-from_recursion}
use Rattle.cs_value.specs.declared.fault.FieldFault.{FieldFault}
use Rattle.cs_value.specs.declared.value.OwnedField.{OwnedField}
use Rattle.cs_value.specs.declared.value.OwnedField.TheVariants.{Undefined}
use Rattle.cs_value.specs.Value.{AreBytes, IsField, IsRecord}
use Rattle.cs_value.specs.Spelling.{field_bytes, record_bytes, BeginsWith}
use Rattle.cs_value.specs.Reading.{field_at}
use Rattle.cs_value.proofs.FieldAgain.{field_again}
use Rattle.cs_value.proofs.FieldTakes.{field_takes}
use Rattle.cs_wire_entries.specs.declared.reader.record.Columns.{Columns}
use Rattle.cs_wire_entries.specs.declared.reader.record.Columns.TheVariants.{Row, Old, New}
use Rattle.cs_wire_entries.specs.Items.{read_or_undefined, front_of, fields_in}
use Rattle.cs_wire_entries.specs.Reading.{Want, is_key_flag, in_row, in_old, wants_in, IsRecordAt}
use Rattle.cs_wire_entries.proofs.FieldsLemmas.{length-Meets, length-new_wants}

-- ---- the field at the front

-- a field that is there
pub front_is : (bytes : List ℕ) (f : OwnedField) (used : ℕ) → IsField f → BeginsWith bytes (field_bytes f) used → front_of bytes ≡ (f, used)
front_is bytes f used is begins = ap read_or_undefined (ap field_at begins.whole ∙ field_again f (drop used bytes) is) ∙ ap (λ (n : ℕ). (f, n)) (sym begins.count)

-- none is there
pub front_none : (bytes : List ℕ) → AreBytes bytes → ((f : OwnedField) (rest : List ℕ) → IsField f → bytes ≡ field_bytes f ++ rest → ⊥) → front_of bytes ≡ (Undefined, 0)
front_none bytes fits none = by_read (field_at bytes) refl
  where
    by_read : (read : Result (OwnedField × ℕ) FieldFault) → field_at bytes ≡ read → read_or_undefined read ≡ (Undefined, 0)
    by_read (Ok x) e =
        let taken = field_takes bytes x fits e in
        absurd (none x.0 (drop x.1 bytes) taken.0 taken.1.whole)
    by_read (Err fault) e = refl

-- ---- fields one after the other

pub length-fields_in : (count : ℕ) (bytes : List ℕ) → length (fields_in count bytes) ≡ count
unfolding fields_in
length-fields_in zero bytes = refl
length-fields_in (suc count) bytes = ap suc (length-fields_in count (drop (front_of bytes).1 bytes))

-- the next of those that are left
pub fields_in-next : (count i : ℕ) (rest : List ℕ) → i < count → fields_in (count - i) rest ≡ (front_of rest).0 ∷ fields_in (count - (i + 1)) (drop (front_of rest).1 rest)
unfolding fields_in
fields_in-next count i rest lt =
    let left : count - i ≡ suc (count - (i + 1)) = omega (arith, lt) in
    ap (λ (n : ℕ). fields_in n rest) left

-- none is left
pub fields_in-end : (count i : ℕ) (rest : List ℕ) → count ≤ i → fields_in (count - i) rest ≡ []
unfolding fields_in
fields_in-end count i rest le =
    let none : count - i ≡ 0 = omega (arith, le) in
    ap (λ (n : ℕ). fields_in n rest) none

-- a record that is spelled, whatever follows it
pub fields_in-spelled : (fields : List OwnedField) (rest : List ℕ) → IsRecord fields → fields_in (length fields) (record_bytes fields ++ rest) ≡ fields
unfolding fields_in
fields_in-spelled [] rest are = refl
fields_in-spelled (f ∷ fields) rest are =
    let behind = record_bytes fields ++ rest in
    let front : front_of (field_bytes f ++ behind) ≡ (f, length (field_bytes f)) = ap read_or_undefined (field_again f behind are.0) in
    rw (append_assoc (field_bytes f) (record_bytes fields) rest, front, drop_at (field_bytes f) behind (length (field_bytes f)) refl, fields_in-spelled fields rest are.1) refl

-- ---- copies of the fields that were passed, and those that are left

module _ {X : Type 0} (of : OwnedField → X) (count i : ℕ) (rest : List ℕ) (cells all : List X) (so : cells ++ map of (fields_in (count - i) rest) ≡ all) where
  pub cells-next : (f : OwnedField) (others : List ℕ) (cell : X) (grown : List X) → i < count → f ≡ (front_of rest).0 → others ≡ drop (front_of rest).1 rest
      → cell ≡ of f → grown ≡ cells ++ cell ∷ [] → grown ++ map of (fields_in (count - (i + 1)) others) ≡ all
  cells-next f others cell grown lt f_is others_is cell_is grown_is =
      rw (grown_is, cell_is, f_is, others_is, append_assoc) (rw (fields_in-next count i rest lt) at so)

  pub cells-end : count ≤ i → cells ≡ all
  cells-end le = sym (append-nil cells) ∙ rw (fields_in-end count i rest le) at so

-- ---- a column's field

module _ (count column i : ℕ) (rest : List ℕ) (x : OwnedField) (so : get_or (fields_in (count - i) rest) (column - i) Undefined ≡ x) (within : column < count) where
  pub field_in-next : (others : List ℕ) → i < column → others ≡ drop (front_of rest).1 rest → get_or (fields_in (count - (i + 1)) others) (column - (i + 1)) Undefined ≡ x
  field_in-next others lt others_is =
      let left : column - i ≡ suc (column - (i + 1)) = omega (arith, lt) in
      rw others_is (rw (fields_in-next count i rest (omega (arith, lt, within)), left) at so)

  pub field_in-end : i ≤ column → column ≤ i → (front_of rest).0 ≡ x
  field_in-end le ge =
      let left : column - i ≡ 0 = omega (arith, le, ge) in
      rw (fields_in-next count i rest (omega (arith, le, within)), left) at so

-- ---- what is wanted, by columns

pub wants_in-none : (columns : Columns) (flags : List ℕ) (i : ℕ) → length flags ≤ i → wants_in columns (drop i flags) ≡ []
wants_in-none columns flags i le = rw (drop_all i flags le) (none columns)
  where
    none : (columns : Columns) → wants_in columns [] ≡ []
    none Row = refl
    none Old = refl
    none (New old) = refl

-- what is wanted in the next column
pub next_want : (left : Columns) (flags : List ℕ) (i : ℕ) (want : Want) (others : Columns) → i < length flags
    → ((rest : List ℕ) → wants_in left (get_or flags i 0 ∷ rest) ≡ want ∷ wants_in others rest) → wants_in left (drop i flags) ≡ want ∷ wants_in others (drop (i + 1) flags)
next_want left flags i want others lt next = ap (wants_in left) (drop_more flags i 0 lt) ∙ next (drop (i + 1) flags)

pub length-wants_in : (columns : Columns) (flags : List ℕ) → length (wants_in columns flags) ≡ length flags
length-wants_in Row flags = length-map flags (λ (flag : ℕ). in_row (is_key_flag flag))
length-wants_in Old flags = length-map flags (λ (flag : ℕ). in_old (is_key_flag flag))
length-wants_in (New old) flags = length-new_wants flags (fields_in (length flags) old.now) (sym (length-fields_in (length flags) old.now))

-- a record that is read is the fields of its bytes
pub fields_in-record : (columns : Columns) (flags file : List ℕ) (at end : ℕ) (fields : List OwnedField) (bytes : List ℕ) → IsRecordAt (wants_in columns flags) file at fields end
    → bytes ≡ record_bytes fields → fields_in (length flags) bytes ≡ fields
fields_in-record columns flags file at end fields bytes r same =
    let width : length flags ≡ length fields = sym (length-wants_in columns flags) ∙ length-Meets (wants_in columns flags) fields r.wanted in
    rw (width, same, ← append-nil (record_bytes fields)) (fields_in-spelled fields [] r.is_record)

-- ---- a record that is left

-- the field at the front of what is left
pub front_left : (fields : List OwnedField) (i : ℕ) (left : List ℕ) → IsRecord fields → i < length fields → left ≡ record_bytes (drop i fields)
    → (f : OwnedField) × (f ≡ get_or fields i f) × (take (front_of left).1 left ≡ field_bytes f) × (drop (front_of left).1 left ≡ record_bytes (drop (i + 1) fields))
front_left fields i left are lt e =
    let f = get_or fields i Undefined in
    let behind = record_bytes (drop (i + 1) fields) in
    let is : left ≡ field_bytes f ++ behind = e ∙ ap record_bytes (drop_more fields i Undefined lt) in
    let here : IsField f = All-from_recursion IsField fields are i Undefined lt in
    let front : front_of (field_bytes f ++ behind) ≡ (f, length (field_bytes f)) = ap read_or_undefined (field_again f behind here) in
    (f, get_or_default fields i Undefined f lt, rw (is, front) (take_at (field_bytes f) behind (length (field_bytes f)) refl), rw (is, front) (drop_at (field_bytes f) behind (length (field_bytes f)) refl))
