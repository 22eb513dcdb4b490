-- What the private readers answer. No public contract names these: what reading is for is said by Changeset and
-- ReadFaults.
use Rattle.std.specs.Prelude.{◌≡◌, ℕ, ◌+◌, ◌<◌, ◌==◌, ◌⊎◌, Bool, true, false, not, if◌then◌else◌}
use Rattle.std.specs.Prelude.{List, [], ◌∷◌, ◌++◌, length, map, take, drop, slice_index, slice_index_or, slice_get}
use Rattle.std.specs.Prelude.{Option, Some, None}
use Rattle.cs_value.specs.declared.fault.FieldFaultKind.{FieldFaultKind}
use Rattle.cs_value.specs.declared.value.OwnedValue.TheVariants.{Int, Text, Blob, Null}
use Rattle.cs_value.specs.declared.value.OwnedField.{OwnedField}
use Rattle.cs_value.specs.declared.value.OwnedField.TheVariants.{Undefined, Defined}
use Rattle.cs_value.specs.Value.{IsField, IsRecord}
use Rattle.cs_value.specs.Spelling.{field_bytes, record_bytes}
use Rattle.cs_value.specs.FieldFaults.{VarintFails, FieldFails}
use Rattle.cs_wire_entries.specs.declared.entry.Change.{Change}
use Rattle.cs_wire_entries.specs.declared.entry.Change.TheVariants.{Insert, Delete, Update}
pub use Rattle.cs_wire_entries.specs.declared.reader.record.Want.{Want}
pub use Rattle.cs_wire_entries.specs.declared.reader.record.Want.TheVariants.{KeyValue, AnyValue, AnyField, NewValue, Nothing}
use Rattle.cs_wire_entries.specs.declared.reader.record.Columns.{Columns}
use Rattle.cs_wire_entries.specs.declared.reader.record.Columns.TheVariants.{Row, Old, New}
use Rattle.cs_wire_entries.specs.declared.fault.ReadFaultKind.{ReadFaultKind}
use Rattle.cs_wire_entries.specs.declared.fault.ReadFaultKind.TheVariants.{Truncated, BadFlag, BadOp}
use Rattle.cs_wire_entries.specs.declared.fault.ReadFaultKind.TheVariants.{UndefinedField, Unpaired, NullKey}
use Rattle.cs_wire_entries.specs.Entry.{IsChange, operation, fields_of}
use Rattle.cs_wire_entries.specs.Items.{fields_in}
use Rattle.cs_wire_entries.specs.ReadFaults.{kind_of, Stands, IsOperation}

-- what follows the entries of a table: nothing, or a header
abbrev pub EndsGroup : List ℕ → Type 0
EndsGroup rest = (rest ≡ []) ⊎ (slice_get rest 0 ≡ Some 0x54)

-- why a field is not what is wanted
abbrev pub refusal : Want → OwnedField → Option ReadFaultKind
refusal KeyValue Undefined = Some UndefinedField
refusal KeyValue (Defined (Int z)) = None
refusal KeyValue (Defined (Text t)) = None
refusal KeyValue (Defined (Blob b)) = None
refusal KeyValue (Defined Null) = Some NullKey
refusal AnyValue Undefined = Some UndefinedField
refusal AnyValue (Defined v) = None
refusal AnyField f = None
refusal NewValue Undefined = Some Unpaired
refusal NewValue (Defined v) = None
refusal Nothing Undefined = None
refusal Nothing (Defined v) = Some Unpaired

abbrev pub is_key_flag : ℕ → Bool
is_key_flag flag = not (flag == 0)

-- what a row has in a column, which is one of the key or not
abbrev pub in_row : Bool → Want
in_row true = KeyValue
in_row false = AnyValue

-- what an old record has in a column, which is one of the key or not
abbrev pub in_old : Bool → Want
in_old true = KeyValue
in_old false = AnyField

-- what a new record has in a column, which is modified or not
abbrev pub in_new : Bool → Want
in_new true = NewValue
in_new false = Nothing

abbrev pub is_defined : OwnedField → Bool
is_defined Undefined = false
is_defined (Defined v) = true

-- the column is outside the key, and the old record has its value
abbrev pub is_modified : ℕ → OwnedField → Bool
is_modified flag old = if flag == 0 then is_defined old else false

abbrev pub row_wants : List ℕ → List Want
row_wants flags = map (λ flag. in_row (is_key_flag flag)) flags

abbrev pub old_wants : List ℕ → List Want
old_wants flags = map (λ flag. in_old (is_key_flag flag)) flags

abbrev pub new_wants : List ℕ → List OwnedField → List Want
new_wants [] old = []
new_wants (flag ∷ flags) [] = []
new_wants (flag ∷ flags) (o ∷ old) = in_new (is_modified flag o) ∷ new_wants flags old

-- what is wanted in the columns with these flags
abbrev pub wants_in : Columns → List ℕ → List Want
wants_in Row flags = row_wants flags
wants_in Old flags = old_wants flags
wants_in (New old) flags = new_wants flags (fields_in (length flags) old.now)

-- what the records of a change have in their columns
abbrev pub wants_of : List ℕ → Change → List Want
wants_of flags (Insert row) = row_wants flags
wants_of flags (Delete row) = row_wants flags
wants_of flags (Update old new) = old_wants flags ++ new_wants flags old

-- each field is what is wanted in its column
abbrev pub Meets : List Want → List OwnedField → Type 0
Meets [] [] = Unit {0}
Meets (want ∷ wants) (f ∷ fields) = (refusal want f ≡ None) × Meets wants fields
Meets [] (f ∷ fields) = ⊥
Meets (want ∷ wants) [] = ⊥

-- a field that is wanted is here
pub record IsFieldAt (want : Want) (file : List ℕ) (at : ℕ) (f : OwnedField) (end : ℕ) : Type 0 where
  pub is_field : IsField f
  pub wanted : refusal want f ≡ None
  pub stands : Stands file at (field_bytes f) end

-- a record that is wanted is here
pub record IsRecordAt (wants : List Want) (file : List ℕ) (at : ℕ) (fields : List OwnedField) (end : ℕ) : Type 0 where
  pub is_record : IsRecord fields
  pub wanted : Meets wants fields
  pub stands : Stands file at (record_bytes fields) end

-- no varint is here
pub record CountFails (file : List ℕ) (at : ℕ) (kind : ReadFaultKind) (place : ℕ) : Type 0 where
  pub why : FieldFaultKind
  pub behind : ℕ
  pub fails : VarintFails (drop at file) why behind
  pub kind_is : kind ≡ kind_of why
  pub place_is : place ≡ at + behind

-- no field is here
pub record NoField (file : List ℕ) (at : ℕ) (kind : ReadFaultKind) (place : ℕ) : Type 0 where
  pub why : FieldFaultKind
  pub behind : ℕ
  pub fails : FieldFails (drop at file) why behind
  pub kind_is : kind ≡ kind_of why
  pub place_is : place ≡ at + behind

-- a field is here that is not wanted
pub record OtherField (want : Want) (file : List ℕ) (at : ℕ) (kind : ReadFaultKind) (place : ℕ) : Type 0 where
  pub field : OwnedField
  pub end : ℕ
  pub is_field : IsField field
  pub stands : Stands file at (field_bytes field) end
  pub refused : refusal want field ≡ Some kind
  pub place_is : place ≡ at

abbrev pub FieldRefused : Want → List ℕ → ℕ → ReadFaultKind → ℕ → Type 0
FieldRefused want file at kind place = NoField file at kind place ⊎ OtherField want file at kind place

-- some of the fields that are wanted, and then none
pub record RecordRefused (wants : List Want) (file : List ℕ) (at : ℕ) (kind : ReadFaultKind) (place : ℕ) : Type 0 where
  pub fields : List OwnedField
  pub end : ℕ
  pub is_record : IsRecord fields
  pub fewer : length fields < length wants
  pub wanted : Meets (take (length fields) wants) fields
  pub stands : Stands file at (record_bytes fields) end
  pub why : FieldRefused (slice_index_or wants (length fields) AnyField) file end kind place

-- some of the fields of a change with this operation, and then none
pub record ChangeRefused (byte : ℕ) (flags file : List ℕ) (at : ℕ) (kind : ReadFaultKind) (place : ℕ)
    : Type 0 where
  pub change : Change
  pub count : ℕ
  pub end : ℕ
  pub is_change : IsChange flags change
  pub does : operation change ≡ byte
  pub fewer : count < length (fields_of change)
  pub stands : Stands file at (record_bytes (take count (fields_of change))) end
  pub why : FieldRefused (slice_index_or (wants_of flags change) count AnyField) file end kind place

-- no operation is here
pub record NoOperation (file : List ℕ) (at : ℕ) (kind : ReadFaultKind) (place : ℕ) : Type 0 where
  pub none : IsOperation (slice_index file at) → ⊥
  pub kind_is : kind ≡ BadOp
  pub place_is : place ≡ at

-- no indirect flag is here
abbrev pub NoFlag : List ℕ → ℕ → ReadFaultKind → ℕ → Type 0
NoFlag file at kind place = ((kind ≡ BadFlag) × (at < length file) × (1 < slice_index file at) × (place ≡ at))
    ⊎ ((kind ≡ Truncated) × (at ≡ length file) × (place ≡ length file))
