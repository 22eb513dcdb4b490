-- Where the values of a change lie in a file; this project's own. The kinds are the numbers of SQLite's types.
use Rattle.std.specs.Prelude.{◌≡◌, ◌<◌, ◌≤◌, ℕ, ℤ, pos, ◌+◌, List, length, slice_index_or, Option, Some, None, Result, Ok, Err}
use Rattle.cs_value.specs.declared.value.OwnedValue.TheVariants.{Int, Text, Blob, Null}
use Rattle.cs_value.specs.declared.value.OwnedField.{OwnedField}
use Rattle.cs_value.specs.declared.value.OwnedField.TheVariants.{Undefined, Defined}
use Rattle.cs_wire_entries.specs.declared.entry.Change.{Change}
use Rattle.cs_wire_entries.specs.declared.fault.ReadFault.{ReadFault}
use Rattle.cs_wire_entries.specs.ReadFaults.{Stands}
use Rattle.cs_wire_entries.specs.Items.{old_field, new_field}
use Rattle.cs_file_iterator.specs.declared.value.Side.{Side}
use Rattle.cs_file_iterator.specs.declared.value.Side.TheVariants.{Old, New}
use Rattle.cs_file_iterator.specs.declared.value.ValueSpan.{ValueSpan}

-- the span of a field without bytes: an integer, NULL, or an undefined field
abbrev pub plain_span : ℤ → ℤ → ValueSpan
plain_span kind integer = record { kind = kind; integer = integer; offset = 0; length = 0 }

-- the text or the blob lies where the span says, which has no integer
pub record ShowsContent (file : List ℕ) (span : ValueSpan) (kind : ℤ) (bytes : List ℕ) : Type 0 where
  pub kind_is : span.kind ≡ kind
  pub no_integer : span.integer ≡ pos 0
  pub content : Stands file span.offset bytes (span.offset + span.length)

-- the span shows this field, and what its kind does not use is 0
abbrev pub ShowsField : List ℕ → ValueSpan → OwnedField → Type 0
ShowsField file span Undefined = span ≡ plain_span (pos 0) (pos 0)
ShowsField file span (Defined (Int z)) = span ≡ plain_span (pos 1) z
ShowsField file span (Defined (Text t)) = ShowsContent file span (pos 3) t
ShowsField file span (Defined (Blob b)) = ShowsContent file span (pos 4) b
ShowsField file span (Defined Null) = span ≡ plain_span (pos 5) (pos 0)

-- the span shows what a change says of a column, which is undefined where the change has no such record
abbrev pub ShowsValue : List ℕ → ValueSpan → Option OwnedField → Type 0
ShowsValue file span None = span ≡ plain_span (pos 0) (pos 0)
ShowsValue file span (Some field) = ShowsField file span field

-- what a change says of a column on one side
abbrev pub field_on : Side → Change → ℕ → Option OwnedField
field_on Old change column = old_field change column
field_on New change column = new_field change column

-- the value at an index of some, and no value past their end
abbrev pub value_at : List ValueSpan → ℕ → ValueSpan
value_at spans at = slice_index_or spans at (plain_span (pos 0) (pos 0))

-- the first spans show what a change says of so many columns
abbrev pub ShowsValues : List ℕ → ℕ → (ℕ → Option OwnedField) → List ValueSpan → Type 0
ShowsValues file count field spans =
    (column : ℕ) → column < count → ShowsValue file (value_at spans column) (field column)

-- there are as many spans as before, and all after the first ones are as they were
pub record KeepsOthers (count : ℕ) (old new : List ValueSpan) : Type 0 where
  pub size : length new ≡ length old
  pub each : (at : ℕ) → count ≤ at → value_at new at ≡ value_at old at

-- the first spans lie in the file
abbrev pub LieWithin : List ℕ → ℕ → List ValueSpan → Type 0
LieWithin file count spans =
    (at : ℕ) → at < count → (value_at spans at).offset + (value_at spans at).length ≤ length file

-- a value is returned, and P holds for it
abbrev pub IsAnswered : Result (Option ValueSpan) ReadFault → (ValueSpan → Type 0) → Type 0
IsAnswered (Ok (Some value)) P = P value
IsAnswered (Ok None) P = ⊥
IsAnswered (Err fault) P = ⊥
