-- Records where they lie, spelled in a file or owned; this project's own.
use Rattle.std.specs.Prelude.{◌≡◌, ◌≤◌, ℕ, ◌+◌, Bool, List, length, map, take, drop, Option, Some, None}
use Rattle.cs_value.specs.declared.value.OwnedField.{OwnedField}
use Rattle.cs_value.specs.declared.value.OwnedField.TheVariants.{Defined}
use Rattle.cs_value.specs.Value.{IsRecord}
use Rattle.cs_value.specs.Key.{image_key}
use Rattle.cs_value.specs.Spelling.{record_bytes}
use Rattle.cs_wire_entries.specs.declared.entry.Operation.{Operation}
use Rattle.cs_wire_entries.specs.declared.entry.Operation.TheVariants.{Insert, Delete, Update}
use Rattle.cs_wire_entries.specs.declared.entry.Change.{Change}
use Rattle.cs_wire_entries.specs.declared.entry.Change.TheVariants as change
use Rattle.cs_value.specs.declared.value.OwnedValue.{OwnedValue}
use Rattle.cs_wire_entries.specs.declared.record_ref.RecordRef.{RecordRef}
use Rattle.cs_wire_entries.specs.declared.record_ref.RecordRef.TheVariants.{Spelled, Values, Fields}
use Rattle.cs_wire_entries.specs.declared.spelled.KeyColumns.{KeyColumns}
use Rattle.cs_wire_entries.specs.Entry.{IsEntry, key_of, with_key}
use Rattle.cs_wire_entries.specs.Items.{FlaggedEntry, fields_in, first_record, shown, shown_entry}

-- the fields of a record, this many
abbrev pub fields_at : ℕ → RecordRef → List OwnedField
fields_at count (Spelled bytes) = fields_in count bytes.now
fields_at count (Values values) = map Defined values.now
fields_at count (Fields fields) = fields.now

-- there are so many
abbrev pub HasWidth : ℕ → RecordRef → Type 0
HasWidth count r = length (fields_at count r) ≡ count

-- where it is spelled, its bytes are those of the fields
abbrev pub IsSpelledBy : RecordRef → List OwnedField → Type 0
IsSpelledBy (Spelled bytes) fields = bytes.now ≡ record_bytes fields
IsSpelledBy (Values values) fields = Unit {0}
IsSpelledBy (Fields owned) fields = Unit {0}

-- a record of so many fields, and no byte after them
pub record IsWhole (count : ℕ) (r : RecordRef) : Type 0 where
  pub width : HasWidth count r
  pub is_record : IsRecord (fields_at count r)
  pub spelled : IsSpelledBy r (fields_at count r)

-- what inserts or deletes a row, and the change of a row
abbrev pub IsRowOperation : Operation → Type 0
IsRowOperation Insert = Unit {0}
IsRowOperation Delete = Unit {0}
IsRowOperation Update = ⊥

abbrev pub row_change : Operation → List OwnedValue → Change
row_change Insert row = change.Insert row
row_change Delete row = change.Delete row
row_change Update row = change.Insert row

-- fields as they are shown: as they are, or outside the key those of another record
abbrev pub shown_fields : List ℕ → List OwnedField → Option (List OwnedField) → List OwnedField
shown_fields flags own None = own
shown_fields flags own (Some other) = with_key flags own other

-- an entry of its table with these records, which is one of it too as it is shown, with the same key
pub record IsShown (exchanged : Bool) (seen : FlaggedEntry) (what : Operation) (first second : RecordRef) : Type 0 where
  pub is_entry : IsEntry seen.flags seen.entry
  pub is_shown : IsEntry seen.flags (shown_entry exchanged seen).entry
  pub key : key_of seen.flags (shown exchanged seen.flags seen.entry.change)
      ≡ image_key seen.flags (fields_at (length seen.flags) first)
  pub first_is : IsWhole (length seen.flags) first
  pub fields : fields_at (length seen.flags) first ≡ first_record seen.entry.change
  pub second_is : what ≡ Update → IsWhole (length seen.flags) second

-- these columns are the key of each record of a table
pub record AreKeyColumns (flags : List ℕ) (columns : KeyColumns) : Type 0 where
  pub within : columns.first + columns.count ≤ length flags
  pub key : (fields : List OwnedField) → length fields ≡ length flags
      → image_key flags fields ≡ record_bytes (take columns.count (drop columns.first fields))
