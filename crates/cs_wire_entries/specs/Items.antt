-- What is seen of entries in the bytes of a file; this project's own.
use Rattle.std.specs.Prelude.{◌≡◌, ℕ, zero, suc, List, [], ◌∷◌, ◌++◌, length, map, drop, slice_index_or, Option, Some, None, Result, Ok, Err, Bool, true, false}
use Rattle.cs_value.specs.declared.fault.FieldFault.{FieldFault}
use Rattle.cs_value.specs.declared.value.OwnedValue.{OwnedValue}
use Rattle.cs_value.specs.declared.value.OwnedValue.TheVariants.{Null}
use Rattle.cs_value.specs.declared.value.OwnedField.{OwnedField}
use Rattle.cs_value.specs.declared.value.OwnedField.TheVariants.{Undefined, Defined}
use Rattle.cs_value.specs.declared.value.Field.{Field}
use Rattle.cs_value.specs.Value.{FieldFits, IsRecord, field_of}
use Rattle.cs_value.specs.Key.{image_key}
use Rattle.cs_value.specs.Spelling.{record_bytes}
use Rattle.cs_value.specs.Reading.{field_at}
use Rattle.cs_wire_entries.specs.declared.entry.Change.{Change}
use Rattle.cs_wire_entries.specs.declared.entry.Change.TheVariants as change
use Rattle.cs_wire_entries.specs.declared.entry.Entry.{Entry}
use Rattle.cs_wire_entries.specs.declared.entry.Operation.{Operation}
use Rattle.cs_wire_entries.specs.declared.entry.Operation.TheVariants.{Insert, Delete, Update}
use Rattle.cs_wire_entries.specs.Entry.{IsEntry, key_of, fields_of, with_key}

-- the field that was read and the count of its bytes; an undefined one, of no byte, where none was
abbrev pub read_or_undefined : Result (OwnedField × ℕ) FieldFault → OwnedField × ℕ
read_or_undefined (Ok read) = read
read_or_undefined (Err fault) = (Undefined, 0)

-- the field at the front, and the count of its bytes
abbrev pub front_of : List ℕ → OwnedField × ℕ
front_of bytes = read_or_undefined (field_at bytes)

-- so many fields, one after the other
unfoldable pub fields_in : ℕ → List ℕ → List OwnedField
fields_in zero bytes = []
fields_in (suc count) bytes = (front_of bytes).0 ∷ fields_in count (drop (front_of bytes).1 bytes)

-- the value of a field, which is NULL where that is undefined
abbrev pub value_in : OwnedField → OwnedValue
value_in Undefined = Null
value_in (Defined v) = v

-- the values of so many fields
abbrev pub values_in : ℕ → List ℕ → List OwnedValue
values_in count bytes = map value_in (fields_in count bytes)

-- the change with these records; a row has only the first
abbrev pub change_of : Operation → List OwnedField → List OwnedField → Change
change_of Insert first second = change.Insert (map value_in first)
change_of Delete first second = change.Delete (map value_in first)
change_of Update first second = change.Update first second

-- the change of a table with so many columns whose records are these bytes
abbrev pub change_in : ℕ → Operation → List ℕ → List ℕ → Change
change_in columns what first second = change_of what (fields_in columns first) (fields_in columns second)

-- a record of an update as it is shown: as it is, or with the fields of the other record outside the key
abbrev pub shown_record : Bool → List ℕ → List OwnedField → List OwnedField → List OwnedField
shown_record false flags record_is other = record_is
shown_record true flags record_is other = with_key flags record_is other

-- a change as it is shown
abbrev pub shown : Bool → List ℕ → Change → Change
shown exchanged flags (change.Insert row) = change.Insert row
shown exchanged flags (change.Delete row) = change.Delete row
shown exchanged flags (change.Update old new) =
    change.Update (shown_record exchanged flags old new) (shown_record exchanged flags new old)

-- an entry, and the flags of its table
pub record FlaggedEntry : Type 0 where
  pub flags : List ℕ
  pub entry : Entry

-- the entry of a table with these flags that has these records
abbrev pub entry_of : List ℕ → Operation → Bool → List OwnedField → List OwnedField → FlaggedEntry
entry_of flags what indirect first second = record {
  flags = flags;
  entry = record { indirect = indirect; change = change_of what first second };
}

-- the one whose records are these bytes
abbrev pub entry_in : List ℕ → Operation → Bool → List ℕ → List ℕ → FlaggedEntry
entry_in flags what indirect first second =
    entry_of flags what indirect (fields_in (length flags) first) (fields_in (length flags) second)

-- an entry as it is shown
abbrev pub shown_entry : Bool → FlaggedEntry → FlaggedEntry
shown_entry exchanged seen = record {
  flags = seen.flags;
  entry = record { indirect = seen.entry.indirect; change = shown exchanged seen.flags seen.entry.change };
}

-- the row of a change, or the old record of an update
abbrev pub first_record : Change → List OwnedField
first_record (change.Insert row) = map Defined row
first_record (change.Delete row) = map Defined row
first_record (change.Update old new) = old

-- what an entry says of a column before the change, and after it: nothing where it has no such record
abbrev pub old_field : Change → ℕ → Option OwnedField
old_field (change.Insert row) column = None
old_field (change.Delete row) column = Some (slice_index_or (map Defined row) column Undefined)
old_field (change.Update old new) column = Some (slice_index_or old column Undefined)

abbrev pub new_field : Change → ℕ → Option OwnedField
new_field (change.Insert row) column = Some (slice_index_or (map Defined row) column Undefined)
new_field (change.Delete row) column = None
new_field (change.Update old new) column = Some (slice_index_or new column Undefined)

-- the bytes of a change's first record, which is a row or an update's old record, and has the key
pub record IsFirst (flags : List ℕ) (change : Change) (first : List ℕ) : Type 0 where
  pub is_record : IsRecord (fields_in (length flags) first)
  pub spelled : first ≡ record_bytes (fields_in (length flags) first)
  pub fields : fields_in (length flags) first ≡ first_record change
  pub key : key_of flags change ≡ image_key flags (fields_in (length flags) first)

-- the entry is one of its table, and its records are spelled so
pub record IsSpelled (seen : FlaggedEntry) (first second : List ℕ) : Type 0 where
  pub is_entry : IsEntry seen.flags seen.entry
  pub spelled : first ++ second ≡ record_bytes (fields_of seen.entry.change)
  pub has_first : IsFirst seen.flags seen.entry.change first

-- a field is the next of some, or there is none, and will be none
abbrev pub IsNextField : List OwnedField → Option Field → List OwnedField → Type 0
IsNextField before None after = (before ≡ []) × (after ≡ [])
IsNextField before (Some field) after = (before ≡ field_of field ∷ after) × FieldFits field

-- the fields of the columns, after the change: of an update the new record
abbrev pub new_record : Change → Option (List OwnedField)
new_record (change.Insert row) = Some (map Defined row)
new_record (change.Delete row) = None
new_record (change.Update old new) = Some new
