-- The changes of a changeset: the format comment of SQLite's sqlite3session.c, under "changeset format".
use Rattle.std.specs.Prelude.{◌≢◌, ℕ, zero, suc, if◌then◌else◌, List, [], ◌∷◌, ◌++◌, map, Option, None, Some}
use Rattle.cs_value.specs.declared.value.OwnedValue.TheVariants.{Null}
use Rattle.cs_value.specs.declared.value.OwnedField.{OwnedField}
use Rattle.cs_value.specs.declared.value.OwnedField.TheVariants.{Undefined, Defined}
use Rattle.cs_value.specs.Value.{IsRow, IsRecord}
use Rattle.cs_value.specs.Key.{row_key, image_key}
use Rattle.cs_value.specs.Table.{IsKeyedRow}
use Rattle.cs_value.specs.Spelling.{record_bytes}
use Rattle.cs_wire_entries.specs.declared.entry.Change.{Change}
use Rattle.cs_wire_entries.specs.declared.entry.Change.TheVariants.{Insert, Delete, Update}
use Rattle.cs_wire_entries.specs.declared.entry.Entry.{Entry}

-- both fields of a column outside the key are defined, which modifies the column, or both undefined
abbrev pub IsPaired : OwnedField → OwnedField → Type 0
IsPaired Undefined Undefined = Unit {0}
IsPaired (Defined old) (Defined new) = Unit {0}
IsPaired Undefined (Defined new) = ⊥
IsPaired (Defined old) Undefined = ⊥

-- a key column has its value, which is not NULL, only in the old record
abbrev pub IsKeyPair : OwnedField → OwnedField → Type 0
IsKeyPair (Defined old) Undefined = old ≢ Null
IsKeyPair (Defined old) (Defined new) = ⊥
IsKeyPair Undefined new = ⊥

-- the two records of an update, with a field in each for each flag
abbrev pub IsKeyedUpdate : List ℕ → List OwnedField → List OwnedField → Type 0
IsKeyedUpdate [] [] [] = Unit {0}
IsKeyedUpdate (zero ∷ flags) (o ∷ old) (n ∷ new) = IsPaired o n × IsKeyedUpdate flags old new
IsKeyedUpdate (suc flag ∷ flags) (o ∷ old) (n ∷ new) = IsKeyPair o n × IsKeyedUpdate flags old new
IsKeyedUpdate [] [] (n ∷ new) = ⊥
IsKeyedUpdate [] (o ∷ old) new = ⊥
IsKeyedUpdate (flag ∷ flags) [] new = ⊥
IsKeyedUpdate (flag ∷ flags) (o ∷ old) [] = ⊥

-- the change is well formed under the flags of its table
abbrev pub IsChange : List ℕ → Change → Type 0
IsChange flags (Insert row) = IsRow row × IsKeyedRow flags row
IsChange flags (Delete row) = IsRow row × IsKeyedRow flags row
IsChange flags (Update old new) = IsRecord old × IsRecord new × IsKeyedUpdate flags old new

abbrev pub IsEntry : List ℕ → Entry → Type 0
IsEntry flags entry = IsChange flags entry.change

-- in the key columns the old field, elsewhere the new one
abbrev pub with_key : List ℕ → List OwnedField → List OwnedField → List OwnedField
with_key [] old new = []
with_key (flag ∷ flags) [] new = []
with_key (flag ∷ flags) (o ∷ old) [] = []
with_key (zero ∷ flags) (o ∷ old) (n ∷ new) = n ∷ with_key flags old new
with_key (suc flag ∷ flags) (o ∷ old) (n ∷ new) = o ∷ with_key flags old new

-- what is said of the row before the change: none, the row, or its key and the old values of the modified columns
abbrev pub before_image : Change → Option (List OwnedField)
before_image (Insert row) = None
before_image (Delete row) = Some (map Defined row)
before_image (Update old new) = Some old

-- what is said of the row after the change: the row, none, or its key and the new values of the modified columns
abbrev pub after_image : List ℕ → Change → Option (List OwnedField)
after_image flags (Insert row) = Some (map Defined row)
after_image flags (Delete row) = None
after_image flags (Update old new) = Some (with_key flags old new)

-- the key of the row that is changed, which is that of the row before the change and of the row after it
abbrev pub key_of : List ℕ → Change → List ℕ
key_of flags (Insert row) = row_key flags row
key_of flags (Delete row) = row_key flags row
key_of flags (Update old new) = image_key flags old

-- the byte that says what a change does
abbrev pub operation : Change → ℕ
operation (Insert row) = 0x12
operation (Delete row) = 0x09
operation (Update old new) = 0x17

-- the fields of a change's records, those of the old one first
abbrev pub fields_of : Change → List OwnedField
fields_of (Insert row) = map Defined row
fields_of (Delete row) = map Defined row
fields_of (Update old new) = old ++ new

-- an entry: its operation, the indirect flag, the fields of its records
unfoldable pub entry_bytes : Entry → List ℕ
entry_bytes entry = operation entry.change ∷ (if entry.indirect then 1 else 0) ∷ record_bytes (fields_of entry.change)
