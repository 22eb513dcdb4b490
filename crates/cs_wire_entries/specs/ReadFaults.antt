-- Why bytes are no changeset's file: one case for each kind of fault, said of what the bytes begin with and not of the
-- steps of a reader. The order of the format is that of the format comment of SQLite's sqlite3session.c; the faults,
-- their numbers and their names are this project's own.
use Rattle.std.specs.Prelude.{◌≡◌, ◌≢◌, ℕ, ◌+◌, ◌<◌, ◌≤◌, ◌⊎◌, Bool, if◌then◌else◌, List, [], ◌∷◌, ◌++◌, length}
use Rattle.std.specs.Prelude.{take, drop, slice_index, slice_index_or, slice_get, Some, All, AllPairs, IsUtf8, codes, Result, Ok, Err}
use Rattle.std.specs.List.{AllByRecursion}
use Rattle.cs_value.specs.declared.TheConstants.{MAX_CONTENT_LEN}
use Rattle.cs_value.specs.declared.fault.FieldFaultKind.{FieldFaultKind}
use Rattle.cs_value.specs.declared.fault.FieldFaultKind.TheVariants as field
use Rattle.cs_value.specs.declared.value.OwnedValue.TheVariants.{Null}
use Rattle.cs_value.specs.declared.value.OwnedField.{OwnedField}
use Rattle.cs_value.specs.declared.value.OwnedField.TheVariants.{Undefined, Defined}
use Rattle.cs_value.specs.Value.{IsField}
use Rattle.cs_value.specs.Varint.{varint}
use Rattle.cs_value.specs.Table.{IsFlags}
use Rattle.cs_value.specs.Spelling.{field_bytes, record_bytes}
use Rattle.cs_value.specs.FieldFaults.{VarintFails, FieldFails}
use Rattle.cs_wire_entries.specs.declared.entry.Change.{Change}
use Rattle.cs_wire_entries.specs.declared.entry.Change.TheVariants.{Insert, Delete, Update}
use Rattle.cs_wire_entries.specs.declared.entry.Entry.{Entry}
use Rattle.cs_wire_entries.specs.declared.fault.ReadFault.{ReadFault}
use Rattle.cs_wire_entries.specs.declared.fault.ReadFaultKind.{ReadFaultKind}
use Rattle.cs_wire_entries.specs.declared.fault.ReadFaultKind.TheVariants.{Truncated, NotTable, Patchset, BadVarint}
use Rattle.cs_wire_entries.specs.declared.fault.ReadFaultKind.TheVariants.{ColumnCount, NoKey, BadName, DuplicateTable}
use Rattle.cs_wire_entries.specs.declared.fault.ReadFaultKind.TheVariants.{EmptyGroup, BadOp, BadFlag, BadType}
use Rattle.cs_wire_entries.specs.declared.fault.ReadFaultKind.TheVariants.{RealValue, BadText, UndefinedField}
use Rattle.cs_wire_entries.specs.declared.fault.ReadFaultKind.TheVariants.{Unpaired, NullKey, DuplicateKey}
use Rattle.cs_wire_entries.specs.Entry.{IsChange, IsEntry, key_of, operation, fields_of, entry_bytes}
use Rattle.cs_wire_entries.specs.Changeset.{HeaderData, GroupData, IsNewKey, IsNewName, IsHeader, IsChangeset, IsAccepted}
use Rattle.cs_wire_entries.specs.Changeset.{flags_bytes, header_bytes, entries_bytes, file_bytes}

-- the number of a kind
abbrev pub code_of : ReadFaultKind → ℕ
code_of Truncated = 1
code_of NotTable = 2
code_of Patchset = 3
code_of BadVarint = 4
code_of ColumnCount = 5
code_of NoKey = 6
code_of BadName = 7
code_of DuplicateTable = 8
code_of EmptyGroup = 9
code_of BadOp = 10
code_of BadFlag = 11
code_of BadType = 12
code_of RealValue = 13
code_of BadText = 14
code_of UndefinedField = 15
code_of Unpaired = 16
code_of NullKey = 17
code_of DuplicateKey = 18

-- the name of a kind
abbrev pub name_of : ReadFaultKind → List ℕ
name_of Truncated = codes "Truncated"
name_of NotTable = codes "NotTable"
name_of Patchset = codes "Patchset"
name_of BadVarint = codes "BadVarint"
name_of ColumnCount = codes "ColumnCount"
name_of NoKey = codes "NoKey"
name_of BadName = codes "BadName"
name_of DuplicateTable = codes "DuplicateTable"
name_of EmptyGroup = codes "EmptyGroup"
name_of BadOp = codes "BadOp"
name_of BadFlag = codes "BadFlag"
name_of BadType = codes "BadType"
name_of RealValue = codes "RealValue"
name_of BadText = codes "BadText"
name_of UndefinedField = codes "UndefinedField"
name_of Unpaired = codes "Unpaired"
name_of NullKey = codes "NullKey"
name_of DuplicateKey = codes "DuplicateKey"

-- the kind of a fault of a field
abbrev pub kind_of : FieldFaultKind → ReadFaultKind
kind_of field.Truncated = Truncated
kind_of field.BadVarint = BadVarint
kind_of field.BadType = BadType
kind_of field.RealValue = RealValue
kind_of field.BadText = BadText

-- ---- places

-- the text is in the file from one place to another
pub record Stands (file : List ℕ) (from : ℕ) (text : List ℕ) (to : ℕ) : Type 0 where
  pub spelled : drop from file ≡ text ++ drop to file
  pub within : to ≤ length file

-- there is a byte at this place, and it begins no header
pub record HasEntry (file : List ℕ) (at : ℕ) : Type 0 where
  pub within : at < length file
  pub no_table : slice_index file at ≢ 0x54
  pub no_patchset : slice_index file at ≢ 0x50

-- a table is to begin at this place: after the file of a changeset, which may be that of no table
pub record TableStart (file : List ℕ) (at : ℕ) (groups : List GroupData) : Type 0 where
  pub are : IsChangeset groups
  pub stand : Stands file 0 (file_bytes groups) at

-- this place is inside a header: after a changeset's file, 0x54 and a text
pub record HeaderPart (file text : List ℕ) (at : ℕ) : Type 0 where
  pub from : ℕ
  pub groups : List GroupData
  pub start : TableStart file from groups
  pub stands : Stands file from (0x54 ∷ text) at

-- an entry may begin at this place: after a changeset's file, the header of another table, and entries of it or none
pub record EntryStart (file : List ℕ) (at : ℕ) (header : HeaderData) (entries : List Entry) : Type 0 where
  pub from : ℕ
  pub groups : List GroupData
  pub start : TableStart file from groups
  pub is_header : IsHeader header
  pub new_table : IsNewName groups header.name
  pub each : All (IsEntry header.flags) entries
  pub once : AllPairs (λ d e. key_of header.flags d.change ≢ key_of header.flags e.change) entries
  pub stand : Stands file from (header_bytes header ++ entries_bytes entries) at

-- the bytes of a change up to so many of its fields: its operation, its indirect flag and these
abbrev pub change_front : Change → Bool → ℕ → List ℕ
change_front change indirect count =
    operation change ∷ (if indirect then 1 else 0) ∷ record_bytes (take count (fields_of change))

-- a field is to begin at this place: after an operation, an indirect flag and so many fields of a change, which has
-- more of them
pub record FieldStart (file : List ℕ) (at : ℕ) (flags : List ℕ) (change : Change) (count : ℕ) : Type 0 where
  pub from : ℕ
  pub header : HeaderData
  pub entries : List Entry
  pub start : EntryStart file from header entries
  pub flags_are : flags ≡ header.flags
  pub is_change : IsChange flags change
  pub more : count < length (fields_of change)
  pub indirect : Bool
  pub stand : Stands file from (change_front change indirect count) at

-- ---- faults in a header

abbrev pub IsColumnCount : ℕ → Type 0
IsColumnCount count = (0 < count) × (count ≤ 32767)

-- a patchset begins where a table is to begin
pub record HasPatchset (file : List ℕ) (place : ℕ) : Type 0 where
  pub groups : List GroupData
  pub start : TableStart file place groups
  pub byte : slice_get file place ≡ Some 0x50

-- after 0x54 there is no varint, and the place is that of its fault
pub record HasNoCount (file : List ℕ) (kind : FieldFaultKind) (place : ℕ) : Type 0 where
  pub at : ℕ
  pub behind : ℕ
  pub part : HeaderPart file [] at
  pub fails : VarintFails (drop at file) kind behind
  pub place_is : place ≡ at + behind

-- after 0x54 there is the varint of no column, or of too many
pub record HasBadCount (file : List ℕ) (place : ℕ) : Type 0 where
  pub count : ℕ
  pub to : ℕ
  pub part : HeaderPart file [] place
  pub stands : Stands file place (varint count) to
  pub is_number : count ≤ MAX_CONTENT_LEN
  pub no_column_count : IsColumnCount count → ⊥

-- after the count of columns there are fewer flags
pub record IsCutFlags (file : List ℕ) : Type 0 where
  pub count : ℕ
  pub at : ℕ
  pub part : HeaderPart file (varint count) at
  pub is_count : IsColumnCount count
  pub fewer : length file < at + count

-- after the count of columns there are as many flags, and each is 0
pub record HasNoKey (file : List ℕ) (place : ℕ) : Type 0 where
  pub flags : List ℕ
  pub to : ℕ
  pub part : HeaderPart file (varint (length flags)) place
  pub is_count : IsColumnCount (length flags)
  pub stand : Stands file place flags to
  pub all_zero : AllByRecursion (λ flag. flag ≡ 0) flags

-- after the flags there is no zero byte
pub record IsCutName (file : List ℕ) : Type 0 where
  pub flags : List ℕ
  pub at : ℕ
  pub are_flags : IsFlags flags
  pub part : HeaderPart file (flags_bytes flags) at
  pub no_end : AllByRecursion (λ b. b ≢ 0) (drop at file)

-- after the flags there is a name that is empty or not UTF-8
pub record HasBadName (file : List ℕ) (place : ℕ) : Type 0 where
  pub flags : List ℕ
  pub name : List ℕ
  pub to : ℕ
  pub are_flags : IsFlags flags
  pub part : HeaderPart file (flags_bytes flags) place
  pub stands : Stands file place (name ++ 0 ∷ []) to
  pub no_zero : AllByRecursion (λ b. b ≢ 0) name
  pub bad : (name ≡ []) ⊎ (IsUtf8 name → ⊥)

-- the header of a table that was there before
pub record RepeatsTable (file : List ℕ) (place : ℕ) : Type 0 where
  pub groups : List GroupData
  pub header : HeaderData
  pub to : ℕ
  pub start : TableStart file place groups
  pub is_header : IsHeader header
  pub stands : Stands file place (header_bytes header) to
  pub not_new : IsNewName groups header.name → ⊥

-- ---- faults where an entry may begin

abbrev pub IsOperation : ℕ → Type 0
IsOperation byte = (byte ≡ 0x12) ⊎ (byte ≡ 0x09) ⊎ (byte ≡ 0x17)

-- after a header there is no entry: the file ends, or another table or a patchset begins
pub record HasNoEntry (file : List ℕ) (place : ℕ) : Type 0 where
  pub header : HeaderData
  pub start : EntryStart file place header []
  pub no_entry : HasEntry file place → ⊥

-- an entry begins with a byte that is no operation
pub record HasBadOperation (file : List ℕ) (place : ℕ) : Type 0 where
  pub header : HeaderData
  pub entries : List Entry
  pub start : EntryStart file place header entries
  pub entry : HasEntry file place
  pub no_operation : IsOperation (slice_index file place) → ⊥

-- the file ends after an operation
pub record IsCutEntry (file : List ℕ) : Type 0 where
  pub at : ℕ
  pub header : HeaderData
  pub entries : List Entry
  pub byte : ℕ
  pub start : EntryStart file at header entries
  pub is_operation : IsOperation byte
  pub stands : Stands file at (byte ∷ []) (length file)

-- after an operation there is a byte above 1
pub record HasBadFlag (file : List ℕ) (place : ℕ) : Type 0 where
  pub at : ℕ
  pub header : HeaderData
  pub entries : List Entry
  pub byte : ℕ
  pub start : EntryStart file at header entries
  pub is_operation : IsOperation byte
  pub stands : Stands file at (byte ∷ []) place
  pub within : place < length file
  pub above_one : 1 < slice_index file place

-- an entry of a key that was there before in its table
pub record RepeatsKey (file : List ℕ) (place : ℕ) : Type 0 where
  pub header : HeaderData
  pub entries : List Entry
  pub entry : Entry
  pub to : ℕ
  pub start : EntryStart file place header entries
  pub is_entry : IsEntry header.flags entry
  pub stands : Stands file place (entry_bytes entry) to
  pub not_new : IsNewKey header.flags entries (key_of header.flags entry.change) → ⊥

-- ---- faults where a field is to begin

-- where a field is to begin there is none, and the place is that of its fault
pub record HasNoField (file : List ℕ) (kind : FieldFaultKind) (place : ℕ) : Type 0 where
  pub at : ℕ
  pub behind : ℕ
  pub flags : List ℕ
  pub change : Change
  pub count : ℕ
  pub start : FieldStart file at flags change count
  pub fails : FieldFails (drop at file) kind behind
  pub place_is : place ≡ at + behind

-- the change is that of a whole row, and no update
abbrev pub IsWhole : Change → Type 0
IsWhole (Insert row) = Unit {0}
IsWhole (Delete row) = Unit {0}
IsWhole (Update old new) = ⊥

-- the column is one of the key
abbrev pub IsKeyColumn : List ℕ → ℕ → Type 0
IsKeyColumn flags column = 0 < slice_index flags column

-- this field is in a row or in an old record, in a column for which Holds holds
pub record StandsBefore (file : List ℕ) (place : ℕ) (found : OwnedField) (Holds : List ℕ → Change → ℕ → Type 0)
    : Type 0 where
  pub flags : List ℕ
  pub change : Change
  pub column : ℕ
  pub to : ℕ
  pub start : FieldStart file place flags change column
  pub in_row : column < length flags
  pub stands : Stands file place (field_bytes found) to
  pub holds : Holds flags change column

-- both are defined, or both undefined
abbrev pub IsAlike : OwnedField → OwnedField → Type 0
IsAlike Undefined Undefined = Unit {0}
IsAlike (Defined v) (Defined w) = Unit {0}
IsAlike Undefined (Defined w) = ⊥
IsAlike (Defined v) Undefined = ⊥

-- in a new record there is a field that is defined where none is wanted, or the reverse
pub record StandsUnpaired (file : List ℕ) (place : ℕ) : Type 0 where
  pub flags : List ℕ
  pub change : Change
  pub count : ℕ
  pub found : OwnedField
  pub to : ℕ
  pub start : FieldStart file place flags change count
  pub in_new : length flags ≤ count
  pub is_field : IsField found
  pub stands : Stands file place (field_bytes found) to
  pub unlike : IsAlike found (slice_index_or (fields_of change) count Undefined) → ⊥

-- ---- the cases

-- what the bytes begin with, and the place of the fault
abbrev pub ReadCase : List ℕ → ReadFaultKind → ℕ → Type 0
ReadCase file Truncated place = (HasNoCount file field.Truncated place ⊎ HasNoField file field.Truncated place)
    ⊎ ((IsCutFlags file ⊎ IsCutName file ⊎ IsCutEntry file) × (place ≡ length file))
ReadCase file NotTable place = (place ≡ 0) × HasEntry file 0
ReadCase file Patchset place = HasPatchset file place
ReadCase file BadVarint place = HasNoCount file field.BadVarint place ⊎ HasNoField file field.BadVarint place
ReadCase file ColumnCount place = HasBadCount file place
ReadCase file NoKey place = HasNoKey file place
ReadCase file BadName place = HasBadName file place
ReadCase file DuplicateTable place = RepeatsTable file place
ReadCase file EmptyGroup place = HasNoEntry file place
ReadCase file BadOp place = HasBadOperation file place
ReadCase file BadFlag place = HasBadFlag file place
ReadCase file BadType place = HasNoField file field.BadType place
ReadCase file RealValue place = HasNoField file field.RealValue place
ReadCase file BadText place = HasNoField file field.BadText place
ReadCase file UndefinedField place =
    StandsBefore file place Undefined (λ flags change column. IsWhole change ⊎ IsKeyColumn flags column)
ReadCase file Unpaired place = StandsUnpaired file place
ReadCase file NullKey place = StandsBefore file place (Defined Null) (λ flags change column. IsKeyColumn flags column)
ReadCase file DuplicateKey place = RepeatsKey file place

-- the bytes are no changeset's file, for this reason
pub record ReadFails (file : List ℕ) (kind : ReadFaultKind) (place : ℕ) : Type 0 where
  pub refused : IsAccepted file → ⊥
  pub case : ReadCase file kind place

-- a fault is as Why says of its kind and place
abbrev pub FaultIs : {X : Type 0} → Result X ReadFault → (ReadFaultKind → ℕ → Type 0) → Type 0
FaultIs (Ok x) Why = Unit {0}
FaultIs (Err fault) Why = Why fault.kind fault.place
