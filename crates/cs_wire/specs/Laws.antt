-- What holds of all changesets.
use Rattle.std.specs.Prelude.{◌≡◌, ℕ, List, Option, Some, None}
use Rattle.cs_value.specs.declared.value.OwnedValue.{OwnedValue}
use Rattle.cs_value.specs.declared.value.OwnedField.{OwnedField}
use Rattle.cs_value.specs.Key.{row_key, HasValues}
use Rattle.cs_wire_entries.specs.declared.entry.Change.{Change}
use Rattle.cs_wire_entries.specs.declared.entry.Entry.{Entry}
use Rattle.cs_wire_entries.specs.Entry.{IsChange, IsEntry, before_image, after_image, key_of}
use Rattle.cs_wire_entries.specs.Changeset.{GroupData, IsChangeset, file_bytes}
use Rattle.cs_wire_entries.specs.Inverse.{IsInverseEntry}

-- changesets with one file are equal
abbrev pub ChangesetFiles : Type 0
ChangesetFiles = (c d : List GroupData) → IsChangeset c → IsChangeset d → file_bytes c ≡ file_bytes d → c ≡ d

-- the row has what an image says of it
abbrev pub IsSaidOf : Option (List OwnedField) → List OwnedValue → Type 0
IsSaidOf None row = ⊥
IsSaidOf (Some image) row = HasValues row image

-- a row that the change finds, or leaves, has the key of the change
abbrev pub RowKeys : Type 0
RowKeys = (flags : List ℕ) (change : Change) (row : List OwnedValue) → IsChange flags change
    → (IsSaidOf (before_image change) row → row_key flags row ≡ key_of flags change)
    × (IsSaidOf (after_image flags change) row → row_key flags row ≡ key_of flags change)

-- an entry has exactly one inverse
abbrev pub EntryInverses : Type 0
EntryInverses = (flags : List ℕ) (entry inverse other : Entry) → IsEntry flags inverse → IsEntry flags other
    → IsInverseEntry flags entry inverse → IsInverseEntry flags entry other → inverse ≡ other
