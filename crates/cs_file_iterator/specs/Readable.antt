-- The changes that can be read of any bytes, in order. In them a table or a key may be twice; this project's own.
use Rattle.std.specs.Prelude.{◌≡◌, ◌≢◌, ◌⊎◌, ℕ, ◌<◌, List, [], ◌∷◌, ◌++◌, length, All}
use Rattle.cs_wire_entries.specs.declared.entry.Entry.{Entry}
use Rattle.cs_wire_entries.specs.declared.fault.ReadFault.{ReadFault}
use Rattle.cs_wire_entries.specs.declared.fault.ReadFaultKind.TheVariants.{DuplicateTable, DuplicateKey}
use Rattle.cs_wire_entries.specs.Entry.{IsEntry}
use Rattle.cs_wire_entries.specs.Changeset.{GroupData, IsHeader, file_bytes}
use Rattle.cs_wire_entries.specs.ReadFaults.{Stands, ReadFails}
use Rattle.cs_file_iterator.specs.declared.change.ChangeSpan.{ChangeSpan}
use Rattle.cs_file_iterator.specs.Changes.{Shows, ShowsTable, TableChange, changes_of}

-- the changes of a table, one at least, each well formed. A key may be there twice
pub record IsReadable (group : GroupData) : Type 0 where
  pub header : IsHeader group.header
  pub some : 0 < length group.entries
  pub each : All (IsEntry group.header.flags) group.entries

-- the file begins with the changes of these tables, which end at this place. A table may be there twice
pub record ReadsAs (file : List ℕ) (groups : List GroupData) (place : ℕ) : Type 0 where
  pub each : All IsReadable groups
  pub stand : Stands file 0 (file_bytes groups) place

-- one more change of the last table
pub record AddsToLast (groups : List GroupData) (change : TableChange) (after : List GroupData) : Type 0 where
  pub closed : List GroupData
  pub entries : List Entry
  pub before_is : groups ≡ closed ++ record { header = change.header; entries = entries } ∷ []
  pub after_is : after ≡ closed ++ record { header = change.header; entries = entries ++ change.entry ∷ [] } ∷ []

-- one more change: of the last table, or the first of another
abbrev pub AddsChange : List GroupData → TableChange → List GroupData → Type 0
AddsChange groups change after = AddsToLast groups change after
    ⊎ (after ≡ groups ++ record { header = change.header; entries = change.entry ∷ [] } ∷ [])

-- no change can be read after those of these tables
abbrev pub AreAll : List ℕ → List GroupData → Type 0
AreAll file groups =
    (change : TableChange) (after : List GroupData) (place : ℕ) → AddsChange groups change after
    → ReadsAs file after place → ⊥

-- the span shows the last table, and there is one
pub record ShowsLast (file : List ℕ) (groups : List GroupData) (span : ChangeSpan) : Type 0 where
  pub closed : List GroupData
  pub last : GroupData
  pub groups_are : groups ≡ closed ++ last ∷ []
  pub table : ShowsTable file span last.header

-- the changes of these tables were returned, up to this place, the last one with this span
pub record WereRead (file : List ℕ) (groups : List GroupData) (place : ℕ) (span : ChangeSpan) : Type 0 where
  pub begins : ReadsAs file groups place
  pub last : (groups ≡ []) ⊎ ShowsLast file groups span

-- the span is that of one more change, which is returned with it
pub record ReadsOn (file : List ℕ) (groups : List GroupData) (span : ChangeSpan) (place : ℕ) : Type 0 where
  pub change : TableChange
  pub after : List GroupData
  pub adds : AddsChange groups change after
  pub shows : Shows file span change
  pub were_read : WereRead file after place span

-- the file is these many changes of tables, to its end
pub record AreCounted (file : List ℕ) (count : ℕ) : Type 0 where
  pub groups : List GroupData
  pub begins : ReadsAs file groups (length file)
  pub counted : count ≡ length (changes_of groups)

-- the bytes are no changeset's file, and the fault is no table or key that is there twice
pub record IsUnreadable (file : List ℕ) (fault : ReadFault) : Type 0 where
  pub fails : ReadFails file fault.kind fault.place
  pub no_table : fault.kind ≢ DuplicateTable
  pub no_key : fault.kind ≢ DuplicateKey
