-- Changesets and their files: the format comment of SQLite's sqlite3session.c, under "changeset format". That each
-- table and each key is there once is this project's own.
use Rattle.std.specs.Prelude.{◌≡◌, ◌≢◌, ℕ, ◌<◌, List, [], ◌∷◌, ◌++◌, length, map, All, AllPairs, Option}
use Rattle.std.specs.List.{flat_map}
use Rattle.std.specs.FinMap.{from_entries}
use Rattle.cs_value.specs.declared.value.OwnedField.{OwnedField}
use Rattle.cs_value.specs.Varint.{varint}
use Rattle.cs_wire_entries.specs.declared.entry.Entry.{Entry}
use Rattle.cs_value.specs.Table.{IsName, IsFlags}
use Rattle.cs_value.specs.Maps.{ByBytes}
use Rattle.cs_wire_entries.specs.Entry.{IsEntry, before_image, after_image, key_of, entry_bytes}

-- what heads the changes of a table: its name and its flags
pub record HeaderData : Type 0 where
  pub name : List ℕ
  pub flags : List ℕ

pub record IsHeader (header : HeaderData) : Type 0 where
  pub name : IsName header.name
  pub flags : IsFlags header.flags

-- the changes of a table
pub record GroupData : Type 0 where
  pub header : HeaderData
  pub entries : List Entry

-- none of the entries has the key
abbrev pub IsNewKey : List ℕ → List Entry → List ℕ → Type 0
IsNewKey flags entries key = All (λ e. key_of flags e.change ≢ key) entries

-- one entry at least, each well formed, and no key twice
pub record IsGroup (group : GroupData) : Type 0 where
  pub header : IsHeader group.header
  pub some : 0 < length group.entries
  pub each : All (IsEntry group.header.flags) group.entries
  pub once : AllPairs (λ d e. key_of group.header.flags d.change ≢ key_of group.header.flags e.change) group.entries

-- none of the groups is of a table of this name
abbrev pub IsNewName : List GroupData → List ℕ → Type 0
IsNewName groups name = All (λ g. g.header.name ≢ name) groups

-- a changeset: the changes of tables, no table twice
pub record IsChangeset (changeset : List GroupData) : Type 0 where
  pub each : All IsGroup changeset
  pub once : AllPairs (λ g h. g.header.name ≢ h.header.name) changeset

-- the count of columns, and a flag for each
unfoldable pub flags_bytes : List ℕ → List ℕ
flags_bytes flags = varint (length flags) ++ flags

-- 0x54, the flags, the name, 0x00
unfoldable pub header_bytes : HeaderData → List ℕ
header_bytes header = 0x54 ∷ flags_bytes header.flags ++ (header.name ++ 0 ∷ [])

-- the entries in turn
abbrev pub entries_bytes : List Entry → List ℕ
entries_bytes entries = flat_map entry_bytes entries

unfoldable pub group_bytes : GroupData → List ℕ
group_bytes group = header_bytes group.header ++ entries_bytes group.entries

-- the file of a changeset: the groups in turn
abbrev pub file_bytes : List GroupData → List ℕ
file_bytes changeset = flat_map group_bytes changeset

-- the bytes are the file of this changeset
abbrev pub IsFileOf : List ℕ → List GroupData → Type 0
IsFileOf bytes changeset = IsChangeset changeset × (bytes ≡ file_bytes changeset)

-- the bytes are the file of a changeset
abbrev pub IsAccepted : List ℕ → Type 0
IsAccepted bytes = (changeset : List GroupData) × IsChangeset changeset × (bytes ≡ file_bytes changeset)

-- what an entry says of the row with its key, before and after the change
pub record ImageData : Type 0 where
  pub before : Option (List OwnedField)
  pub after : Option (List OwnedField)

abbrev pub image_of : List ℕ → Entry → ImageData
image_of flags entry = record { before = before_image entry.change; after = after_image flags entry.change }

-- what the entries of a group say: by the key of the row
abbrev pub group_images : GroupData → ByBytes ImageData
group_images group =
    from_entries (map (λ e. (key_of group.header.flags e.change, image_of group.header.flags e)) group.entries)

-- what a changeset says: by the name of the table, and then by the key of the row
abbrev pub images : List GroupData → ByBytes (ByBytes ImageData)
images changeset = from_entries (map (λ g. (g.header.name, group_images g)) changeset)
