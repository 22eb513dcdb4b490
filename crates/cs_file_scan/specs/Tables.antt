-- What is left of a changeset's file that is gone through table by table; this project's own.
use Rattle.std.specs.Prelude.{◌≡◌, ℕ, ◌≤◌, List, [], ◌∷◌, ◌++◌, length, drop, Option, Some, None}
use Rattle.std.specs.List.{AllByRecursion}
use Rattle.cs_wire_entries.specs.declared.entry.Entry.{Entry}
use Rattle.cs_wire.specs.declared.header.HeaderRef.{HeaderRef}
use Rattle.cs_wire.specs.Entry.{IsEntry}
use Rattle.cs_wire.specs.Changeset.{GroupData, IsGroup, entries_bytes, file_bytes}
use Rattle.cs_wire.specs.Headers.{header_of}
use Rattle.cs_wire.specs.Items.{FlaggedEntry}

-- what contracts see: the file, the place in it, and the flags of the table that is open, none before the first
pub record TablesData : Type 0 where
  pub file : List ℕ
  pub place : ℕ
  pub flags : List ℕ

-- these entries of the table that is open are left, and these groups
pub record EntriesLeft (tables : TablesData) (entries : List Entry) (groups : List GroupData) : Type 0 where
  pub within : tables.place ≤ length tables.file
  pub each : AllByRecursion (IsEntry tables.flags) entries
  pub are_groups : AllByRecursion IsGroup groups
  pub spelled : drop tables.place tables.file ≡ entries_bytes entries ++ file_bytes groups

-- the entry is the next of those that are left, and the others are left then
pub record IsNextEntry (flags : List ℕ) (entries : List Entry) (groups : List GroupData) (seen : FlaggedEntry)
    (after : TablesData) : Type 0 where
  pub others : List Entry
  pub is : entries ≡ seen.entry ∷ others
  pub flags_are : seen.flags ≡ flags
  pub flags_stay : after.flags ≡ flags
  pub are_left : EntriesLeft after others groups

abbrev pub NextEntry : List ℕ → List Entry → List GroupData → Option FlaggedEntry → TablesData → Type 0
NextEntry flags entries groups None after = (entries ≡ []) × (after.flags ≡ flags) × EntriesLeft after [] groups
NextEntry flags entries groups (Some seen) after = IsNextEntry flags entries groups seen after

-- the header is that of the next of the groups that are left, and its entries and the others are left then
pub record IsNextTable (groups : List GroupData) (header : HeaderRef) (after : TablesData) : Type 0 where
  pub group : GroupData
  pub others : List GroupData
  pub is : groups ≡ group ∷ others
  pub is_group : IsGroup group
  pub header_is : header_of header ≡ group.header
  pub flags_are : after.flags ≡ group.header.flags
  pub are_left : EntriesLeft after group.entries others

abbrev pub NextTable : List GroupData → Option HeaderRef → TablesData → Type 0
NextTable groups None after = (groups ≡ []) × EntriesLeft after [] []
NextTable groups (Some header) after = IsNextTable groups header after
