-- The changes of a file in order, and where each lies in it; this project's own.
use Rattle.std.specs.Prelude.{◌≡◌, ◌⊎◌, ℕ, pos, ◌+◌, ◌<◌, ◌≤◌, if◌then◌else◌, List, ◌∷◌, ◌++◌, length, map, slice_index}
use Rattle.std.specs.List.{flat_map}
use Rattle.cs_value.specs.Spelling.{record_bytes}
use Rattle.cs_wire_entries.specs.declared.entry.Entry.{Entry}
use Rattle.cs_wire_entries.specs.Entry.{IsEntry, operation, fields_of}
use Rattle.cs_wire_entries.specs.Changeset.{HeaderData, GroupData, entries_bytes, file_bytes, header_bytes}
use Rattle.cs_wire_entries.specs.ReadFaults.{Stands}
use Rattle.cs_file_iterator.specs.declared.change.ChangeSpan.{ChangeSpan}

-- ---- the changes of a file

-- a change, and the header of its table
pub record TableChange : Type 0 where
  pub header : HeaderData
  pub entry : Entry

-- the changes of one table
abbrev pub changes_with : HeaderData → List Entry → List TableChange
changes_with header entries = map (λ e. record { header = header; entry = e }) entries

-- the changes of all tables, in order
abbrev pub changes_of : List GroupData → List TableChange
changes_of groups = flat_map (λ g. changes_with g.header g.entries) groups

-- ---- where a change lies

-- the span of no change
abbrev pub no_change : ChangeSpan
no_change = record {
  name = 0;
  name_length = 0;
  flags = 0;
  columns = 0;
  records = 0;
  records_length = 0;
  operation = pos 0;
  indirect = pos 0;
}

-- a zero byte is in the file, after the name: C reads the name as a string
pub record EndsName (file : List ℕ) (span : ChangeSpan) : Type 0 where
  pub within : span.name + span.name_length < length file
  pub zero : slice_index file (span.name + span.name_length) ≡ 0

-- the name and the flags of the table lie where the span says
pub record ShowsTable (file : List ℕ) (span : ChangeSpan) (header : HeaderData) : Type 0 where
  pub name : Stands file span.name header.name (span.name + span.name_length)
  pub name_ends : EndsName file span
  pub flags : Stands file span.flags header.flags (span.flags + span.columns)

-- the span is that of this change
pub record Shows (file : List ℕ) (span : ChangeSpan) (change : TableChange) : Type 0 where
  pub is_entry : IsEntry change.header.flags change.entry
  pub table : ShowsTable file span change.header
  pub operation : span.operation ≡ pos (operation change.entry.change)
  pub indirect : span.indirect ≡ (if change.entry.indirect then pos 1 else pos 0)
  pub records :
      Stands file span.records (record_bytes (fields_of change.entry.change)) (span.records + span.records_length)

-- the parts of the span lie inside the file, and a zero byte after the name
pub record LiesIn (file : List ℕ) (span : ChangeSpan) : Type 0 where
  pub name : EndsName file span
  pub flags : span.flags + span.columns ≤ length file
  pub records : span.records + span.records_length ≤ length file

-- ---- what is left of a file

-- no change was returned yet: the offset is 0, and all changes are left
pub record IsAtStart (all : List GroupData) (left : List TableChange) (place : ℕ) : Type 0 where
  pub place_is : place ≡ 0
  pub all_left : left ≡ changes_of all

-- the bytes of the tables that are done, and of the open table up to its last change that was returned
abbrev pub passed_bytes : List GroupData → HeaderData → List Entry → List ℕ
passed_bytes closed header passed = file_bytes closed ++ (header_bytes header ++ entries_bytes passed)

-- some tables are done, some changes of the open table were returned, and its other changes and the other tables are left
pub record IsInTable (file : List ℕ) (all : List GroupData) (left : List TableChange) (place : ℕ) (span : ChangeSpan)
    : Type 0 where
  pub closed : List GroupData
  pub header : HeaderData
  pub passed : List Entry
  pub more : List Entry
  pub others : List GroupData
  pub all_is : all ≡ closed ++ record { header = header; entries = passed ++ more } ∷ others
  pub left_is : left ≡ changes_with header more ++ changes_of others
  pub place_is : place ≡ length (passed_bytes closed header passed)
  pub table : ShowsTable file span header

-- these changes of the file of a changeset are left at this offset, after the change of the span
abbrev pub ChangesLeft : List ℕ → List GroupData → List TableChange → ℕ → ChangeSpan → Type 0
ChangesLeft file all left place span = IsAtStart all left place ⊎ IsInTable file all left place span

-- the span is that of the first change that is left, and the others are left at this offset
pub record IsStep (file : List ℕ) (all : List GroupData) (left : List TableChange) (span : ChangeSpan) (place : ℕ)
    : Type 0 where
  pub change : TableChange
  pub others : List TableChange
  pub left_is : left ≡ change ∷ others
  pub shows : Shows file span change
  pub are_left : ChangesLeft file all others place span
