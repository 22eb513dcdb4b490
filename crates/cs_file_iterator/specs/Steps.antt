-- What the parts of a step and of a value know. No public contract names this.
use Rattle.std.specs.Prelude.{◌≡◌, ℕ, ℤ, pos, ◌-◌, List, ◌++◌, drop, length, Option, Some, None}
use Rattle.cs_value.specs.declared.value.OwnedValue.TheVariants.{Int, Text, Blob, Null}
use Rattle.cs_value.specs.declared.value.OwnedField.{OwnedField}
use Rattle.cs_value.specs.declared.value.OwnedField.TheVariants.{Undefined, Defined}
use Rattle.cs_value.specs.Value.{IsRecord}
use Rattle.cs_value.specs.Spelling.{record_bytes}
use Rattle.cs_wire_entries.specs.declared.entry.Change.{Change}
use Rattle.cs_wire_entries.specs.declared.entry.Entry.{Entry}
use Rattle.cs_wire_entries.specs.Changeset.{GroupData, HeaderData, IsHeader, file_bytes, header_bytes}
use Rattle.cs_wire_entries.specs.Entry.{IsEntry, before_image, entry_bytes}
use Rattle.cs_wire_entries.specs.Items.{new_record}
use Rattle.cs_wire_entries.specs.ReadFaults.{Stands}
use Rattle.cs_file_iterator.specs.declared.change.ChangeSpan.{ChangeSpan}
use Rattle.cs_file_iterator.specs.declared.value.Side.{Side}
use Rattle.cs_file_iterator.specs.declared.value.Side.TheVariants.{Old, New}
use Rattle.cs_file_iterator.specs.declared.value.ValueSpan.{ValueSpan}
use Rattle.cs_file_iterator.specs.Changes.{Shows, ShowsTable, TableChange, changes_of}
use Rattle.cs_file_iterator.specs.Values.{plain_span}

-- some tables are done, and the others are left
pub record IsBetween (all : List GroupData) (left : List TableChange) (place : ℕ) : Type 0 where
  pub closed : List GroupData
  pub others : List GroupData
  pub all_is : all ≡ closed ++ others
  pub left_is : left ≡ changes_of others
  pub place_is : place ≡ length (file_bytes closed)

-- the record of a change on one side
abbrev pub record_on : Side → Change → Option (List OwnedField)
record_on Old change = before_image change
record_on New change = new_record change

-- a record of so many fields begins at this offset
pub record BeginsRecord (file : List ℕ) (columns : ℕ) (fields : List OwnedField) (place : ℕ) : Type 0 where
  pub is_record : IsRecord fields
  pub width : length fields ≡ columns
  pub rest : List ℕ
  pub spelled : drop place file ≡ record_bytes fields ++ rest

-- the record begins at the offset, or there is neither
abbrev pub HasRecord : List ℕ → ℕ → Option (List OwnedField) → Option ℕ → Type 0
HasRecord file columns (Some fields) (Some place) = BeginsRecord file columns fields place
HasRecord file columns None None = Unit {0}
HasRecord file columns (Some fields) None = ⊥
HasRecord file columns None (Some place) = ⊥

-- a text or a blob of so many bytes that ends there
abbrev pub content_span : ℤ → ℕ → ℕ → ValueSpan
content_span kind end length = record { kind = kind; integer = pos 0; offset = end - length; length = length }

-- the span of a field that ends there
abbrev pub span_at : OwnedField → ℕ → ValueSpan
span_at Undefined end = plain_span (pos 0) (pos 0)
span_at (Defined (Int z)) end = plain_span (pos 1) z
span_at (Defined (Text t)) end = content_span (pos 3) end (length t)
span_at (Defined (Blob b)) end = content_span (pos 4) end (length b)
span_at (Defined Null) end = plain_span (pos 5) (pos 0)

-- ---- over any bytes

-- a header is between these places, no other is there, and the span shows its table
pub record OpensTable (file : List ℕ) (place : ℕ) (span : ChangeSpan) (end : ℕ) : Type 0 where
  pub header : HeaderData
  pub is_header : IsHeader header
  pub stands : Stands file place (header_bytes header) end
  pub only :
      (other : HeaderData) (rest : List ℕ) → IsHeader other → drop place file ≡ header_bytes other ++ rest
      → header ≡ other
  pub table : ShowsTable file span header

-- an entry of the table is between these places, and the span shows it
pub record PassesEntry (file : List ℕ) (header : HeaderData) (place : ℕ) (span : ChangeSpan) (end : ℕ) : Type 0 where
  pub entry : Entry
  pub stands : Stands file place (entry_bytes entry) end
  pub shows : Shows file span (record { header = header; entry = entry })

-- no entry of the table is at this place
abbrev pub NoEntry : List ℕ → HeaderData → ℕ → Type 0
NoEntry file header place =
    (entry : Entry) (rest : List ℕ) → IsEntry header.flags entry → drop place file ≡ entry_bytes entry ++ rest → ⊥

-- no header with an entry is at this place
abbrev pub NoTable : List ℕ → ℕ → Type 0
NoTable file place =
    (header : HeaderData) (entry : Entry) (rest : List ℕ) → IsHeader header → IsEntry header.flags entry
    → drop place file ≡ header_bytes header ++ (entry_bytes entry ++ rest) → ⊥
