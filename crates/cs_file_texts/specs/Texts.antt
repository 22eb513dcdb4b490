-- The readable texts of changesets. What is printed of an entry is this project's own; the SQL says with literals what
-- the entry does, for a reader: the format names no columns, so they are c1, c2 and so on.
use Rattle.std.specs.Prelude.{ℕ, ◌+◌, if◌then◌else◌, Bool, List, [], ◌∷◌, ◌++◌, length, map, codes, decimal}
use Rattle.std.specs.List.{flat_map}
use Rattle.std.specs.Fmt.{signed_decimal}
use Rattle.hex.specs.Hex.{encode_lower}
use Rattle.cs_value.specs.Quoting.{quoted}
use Rattle.cs_value.specs.declared.value.OwnedValue.{OwnedValue}
use Rattle.cs_value.specs.declared.value.OwnedValue.TheVariants.{Int, Text, Blob, Null}
use Rattle.cs_value.specs.declared.value.OwnedField.{OwnedField}
use Rattle.cs_value.specs.declared.value.OwnedField.TheVariants.{Undefined, Defined}
use Rattle.cs_wire_entries.specs.declared.entry.Change.{Change}
use Rattle.cs_wire_entries.specs.declared.entry.Change.TheVariants.{Insert, Delete, Update}
use Rattle.cs_wire.specs.Changeset.{HeaderData, GroupData}

-- ---- literals

unfoldable pub literal : OwnedValue → List ℕ
literal (Int z) = signed_decimal z
literal (Text t) = quoted 39 t
literal (Blob b) = codes "X'" ++ encode_lower b ++ codes "'"
literal Null = codes "NULL"

-- pieces in a row, with something between each two
unfoldable pub separated : List ℕ → List (List ℕ) → List ℕ
separated between [] = []
separated between (piece ∷ []) = piece
separated between (piece ∷ next ∷ pieces) = piece ++ between ++ separated between (next ∷ pieces)

-- the values of a row, as a list of rows has them
abbrev pub listed_text : List OwnedValue → List ℕ
listed_text row = separated (codes "|") (map literal row)

-- ---- what the entries are

unfoldable pub field_text : OwnedField → List ℕ
field_text Undefined = codes "-"
field_text (Defined v) = literal v

abbrev pub fields_text : List OwnedField → List ℕ
fields_text fields = separated (codes ",") (map field_text fields)

unfoldable pub header_text : HeaderData → List ℕ
header_text header = codes "table " ++ quoted 39 header.name ++ codes " columns " ++ decimal (length header.flags)
    ++ codes " flags " ++ separated (codes ",") (map decimal header.flags) ++ codes "\n"

abbrev pub flag_text : Bool → List ℕ
flag_text indirect = if indirect then codes "1" else codes "0"

unfoldable pub entry_text : Bool → Change → List ℕ
entry_text indirect (Insert row) =
    codes "insert " ++ flag_text indirect ++ codes " new " ++ fields_text (map Defined row) ++ codes "\n"
entry_text indirect (Delete row) =
    codes "delete " ++ flag_text indirect ++ codes " old " ++ fields_text (map Defined row) ++ codes "\n"
entry_text indirect (Update old new) =
    codes "update " ++ flag_text indirect ++ codes " old " ++ fields_text old ++ codes " new " ++ fields_text new
    ++ codes "\n"

unfoldable pub group_text : GroupData → List ℕ
group_text group = header_text group.header ++ flat_map (λ e. entry_text e.indirect e.change) group.entries

-- a line for each table, with its columns and flags, and after it a line for each of its entries; a line feed in a
-- text or a name is written unchanged
abbrev pub dump_of : List GroupData → List ℕ
dump_of changeset = flat_map group_text changeset

-- ---- the same as SQL

-- the name of the column at this index, from 0
abbrev pub column_name : ℕ → List ℕ
column_name index = codes "c" ++ decimal (index + 1)

unfoldable pub assignment : ℕ → OwnedValue → List ℕ
assignment index value = column_name index ++ codes "=" ++ literal value

unfoldable pub condition : ℕ → OwnedValue → List ℕ
condition index (Int z) = assignment index (Int z)
condition index (Text t) = assignment index (Text t)
condition index (Blob b) = assignment index (Blob b)
condition index Null = column_name index ++ codes " IS NULL"

-- what is made of each defined field with its index, from a first index on
abbrev pub by_index : (ℕ → OwnedValue → List ℕ) → ℕ → List OwnedField → List (List ℕ)
by_index text index [] = []
by_index text index (Undefined ∷ fields) = by_index text (index + 1) fields
by_index text index (Defined v ∷ fields) = text index v ∷ by_index text (index + 1) fields

abbrev pub conditions : List OwnedField → List ℕ
conditions fields = separated (codes " AND ") (by_index condition 0 fields)

-- the modified columns; where there is none, those of the key with the values that they have
abbrev pub assignments : List OwnedField → List (List ℕ) → List ℕ
assignments old [] = separated (codes ", ") (by_index assignment 0 old)
assignments old (one ∷ others) = separated (codes ", ") (one ∷ others)

unfoldable pub statement : List ℕ → Change → List ℕ
statement name (Insert row) =
    codes "INSERT INTO " ++ quoted 34 name ++ codes " VALUES(" ++ separated (codes ", ") (map literal row)
    ++ codes ");\n"
statement name (Delete row) =
    codes "DELETE FROM " ++ quoted 34 name ++ codes " WHERE " ++ conditions (map Defined row) ++ codes ";\n"
statement name (Update old new) =
    codes "UPDATE " ++ quoted 34 name ++ codes " SET " ++ assignments old (by_index assignment 0 new)
    ++ codes " WHERE " ++ conditions old ++ codes ";\n"

-- a statement for each entry of a table
abbrev pub group_statements : GroupData → List ℕ
group_statements group = flat_map (λ e. statement group.header.name e.change) group.entries

-- a statement for each entry
abbrev pub sql_of : List GroupData → List ℕ
sql_of changeset = flat_map group_statements changeset
