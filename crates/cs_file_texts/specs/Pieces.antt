-- The meaning of the pieces of texts.
use Rattle.std.specs.Prelude.{◌≡◌, ℕ, Bool, true, false, List, [], ◌∷◌, ◌++◌, map, codes, decimal, Option, None, Some}
use Rattle.cs_value.specs.declared.value.Value.{Value}
use Rattle.cs_value.specs.Value.{value_of}
use Rattle.cs_value.specs.declared.value.OwnedValue.{OwnedValue}
use Rattle.cs_value.specs.declared.value.OwnedField.{OwnedField}
use Rattle.cs_value.specs.declared.value.OwnedField.TheVariants.{Undefined, Defined}
use Rattle.cs_wire_entries.specs.declared.entry.Change.{Change}
use Rattle.cs_wire_entries.specs.declared.entry.Change.TheVariants.{Insert, Delete, Update}
use Rattle.cs_file_texts.specs.declared.texts.piece.Piece.{Piece}
use Rattle.cs_file_texts.specs.declared.texts.piece.Piece.TheVariants as line
use Rattle.cs_file_texts.specs.declared.texts.sql.Terms.{Terms}
use Rattle.cs_file_texts.specs.declared.texts.sql.Terms.TheVariants.{Assignments, Conditions}
use Rattle.cs_value.specs.Quoting.{quoted}
use Rattle.cs_file_texts.specs.Texts.{separated, field_text, fields_text, listed_text, assignment, condition, by_index}
use Rattle.cs_file_texts.specs.Texts.{conditions, assignments}

-- what a piece of a line is printed as
abbrev pub line_piece_text : Piece → List ℕ
line_piece_text (line.Bytes bytes) = bytes.now
line_piece_text (line.Number n) = decimal n
line_piece_text (line.Quoted text) = quoted 39 text.now
line_piece_text (line.Flags flags) = separated (codes ",") (map decimal flags.now)
line_piece_text (line.Listed row) = listed_text row.now

-- ---- lines of entries

-- the word for what a change does
abbrev pub change_text : Change → List ℕ
change_text (Insert row) = codes "insert "
change_text (Delete row) = codes "delete "
change_text (Update old new) = codes "update "

-- a record after its name, if there is one
abbrev pub record_text : List ℕ → Option (List OwnedField) → List ℕ
record_text name None = []
record_text name (Some fields) = name ++ fields_text fields

-- ---- statements

-- the value of a field, if there is one
abbrev pub HoldsValue : Option Value → OwnedField → Type 0
HoldsValue None field = field ≡ Undefined
HoldsValue (Some value) field = field ≡ Defined (value_of value)

-- the first of some fields was taken, with its value, if there is one
pub record TakesValue (before : List OwnedField) (value : Option Value) (after : List OwnedField) : Type 0 where
  pub field : OwnedField
  pub is : before ≡ field ∷ after
  pub holds : HoldsValue value field

abbrev pub is_defined : OwnedField → Bool
is_defined Undefined = false
is_defined (Defined value) = true

-- what is said of the column at a place
abbrev pub term_text : Terms → ℕ → OwnedValue → List ℕ
term_text Assignments = assignment
term_text Conditions = condition

-- what is between the texts of two columns
abbrev pub between_of : Terms → List ℕ
between_of Assignments = codes ", "
between_of Conditions = codes " AND "

-- what is said of the columns with a defined field
abbrev pub terms_text : Terms → List OwnedField → List ℕ
terms_text terms fields = separated (between_of terms) (by_index (term_text terms) 0 fields)

-- what is done to the table of this name, by the records before and after the change
abbrev pub action_text : List ℕ → Option (List OwnedField) → Option (List OwnedField) → List ℕ
action_text name None None = []
action_text name None (Some new) =
    codes "INSERT INTO " ++ quoted 34 name ++ codes " VALUES(" ++ separated (codes ", ") (map field_text new) ++ codes ")"
action_text name (Some old) None = codes "DELETE FROM " ++ quoted 34 name
action_text name (Some old) (Some new) =
    codes "UPDATE " ++ quoted 34 name ++ codes " SET " ++ assignments old (by_index assignment 0 new)

-- the row that is changed, by the record before the change
abbrev pub where_text : Option (List OwnedField) → List ℕ
where_text None = []
where_text (Some old) = codes " WHERE " ++ conditions old
