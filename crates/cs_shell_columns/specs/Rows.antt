-- The row that conditions name, and what assignments make of a row.
use Rattle.std.specs.Prelude.{bytes_eq, ℕ, List, [], ◌∷◌, Bool, true, false, if◌then◌else◌, filter_map, Option, None, Some, unwrap_or}
use Rattle.std.specs.List.{list_any}
use Rattle.cs_value.specs.declared.value.OwnedValue.{OwnedValue}
use Rattle.cs_value.specs.declared.value.OwnedValue.TheVariants.{Null}
use Rattle.cs_value.specs.Spelling.{row_bytes}
use Rattle.cs_value.specs.State.{SchemaData}
use Rattle.cs_shell_grammar.specs.Commands.{AssignmentData}
use Rattle.cs_shell_columns.specs.Columns.{key_names}

-- the value that a column is assigned, or none
abbrev pub assigned : List AssignmentData → List ℕ → Option OwnedValue
assigned [] column = None
assigned (a ∷ assignments) column = if bytes_eq a.column column then Some a.value else assigned assignments column

-- the row, with the values that are assigned in their columns
abbrev pub with_assigned : List AssignmentData → List (List ℕ) → List OwnedValue → List OwnedValue
with_assigned assignments [] row = []
with_assigned assignments (column ∷ columns) [] = []
with_assigned assignments (column ∷ columns) (value ∷ row) =
    unwrap_or (assigned assignments column) value ∷ with_assigned assignments columns row

abbrev pub is_null : OwnedValue → Bool
is_null Null = true
is_null value = false

-- the key that conditions name: the bytes of their values, in the order of the key's columns; none where one is NULL
abbrev pub named_key : SchemaData → List AssignmentData → Option (List ℕ)
named_key schema conditions =
    if list_any (λ a. is_null a.value) conditions then None
    else Some (row_bytes (filter_map (assigned conditions) (key_names schema)))
