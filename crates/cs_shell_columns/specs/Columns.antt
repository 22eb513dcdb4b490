-- The columns that statements name. The statements are this project's own: of SQL they have the few forms that tables
-- and rows need.
use Rattle.std.specs.Prelude.{bytes_eq, ◌≡◌, ◌≢◌, ℕ, List, map, Bool, All, Any, AllPairs}
use Rattle.std.specs.List.{list_any}
use Rattle.cs_value.specs.Key.{key_columns}
use Rattle.cs_value.specs.State.{SchemaData}
use Rattle.cs_shell_grammar.specs.Commands.{AssignmentData}

-- each of the names is that of a column, and none is there twice
pub record AreColumns (columns names : List (List ℕ)) : Type 0 where
  pub known : All (λ name. Any (λ column. column ≡ name) columns) names
  pub once : AllPairs ◌≢◌ names

-- for each column whether it is one of the key
abbrev pub marks_of : List (List ℕ) → List (List ℕ) → List Bool
marks_of columns keys = map (λ column. list_any (bytes_eq column) keys) columns

-- the columns that assignments, or conditions, name
abbrev pub columns_of : List AssignmentData → List (List ℕ)
columns_of = map (λ a. a.column)

-- the columns of a table's key, in column order
abbrev pub key_names : SchemaData → List (List ℕ)
key_names schema = key_columns schema.flags schema.columns

-- conditions name a row: each column of the key is in one of them, and nothing else is
pub record NamesKey (schema : SchemaData) (conditions : List AssignmentData) : Type 0 where
  pub columns : AreColumns (key_names schema) (columns_of conditions)
  pub each : All (λ name. Any (λ a. a.column ≡ name) conditions) (key_names schema)
