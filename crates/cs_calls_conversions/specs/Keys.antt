-- The keys that calls name, by the values of the key columns of their table in column order.
use Rattle.std.specs.Prelude.{ℕ, ◌==◌, not, if◌then◌else◌, List, length, Option, Some, option_map, slice_get, position}
use Rattle.cs_value.specs.declared.value.OwnedValue.{OwnedValue}
use Rattle.cs_value.specs.Key.{key_columns}
use Rattle.cs_value.specs.State.{SchemaData}
use Rattle.cs_calls_answers.specs.declared.answer.Refused.{Refused}
use Rattle.cs_calls_conversions.specs.Refusals.{of_table, of_column, is_null}

-- the names of the key columns
abbrev pub key_names : SchemaData → List (List ℕ)
key_names schema = key_columns schema.flags schema.columns

-- 35 if the number of values is not that of the key columns, otherwise 36 with the column of the first NULL; none if
-- they are a key
abbrev pub key_refusal : List ℕ → SchemaData → List OwnedValue → Option Refused
key_refusal table schema values =
    if not (length values == length (key_names schema)) then Some (of_table 35 table)
    else option_map (λ at. of_column 36 table (slice_get (key_names schema) at)) (position is_null values)
