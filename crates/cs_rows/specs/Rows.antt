-- The conditions on the calls of rows, and the writes.
use Rattle.std.specs.Prelude.{◌≡◌, ℕ, Bool, true, false, List, Some, None, IsSome}
use Rattle.std.specs.FinMap as map
use Rattle.cs_value.specs.declared.value.OwnedValue.{OwnedValue}
use Rattle.cs_value.specs.Value.{IsRow}
use Rattle.cs_value.specs.Table.{IsKeyedRow}
use Rattle.cs_value.specs.State.{SchemaData, State, TableData, Obeys, IsRowAt, row_at, with_row}

abbrev pub IsDeclared : State → List ℕ → Type 0
IsDeclared state name = IsSome (map.get state name)

-- a row that fits a table of this schema
pub record IsRowIn (schema : SchemaData) (row : List OwnedValue) : Type 0 where
  pub values : IsRow row
  pub keyed : IsKeyedRow schema.flags row
  pub obeys : Obeys schema.refuses row

-- the table is declared, and the row fits it under the key
pub record Fits (state : State) (name key : List ℕ) (row : List OwnedValue) : Type 0 where
  pub table : TableData
  pub found : map.get state name ≡ Some table
  pub fit : IsRowAt table.schema key row

-- The row is added under a key that no row had, or a row has the key and nothing changes.
abbrev pub Adds : State → List ℕ → List ℕ → List OwnedValue → Bool → State → Type 0
Adds old name key row true new = (row_at old name key ≡ None) × (new ≡ with_row old name key row)
Adds old name key row false new = IsSome (row_at old name key) × (new ≡ old)

-- a row is put under a key of a table, or the row there is removed
pub data Write : Type 0 where
  puts_row : (name key : List ℕ) (row : List OwnedValue) → Write
  removes_row : (name key : List ℕ) → Write
