-- What the records of a store are: one for the version of the format, one for each table, one for each row. This
-- project's own.
use Rattle.std.specs.Prelude.{bytes_eq, ◌≡◌, ◌⊎◌, ℕ, zero, suc, if◌then◌else◌, List, [], ◌∷◌, length}
use Rattle.std.specs.Prelude.{take, drop, Option, Some, None, option_map, Result, Ok, Err}
use Rattle.std.specs.Option.{option_to_list}
use Rattle.std.specs.List.{flat_map}
use Rattle.std.specs.FinMap as map
use Rattle.sqlite_value.specs.Order.{Row, column}
use Rattle.cs_value.specs.declared.value.OwnedValue.{OwnedValue}
use Rattle.cs_value.specs.declared.value.OwnedField.{OwnedField}
use Rattle.cs_value.specs.declared.value.OwnedField.TheVariants.{Undefined, Defined}
use Rattle.cs_value.specs.declared.fault.FieldFault.{FieldFault}
use Rattle.cs_value.specs.Spelling.{row_bytes}
use Rattle.cs_value.specs.Maps.{ByBytes}
use Rattle.cs_value.specs.Reading.{number_at, field_at}
use Rattle.cs_value.specs.State.{SchemaData, TableData, State, IsState, row_at}
use Rattle.cs_store_sql.specs.Records.{Records, content}
use Rattle.cs_store_encoding.specs.Declaration.{ColumnsData, IsFormer, declaration_bytes, schema_of_columns}

-- ---- what is stored of a state

-- the version that stores are written in, and the former one, in which only the columns of the key refuse NULL
abbrev pub version : List ℕ
version = 2 ∷ []

abbrev pub former_version : List ℕ
former_version = 1 ∷ []

-- a version that is read
abbrev pub IsVersion : List ℕ → Type 0
IsVersion bytes = (bytes ≡ version) ⊎ (bytes ≡ former_version)

-- under the empty name the version, and the declaration of each table under its name; under the name of a table each
-- of its rows, under its key
abbrev pub stored_under : List ℕ → State → Records
stored_under written state [] [] = Some written
stored_under written state [] (b ∷ name) = option_map (λ t. declaration_bytes t.schema) (map.get state (b ∷ name))
stored_under written state (b ∷ name) key = option_map row_bytes (row_at state (b ∷ name) key)

-- the records are those of the state, written in this version
pub record StoresIn (written : List ℕ) (records : Records) (state : State) : Type 0 where
  pub is_state : IsState state
  pub each : (name key : List ℕ) → records name key ≡ stored_under written state name key
  pub former : written ≡ former_version → (name : List ℕ) (table : TableData) → map.get state name ≡ Some table
      → IsFormer table.schema

-- in that of stores
abbrev pub Stores : Records → State → Type 0
Stores = StoresIn version

-- in one that is read
abbrev pub StoresInSome : Records → State → Type 0
StoresInSome records state = (written : List ℕ) × IsVersion written × StoresIn written records state

-- ---- what state is stored: read from the rows of the table of records, where these are those of a state

-- a value, and the others after it
abbrev pub value_before : Result (OwnedField × ℕ) FieldFault → (ℕ → Option (List OwnedValue)) → Option (List OwnedValue)
value_before (Ok (Defined value, used)) others = option_map (λ values. value ∷ values) (others used)
value_before (Ok (Undefined, used)) others = None
value_before (Err e) others = None

-- a name after the count of its bytes, and the other columns after it
abbrev pub name_before : ℕ → List ℕ → Result (ℕ × ℕ) FieldFault → (List ℕ → Option ColumnsData) → Option ColumnsData
name_before code bytes (Ok (count, used)) others =
    option_map (λ (c : ColumnsData). let all : ColumnsData = record {
      names = take count (drop used bytes) ∷ c.names;
      bytes = code ∷ c.bytes;
    } in all) (others (drop count (drop used bytes)))
name_before code bytes (Err e) others = None

-- so many values, and nothing after them
unfoldable pub values_at : ℕ → List ℕ → Option (List OwnedValue)
values_at zero [] = Some []
values_at zero (b ∷ bytes) = None
values_at (suc n) bytes = value_before (field_at bytes) (λ used. values_at n (drop used bytes))

-- so many columns, and nothing after them: their bytes and names
unfoldable pub columns_at : ℕ → List ℕ → Option ColumnsData
columns_at zero [] = Some (record { names = []; bytes = [] })
columns_at zero (b ∷ bytes) = None
columns_at (suc n) [] = None
columns_at (suc n) (code ∷ bytes) = name_before code bytes (number_at bytes) (λ rest. columns_at n rest)

-- the schema that a declaration is of
abbrev pub counted_columns : List ℕ → Result (ℕ × ℕ) FieldFault → Option SchemaData
counted_columns bytes (Ok (count, used)) = option_map schema_of_columns (columns_at count (drop used bytes))
counted_columns bytes (Err e) = None

abbrev pub schema_in : List ℕ → Option SchemaData
schema_in bytes = counted_columns bytes (number_at bytes)

-- what the rows under a name hold that is read by key and value, by key
abbrev pub entries_under : {X : Type 0} → (List ℕ → List ℕ → Option X) → List ℕ → List Row → ByBytes X
entries_under read name rows =
    map.from_entries (flat_map (λ row. if bytes_eq (content (column row 1)) name
    then option_to_list (option_map (λ x. (content (column row 2), x))
    (read (content (column row 2)) (content (column row 3)))) else []) rows)

-- a table: its schema, and the rows under its name
abbrev pub table_in : List Row → List ℕ → List ℕ → Option TableData
table_in rows [] bytes = None
table_in rows (b ∷ name) bytes =
    option_map (λ (schema : SchemaData). let t : TableData = record {
      schema = schema;
      rows = entries_under (λ key value. values_at (length schema.columns) value) (b ∷ name) rows;
    } in t)
    (schema_in bytes)

-- the tables whose declarations are in the rows
unfoldable pub state_of : List Row → State
state_of rows = entries_under (table_in rows) [] rows
