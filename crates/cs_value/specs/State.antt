-- What a database of tables holds: tables by name, each with a schema, and its rows by key. The names and the rows are
-- those that changesets can speak of.
use Rattle.std.specs.Prelude.{◌≡◌, ◌≢◌, ⊤, ℕ, zero, suc, ◌<◌, ◌≤◌, Bool, true, false, List, [], ◌∷◌, length, map as map_list}
use Rattle.std.specs.Prelude.{AllPairs, Option, Some, option_map, IsUtf8, unwrap_or, refl}
use Rattle.std.specs.List.{AllByRecursion}
use Rattle.std.specs.Coded.{Coded, code_by, coded×, coded_ℕ, coded_bool, coded_list}
use Rattle.std.specs.FinMap as map
use Rattle.cs_value.specs.declared.TheConstants.{MAX_CONTENT_LEN}
use Rattle.cs_value.specs.declared.value.OwnedValue.{OwnedValue}
use Rattle.cs_value.specs.declared.value.OwnedValue.TheVariants.{Null}
use Rattle.cs_value.specs.declared.value.OwnedField.{OwnedField}
use Rattle.cs_value.specs.declared.value.OwnedField.TheVariants.{Defined}
use Rattle.cs_value.specs.contracts.value.OwnedValue.{the_row}
use Rattle.cs_value.specs.Value.{IsRow}
use Rattle.cs_value.specs.Table.{IsName, IsFlags, IsKeyedRow}
use Rattle.cs_value.specs.Key.{row_key}
use Rattle.cs_value.specs.Maps.{ByBytes}

-- the columns of a table: a name for each, a flag, which is 1 for those of the primary key, and whether it refuses NULL
pub record SchemaData : Type 0 where
  pub columns : List (List ℕ)
  pub flags : List ℕ
  pub refuses : List Bool

-- a column's name has a byte, and is UTF-8 and not too long
pub record IsColumnName (name : List ℕ) : Type 0 where
  pub some : 0 < length name
  pub text : IsUtf8 name
  pub short : length name ≤ MAX_CONTENT_LEN

-- which columns these flags, or bytes, mark
abbrev pub is_marked : ℕ → Bool
is_marked zero = false
is_marked (suc flag) = true

abbrev pub marks : List ℕ → List Bool
marks = map_list is_marked

-- a mark for each column, which is there for each column of the key
abbrev pub AreRules : List ℕ → List Bool → Type 0
AreRules [] [] = ⊤
AreRules (zero ∷ flags) (mark ∷ refuses) = AreRules flags refuses
AreRules (suc flag ∷ flags) (mark ∷ refuses) = (mark ≡ true) × AreRules flags refuses
AreRules [] (mark ∷ refuses) = ⊥
AreRules (flag ∷ flags) [] = ⊥

pub record IsSchema (schema : SchemaData) : Type 0 where
  pub flags : IsFlags schema.flags
  pub bits : AllByRecursion (λ flag. flag < 2) schema.flags
  pub rules : AreRules schema.flags schema.refuses
  pub as_many : length schema.columns ≡ length schema.flags
  pub named : AllByRecursion IsColumnName schema.columns
  pub apart : AllPairs ◌≢◌ schema.columns

-- the rows of a table, each under its key
abbrev pub RowMap : Type 0
RowMap = ByBytes (List OwnedValue)

pub record TableData : Type 0 where
  pub schema : SchemaData
  pub rows : RowMap

-- NULL is in a column that refuses it
abbrev pub has_null : List Bool → List OwnedField → Bool
has_null [] fields = false
has_null (mark ∷ refuses) [] = false
has_null (true ∷ refuses) (Defined Null ∷ fields) = true
has_null (mark ∷ refuses) (field ∷ fields) = has_null refuses fields

-- no column of the row does so
abbrev pub Obeys : List Bool → List OwnedValue → Type 0
Obeys refuses row = has_null refuses (map_list Defined row) ≡ false

-- a row that may be in a table of this schema, and its key
pub record IsRowAt (schema : SchemaData) (key : List ℕ) (row : List OwnedValue) : Type 0 where
  pub values : IsRow row
  pub keyed : IsKeyedRow schema.flags row
  pub obeys : Obeys schema.refuses row
  pub own : key ≡ row_key schema.flags row

pub record IsTable (table : TableData) : Type 0 where
  pub schema : IsSchema table.schema
  pub rows : (key : List ℕ) (row : List OwnedValue) → map.get table.rows key ≡ Some row → IsRowAt table.schema key row

-- tables by name
abbrev pub State : Type 0
State = ByBytes TableData

pub record IsNamedTable (name : List ℕ) (table : TableData) : Type 0 where
  pub named : IsName name
  pub is_table : IsTable table

abbrev pub IsState : State → Type 0
IsState state = (name : List ℕ) (table : TableData) → map.get state name ≡ Some table → IsNamedTable name table

-- ---- what is looked up

abbrev pub schema_at : State → List ℕ → Option SchemaData
schema_at state name = option_map (λ t. t.schema) (map.get state name)

-- the rows of a table, and none where there is no table of the name
abbrev pub rows_at : State → List ℕ → RowMap
rows_at state name = unwrap_or (option_map (λ t. t.rows) (map.get state name)) map.empty

abbrev pub row_at : State → List ℕ → List ℕ → Option (List OwnedValue)
row_at state name key = map.get (rows_at state name) key

-- ---- what changes

-- a new table without rows
abbrev pub with_table : State → List ℕ → SchemaData → State
with_table state name schema = map.insert state name (record { schema = schema; rows = map.empty })

-- the table of the name has these rows; nothing changes where there is none
abbrev pub with_rows : State → List ℕ → RowMap → State
with_rows state name rows = unwrap_or (option_map (λ table. map.insert state name (record table { rows = rows })) (map.get state name)) state

-- the row is under the key
abbrev pub with_row : State → List ℕ → List ℕ → List OwnedValue → State
with_row state name key row = with_rows state name (map.insert (rows_at state name) key row)

-- no row is under the key
abbrev pub without_row : State → List ℕ → List ℕ → State
without_row state name key = with_rows state name (map.remove (rows_at state name) key)

-- ---- what is reported of a write

-- a key that was written, and its previous row
pub record WrittenData : Type 0 where
  pub table : List ℕ
  pub key : List ℕ
  pub former : Option (List OwnedValue)

-- a key of a state, with its row
abbrev pub written_at : State → List ℕ → List ℕ → WrittenData
written_at state name key = record { table = name; key = key; former = row_at state name key }

-- ---- the codes by which contracts compare states

abbrev pub schema_code : Coded SchemaData
schema_code = code_by (List (List ℕ) × (List ℕ × List Bool))
    (coded× (coded_list (coded_list coded_ℕ)) (coded× (coded_list coded_ℕ) (coded_list coded_bool)))
    (λ s. (s.columns, (s.flags, s.refuses))) (λ p. record { columns = p.0; flags = p.1.0; refuses = p.1.1 }) (λ s. refl)

abbrev pub rows_code : Coded RowMap
rows_code = map.code (coded_list coded_ℕ) (coded_list the_row.coded)

abbrev pub table_code : Coded TableData
table_code = code_by (SchemaData × RowMap) (coded× schema_code rows_code)
    (λ t. (t.schema, t.rows)) (λ p. record { schema = p.0; rows = p.1 }) (λ t. refl)

abbrev pub state_code : Coded State
state_code = map.code (coded_list coded_ℕ) table_code
