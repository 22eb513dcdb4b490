-- When records are those of a state, one record at a time: what a reader of a whole store has to look at.
use Rattle.std.specs.Prelude.{◌≡◌, ◌≢◌, ℕ, List, [], Some, IsSome}
use Rattle.std.specs.FinMap as map
use Rattle.sqlite_rules.specs.Lists.{Has}
use Rattle.cs_value.specs.Maps.{ByBytes}
use Rattle.cs_value.specs.declared.value.OwnedValue.{OwnedValue}
use Rattle.cs_value.specs.Spelling.{row_bytes}
use Rattle.cs_value.specs.Table.{IsName}
use Rattle.cs_value.specs.State.{SchemaData, IsSchema, IsRowAt}
use Rattle.cs_store_sql.specs.Records.{Records, RecordData}
use Rattle.cs_store_encoding.specs.Declaration.{declaration_bytes, IsFormer}
use Rattle.cs_store_encoding.specs.Stored.{former_version, IsVersion}

-- the bytes are those of a schema, in this version
abbrev pub IsDeclarationIn : List ℕ → List ℕ → Type 0
IsDeclarationIn written bytes = (schema : SchemaData) × IsSchema schema × (bytes ≡ declaration_bytes schema)
    × (written ≡ former_version → IsFormer schema)

-- a row of a declared table, under its own key
pub record IsStoredRow (records : Records) (name key value : List ℕ) : Type 0 where
  pub schema : SchemaData
  pub is_schema : IsSchema schema
  pub declared : records [] name ≡ Some (declaration_bytes schema)
  pub row : List OwnedValue
  pub fits : IsRowAt schema key row
  pub spelled : value ≡ row_bytes row

-- a version that is read stands under two empty texts, a declaration under each other key of the empty name, and under
-- each other name the rows of a declared table
pub record AreValid (records : Records) : Type 0 where
  pub written : List ℕ
  pub is_version : IsVersion written
  pub version_is : records [] [] ≡ Some written
  pub tables : (name bytes : List ℕ) → name ≢ [] → records [] name ≡ Some bytes
      → IsName name × IsDeclarationIn written bytes
  pub rows : (name key value : List ℕ) → name ≢ [] → records name key ≡ Some value → IsStoredRow records name key value

-- ---- what the readers of a whole store look for

-- a key and a value under the empty name declare the table of this name and schema, in this version
pub record DeclaresTable (written : List ℕ) (r : List ℕ × List ℕ) (name : List ℕ) (schema : SchemaData) : Type 0 where
  pub is_table : r.0 ≢ []
  pub own : r.0 ≡ name
  pub named : IsName name
  pub is_schema : IsSchema schema
  pub former : written ≡ former_version → IsFormer schema
  pub spelled : r.1 ≡ declaration_bytes schema

-- a declaration is of a table
abbrev pub IsGoodTable : List ℕ → List ℕ × List ℕ → Type 0
IsGoodTable written r = r.0 ≢ [] → IsName r.0 × IsDeclarationIn written r.1

-- tables by name, and their schemas
abbrev pub Schemas : Type 0
Schemas = ByBytes SchemaData

-- they are those of the declarations among the keys and values
pub record AreDeclared (written : List ℕ) (listed : List (List ℕ × List ℕ)) (schemas : Schemas) : Type 0 where
  pub found : (name : List ℕ) (schema : SchemaData) → map.get schemas name ≡ Some schema
      → (r : List ℕ × List ℕ) × Has listed r × DeclaresTable written r name schema
  pub each : (r : List ℕ × List ℕ) → Has listed r → r.0 ≢ [] → IsSome (map.get schemas r.0)

-- the value is that of a row of a table of the schema, and the key is its own
pub record IsRowOf (schema : SchemaData) (key value : List ℕ) : Type 0 where
  pub row : List OwnedValue
  pub fits : IsRowAt schema key row
  pub spelled : value ≡ row_bytes row

-- the record is a row of a declared table
abbrev pub IsRowRecord : Schemas → RecordData → Type 0
IsRowRecord schemas r = (schema : SchemaData) × (map.get schemas r.tab ≡ Some schema) × IsRowOf schema r.key r.value

-- a record under the name of a table is a row
abbrev pub IsGoodRow : Schemas → RecordData → Type 0
IsGoodRow schemas r = r.tab ≢ [] → IsRowRecord schemas r
