-- The bytes of a schema: this project's own.
use Rattle.std.specs.Prelude.{◌≡◌, ◌≤◌, ℕ, zero, suc, Bool, true, false, List, [], ◌∷◌, ◌++◌, length, map, IsUtf8}
use Rattle.std.specs.List.{AllByRecursion}
use Rattle.cs_value.specs.declared.TheConstants.{MAX_CONTENT_LEN}
use Rattle.cs_value.specs.Varint.{varint}
use Rattle.cs_value.specs.Spelling.{counted}
use Rattle.cs_value.specs.State.{SchemaData, IsSchema, marks}

-- the byte of a column: 1 for one of the key, 2 for another that refuses NULL, and 0 for the others
abbrev pub column_code : ℕ → Bool → ℕ
column_code (suc flag) mark = 1
column_code zero true = 2
column_code zero false = 0

abbrev pub column_codes : List ℕ → List Bool → List ℕ
column_codes (flag ∷ flags) (mark ∷ refuses) = column_code flag mark ∷ column_codes flags refuses
column_codes [] refuses = []
column_codes (flag ∷ flags) [] = []

-- for each column its byte, the count of the bytes of its name, and its name
abbrev pub columns_bytes : List ℕ → List (List ℕ) → List ℕ
columns_bytes (code ∷ others) (name ∷ names) = code ∷ counted name ++ columns_bytes others names
columns_bytes [] names = []
columns_bytes (code ∷ others) [] = []

-- the count of columns, and the columns in turn
unfoldable pub declaration_bytes : SchemaData → List ℕ
declaration_bytes schema =
    varint (length schema.columns) ++ columns_bytes (column_codes schema.flags schema.refuses) schema.columns

-- only the columns of the key refuse NULL, as in stores of the former version
abbrev pub IsFormer : SchemaData → Type 0
IsFormer schema = schema.refuses ≡ marks schema.flags

-- the bytes are those of a schema
abbrev pub IsDeclaration : List ℕ → Type 0
IsDeclaration bytes = (schema : SchemaData) × IsSchema schema × (bytes ≡ declaration_bytes schema)

-- ---- what is read of columns

-- the names and the bytes of columns
pub record ColumnsData : Type 0 where
  pub names : List (List ℕ)
  pub bytes : List ℕ

-- the flag of the column with this byte; 2, which is no flag, for a byte of no column
abbrev pub flag_of : ℕ → ℕ
flag_of zero = 0
flag_of (suc zero) = 1
flag_of (suc (suc zero)) = 0
flag_of (suc (suc (suc code))) = 2

-- the schema that columns with these names and bytes make, if they make one
abbrev pub schema_of_columns : ColumnsData → SchemaData
schema_of_columns c = record { columns = c.names; flags = map flag_of c.bytes; refuses = marks c.bytes }

-- ---- what the private readers look for

-- a column at the front of the bytes
pub record BeginsWithColumn (bytes : List ℕ) : Type 0 where
  pub code : ℕ
  pub name : List ℕ
  pub rest : List ℕ
  pub text : IsUtf8 name
  pub short : length name ≤ MAX_CONTENT_LEN
  pub spelled : bytes ≡ code ∷ counted name ++ rest

-- names and bytes for so many columns
pub record AreColumns (count : ℕ) (c : ColumnsData) : Type 0 where
  pub names : length c.names ≡ count
  pub bytes : length c.bytes ≡ count
  pub short : AllByRecursion (λ name. IsUtf8 name × (length name ≤ MAX_CONTENT_LEN)) c.names
