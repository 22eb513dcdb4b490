-- Worked examples: a table of two columns, and a state of two tables.
use Rattle.std.proofs.Common.{bytes_eq, ◌≡◌, ℕ, pos, Bool, true, false, cond, List, [], ◌∷◌, Some, None, unwrap_or, codes, refl, ap, ◌∙◌, arith}
use Rattle.std.specs.Char.{encode_utf8}
use Rattle.std.specs.Str.{chars, is_utf8}
use Rattle.std.specs.Option.{option_map}
use Rattle.std.specs.Ordering.{nat_cmp}
use Rattle.std.specs.Cmp.Lexicographic.{slice_cmp}
use Rattle.std.specs.FinMap.{get, insert, empty, get-empty}
use Rattle.std.proofs.lemmas.Str.{IsUtf8-from_is_utf8}
use Rattle.cs_value.specs.declared.value.OwnedValue.{OwnedValue}
use Rattle.cs_value.specs.declared.value.OwnedValue.TheVariants.{Int, Text}
use Rattle.cs_value.specs.Value.{IsRow}
use Rattle.cs_value.specs.Varint.{leading_digits, varint}
use Rattle.cs_value.specs.Spelling.{counted, value_bytes}
use Rattle.cs_value.specs.Table.{IsName}
use Rattle.cs_value.specs.State.{SchemaData, IsColumnName, IsSchema, TableData, RowMap, IsRowAt, IsTable, State, IsState, rows_at}
pub use Rattle.cs_value.proofs.Examples.{columns_with, columns_are_schema}
use Rattle.cs_value.proofs.StateLemmas.{empty_table, table_insert, empty_state, state_insert}
use Rattle.cs_rows.proofs.MapLemmas.{get_put}

-- texts and spellings compute
texts : Unit {0}
unfolding encode_utf8 chars is_utf8
texts = tt

spelling : Unit {0}
unfolding leading_digits varint counted value_bytes
spelling = tt

-- ---- columns

-- the table of columns a and b with key a; in the second b refuses NULL
abbrev pub two_columns : SchemaData
two_columns = columns_with false

abbrev pub refusing_columns : SchemaData
refusing_columns = columns_with true

-- ---- two tables

-- a table of one column, which is its key
abbrev pub one_column : List ℕ → SchemaData
one_column name = record { columns = name ∷ []; flags = 1 ∷ []; refuses = true ∷ [] }

-- the table t with these rows, and the table u of column c, which is empty
abbrev pub table_t : RowMap → TableData
table_t rows = record { schema = two_columns; rows = rows }

abbrev pub table_u : TableData
table_u = record { schema = one_column (codes "c"); rows = empty }

abbrev pub tables : RowMap → State
tables rows = insert (insert empty (codes "u") table_u) (codes "t") (table_t rows)

-- the row (1, 'x') and its key
abbrev pub row : List OwnedValue
row = Int (pos 1) ∷ Text (codes "x") ∷ []

abbrev pub key : List ℕ
key = 0x01 ∷ 0 ∷ 0 ∷ 0 ∷ 0 ∷ 0 ∷ 0 ∷ 0 ∷ 1 ∷ []

-- t with that row
abbrev pub held : RowMap
held = insert empty key row

abbrev pub state : State
state = tables held

-- they are states

c_is_name : IsColumnName (codes "c")
unfolding texts
c_is_name = record { some = omega arith; text = IsUtf8-from_is_utf8 (codes "c") refl; short = omega arith }

pub one_column_is_schema : (name : List ℕ) → IsColumnName name → IsSchema (one_column name)
one_column_is_schema name named = record {
  flags = record { bytes = (omega arith, tt); few = omega arith; some_key = (0, 1, omega arith, refl, omega arith) };
  bits = (omega arith, tt);
  rules = (refl, tt);
  as_many = refl;
  named = (named, tt);
  apart = λ i j d lt below. absurd (omega arith);
}

pub t_is_name : IsName (codes "t")
unfolding texts
t_is_name = record { some = omega arith; text = IsUtf8-from_is_utf8 (codes "t") refl; no_zero = (λ same. absurd (omega (arith, same)), tt) }

pub u_is_name : IsName (codes "u")
unfolding texts
u_is_name = record { some = omega arith; text = IsUtf8-from_is_utf8 (codes "u") refl; no_zero = (λ same. absurd (omega (arith, same)), tt) }

row_is : IsRow row
unfolding texts
row_is = (record { sfits = omega arith }, ((IsUtf8-from_is_utf8 (codes "x") refl, omega arith), tt))

row_fits : IsRowAt two_columns key row
unfolding spelling
row_fits = record { values = row_is; keyed = (λ same. cc, tt); obeys = refl; own = refl }

pub table_t_is : IsTable (table_t held)
table_t_is = table_insert (table_t empty) key row (empty_table two_columns (columns_are_schema false)) row_fits

pub state_is_state : IsState state
state_is_state = state_insert _ (codes "t") _ (state_insert empty (codes "u") table_u empty_state u_is_name (empty_table (one_column (codes "c")) (one_column_is_schema (codes "c") c_is_name))) t_is_name table_t_is

-- the tables by name
pub tables_at : (m : RowMap) (name : List ℕ) → get (tables m) name ≡ cond (bytes_eq name (codes "t")) (Some (table_t m)) (cond (bytes_eq name (codes "u")) (Some table_u) None)
tables_at m name =
    get_put (insert empty (codes "u") table_u) (codes "t") (table_t m) name
    ∙ ap (cond (bytes_eq name (codes "t")) (Some (table_t m))) (get_put empty (codes "u") table_u name ∙ ap (cond (bytes_eq name (codes "u")) (Some table_u)) (get-empty (slice_cmp nat_cmp) name))

-- and their rows
pub rows_of_tables : (m : RowMap) (name : List ℕ) → rows_at (tables m) name ≡ cond (bytes_eq name (codes "t")) m empty
rows_of_tables m name =
    ap (λ o. unwrap_or (option_map (λ (t : TableData). t.rows) o) empty) (tables_at m name) ∙ at (bytes_eq name (codes "t")) (bytes_eq name (codes "u"))
  where
    at : (t u : Bool) → unwrap_or (option_map (λ (t : TableData). t.rows) (cond t (Some (table_t m)) (cond u (Some table_u) None))) empty ≡ cond t m empty
    at true u = refl
    at false true = refl
    at false false = refl
