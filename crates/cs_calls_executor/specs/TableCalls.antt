-- What calls on the tables of a store are answered, and the tables after them, or why they are refused. Tables, rows and
-- edits are those of SQLite; the calls and their refusals are this project's own.
use Rattle.std.specs.Prelude.{◌≡◌, ℕ, Bool, true, false, List, [], length, Option, None, Some, is_some, Result, Ok, Err}
use Rattle.std.specs.FinMap as map
use Rattle.std.specs.declared.alloc.Global.{Global}
use Rattle.std.specs.declared.string.String.{String}
use Rattle.cs_value.specs.declared.value.OwnedValue.{OwnedValue}
use Rattle.cs_value.specs.Key.{key_columns, row_key}
use Rattle.cs_value.specs.Spelling.{row_bytes}
use Rattle.cs_value.specs.State.{SchemaData, State, schema_at, rows_at, row_at}
use Rattle.cs_rows.specs.declared.edit.Edit.{Edit}
use Rattle.cs_rows.specs.declared.edit.Edit.TheVariants.{Insert, Update}
use Rattle.cs_rows.specs.declared.fault.StoreError.{StoreError}
use Rattle.cs_rows.specs.Editing.{Edited, Declares, inserted, updated, deleted}
use Rattle.cs_calls_answers.specs.declared.answer.Refused.{Refused}
use Rattle.cs_calls_parts.specs.declared.lists.Column.{Column}
use Rattle.cs_calls_conversions.specs.declared.page.Page.{Page}
use Rattle.cs_calls_conversions.specs.Columns.{declared_schema, schema_columns}
use Rattle.cs_calls_conversions.specs.Keys.{key_refusal}
use Rattle.cs_calls_conversions.specs.Pages.{page_rows, has_more}
use Rattle.cs_calls_conversions.specs.Refusals.{of_table, of_declare_error, of_row_error, of_update_error, of_delete_error}

-- ---- what comes first

-- 31 NoTable, if there is no such table
abbrev pub with_schema : {X : Type 0} → List ℕ → Option SchemaData → (SchemaData → Result X Refused) → Result X Refused
with_schema table None next = Err (of_table 31 table)
with_schema table (Some schema) next = next schema

abbrev pub on_table : {X : Type 0} → State → List ℕ → (SchemaData → Result X Refused) → Result X Refused
on_table state table next = with_schema table (schema_at state table) next

-- the refusal, if there is one
abbrev pub refused_or : {X : Type 0} → Option Refused → Result X Refused → Result X Refused
refused_or None next = next
refused_or (Some why) next = Err why

-- 35 RowWidth or 36 NullInKey, if these are the values of no key
abbrev pub with_key : {X : Type 0} → List ℕ → SchemaData → List OwnedValue → (List ℕ → Result X Refused) → Result X Refused
with_key table schema values next = refused_or (key_refusal table schema values) (next (row_bytes values))

-- ---- reads

-- the columns of a table
abbrev pub table_columns : State → List ℕ → Result (List Column) Refused
table_columns state table = on_table state table (λ schema. Ok (schema_columns schema))

-- the row of a key, if there is one
abbrev pub table_row : State → List ℕ → List OwnedValue → Result (Option (List OwnedValue)) Refused
table_row state table values =
    on_table state table (λ schema. with_key table schema values (λ key. Ok (row_at state table key)))

-- how many rows a table has
abbrev pub table_count : State → List ℕ → Result ℕ Refused
table_count state table = on_table state table (λ schema. Ok (length (map.values (rows_at state table))))

-- at most so many rows, and whether there are others after them
abbrev pub page_at : State → List ℕ → SchemaData → Option (List ℕ) → ℕ → Page
page_at state table schema after limit = record {
  rows = page_rows schema.flags after limit (map.values (rows_at state table));
  more = has_more schema.flags after limit (map.values (rows_at state table));
}

-- from the first one, or from the one after a key, which need not be there
abbrev pub table_page : State → List ℕ → Option (List OwnedValue) → ℕ → Result Page Refused
table_page state table None limit = on_table state table (λ schema. Ok (page_at state table schema None limit))
table_page state table (Some values) limit =
    on_table state table (λ schema. with_key table schema values (λ key. Ok (page_at state table schema (Some key) limit)))

-- ---- edits: the tables after them, and the keys that they write

-- the tables after a declaration, which writes no key, or why there are none
abbrev pub Declared : State → List ℕ → List Column → Result Edited Refused → Type 0
Declared state table columns (Ok next) = Declares state table (declared_schema columns) (Ok next.state) × (next.written ≡ [])
Declared state table columns (Err why) =
    (error : StoreError) × Declares state table (declared_schema columns) (Err error) × (why ≡ of_declare_error table error)

abbrev pub edit_outcome : (StoreError → Refused) → Result Edited StoreError → Result Edited Refused
edit_outcome why (Ok edited) = Ok edited
edit_outcome why (Err error) = Err (why error)

-- the tables after an insertion
abbrev pub inserts : State → List ℕ → List OwnedValue → Result Edited Refused
inserts state table row =
    on_table state table (λ schema. edit_outcome (of_row_error table schema row) (inserted state table row))

-- the tables after an update; the new row may have another key
abbrev pub updates : State → List ℕ → List OwnedValue → List OwnedValue → Result Edited Refused
updates state table values row =
    on_table state table (λ schema. with_key table schema values
    (λ key. edit_outcome (of_update_error table schema values row) (updated state table key row)))

-- the tables after a deletion
abbrev pub deletes : State → List ℕ → List OwnedValue → Result Edited Refused
deletes state table values =
    on_table state table (λ schema. with_key table schema values
    (λ key. edit_outcome (of_delete_error table values) (deleted state table key)))

-- the tables after a put: an update if a row has the key, or else an insertion
abbrev pub put_by : State → List ℕ → SchemaData → List OwnedValue → Bool → Result Edited Refused
put_by state table schema row true =
    edit_outcome (of_update_error table schema (key_columns schema.flags row) row)
    (updated state table (row_key schema.flags row) row)
put_by state table schema row false = edit_outcome (of_row_error table schema row) (inserted state table row)

-- a row is put in the place of the one that has its key, or inserted
abbrev pub puts : State → List ℕ → List OwnedValue → Result Edited Refused
puts state table row =
    on_table state table (λ schema. put_by state table schema row (is_some (row_at state table (row_key schema.flags row))))

-- the edit that puts a row: whether a row has its key comes last
abbrev pub putting : String Global → List ℕ → List OwnedValue → Bool → Edit
putting table key row true = Update table key row
putting table key row false = Insert table row
