-- Why calls on the tables of stores are refused: the parts that come with each code. `docs/CALLS.md` has the table of
-- them. The codes are this project's own, and the numbers of causes are SQLite's result codes.
use Rattle.std.specs.Prelude.{ℕ, Bool, true, false, ◌&&◌, List, Option, Some, None, option_and_then, slice_get, position}
use Rattle.std.specs.List.{zip}
use Rattle.cs_value.specs.declared.value.OwnedValue.{OwnedValue}
use Rattle.cs_value.specs.declared.value.OwnedValue.TheVariants.{Null}
use Rattle.cs_value.specs.Key.{key_columns}
use Rattle.cs_value.specs.State.{SchemaData, is_marked}
use Rattle.cs_rows.specs.declared.fault.Cause.{Cause}
use Rattle.cs_rows.specs.declared.fault.Cause.TheVariants.{Busy, NotADatabase, Full, InputOutput, Other}
use Rattle.cs_rows.specs.declared.fault.StoreError.{StoreError}
use Rattle.cs_rows.specs.declared.fault.StoreError.TheVariants.{NoTable, StoreFault, RowWidth, NullInKey, NotNull, KeyTaken, NoRow, TableExists, BadSchema}
use Rattle.cs_rows.specs.declared.edit.Edit.{Edit}
use Rattle.cs_rows.specs.declared.edit.Edit.TheVariants.{Insert, Update, Delete}
use Rattle.cs_rows.specs.Faults.{code_of}
use Rattle.cs_calls_answers.specs.declared.answer.Refused.{Refused}
use Rattle.cs_calls_answers.specs.Refusals.{plain_refusal}

-- ---- the parts

-- a refusal that names a table
abbrev pub of_table : ℕ → List ℕ → Refused
of_table code table = record { code = code; table = Some table; column = None; key = None; detail = None }

-- one that names a column of a table
abbrev pub of_column : ℕ → List ℕ → Option (List ℕ) → Refused
of_column code table column = record { code = code; table = Some table; column = column; key = None; detail = None }

-- one that names a row of a table, by the values of its key columns
abbrev pub of_row : ℕ → List ℕ → List OwnedValue → Refused
of_row code table key = record { code = code; table = Some table; column = None; key = Some key; detail = None }

-- ---- what the database refuses

-- SQLITE_BUSY, SQLITE_NOTADB, SQLITE_FULL, SQLITE_IOERR, or SQLITE_ERROR for another cause
abbrev pub cause_number : Cause → ℕ
cause_number Busy = 5
cause_number NotADatabase = 26
cause_number Full = 13
cause_number InputOutput = 10
cause_number Other = 1

-- the refusal of an error that names no table: its only part is the cause of a StoreFault
abbrev pub of_error : StoreError → Refused
of_error (StoreFault cause) = record { code = 38; table = None; column = None; key = None; detail = Some (cause_number cause) }
of_error error = plain_refusal (code_of error)

-- the refusal of a read of a table
abbrev pub of_read_error : List ℕ → StoreError → Refused
of_read_error table NoTable = of_table 31 table
of_read_error table error = of_error error

-- the refusal of a declaration
abbrev pub of_declare_error : List ℕ → StoreError → Refused
of_declare_error table TableExists = of_table 30 table
of_declare_error table BadSchema = of_table 32 table
of_declare_error table error = of_error error

-- ---- rows that do not fit their table, or whose place is taken

abbrev pub is_null : OwnedValue → Bool
is_null Null = true
is_null value = false

-- the name of the first column that is of the key and has NULL
abbrev pub null_key_column : SchemaData → List OwnedValue → Option (List ℕ)
null_key_column schema row =
    option_and_then (slice_get schema.columns) (position (λ p. is_marked p.1 && is_null p.0) (zip row schema.flags))

-- the name of the first column that refuses NULL and has it
abbrev pub null_column : SchemaData → List OwnedValue → Option (List ℕ)
null_column schema row =
    option_and_then (slice_get schema.columns) (position (λ p. p.1 && is_null p.0) (zip row schema.refuses))

-- the refusal of a row: it does not fit the table, or a row has its key
abbrev pub of_row_error : List ℕ → SchemaData → List OwnedValue → StoreError → Refused
of_row_error table schema row RowWidth = of_table 35 table
of_row_error table schema row NullInKey = of_column 36 table (null_key_column schema row)
of_row_error table schema row NotNull = of_column 39 table (null_column schema row)
of_row_error table schema row KeyTaken = of_row 33 table (key_columns schema.flags row)
of_row_error table schema row error = of_read_error table error

-- the refusal of an update; `key` has the values that the call names
abbrev pub of_update_error : List ℕ → SchemaData → List OwnedValue → List OwnedValue → StoreError → Refused
of_update_error table schema key row NoRow = of_row 34 table key
of_update_error table schema key row error = of_row_error table schema row error

-- the refusal of a deletion
abbrev pub of_delete_error : List ℕ → List OwnedValue → StoreError → Refused
of_delete_error table key NoRow = of_row 34 table key
of_delete_error table key error = of_read_error table error

-- the refusal of an edit; an insertion names no key
abbrev pub of_edit_error : List ℕ → SchemaData → List OwnedValue → Edit → StoreError → Refused
of_edit_error table schema key (Insert name row) error = of_row_error table schema row error
of_edit_error table schema key (Update name at row) error = of_update_error table schema key row error
of_edit_error table schema key (Delete name at) error = of_delete_error table key error
