-- What declaring a table and editing a row make of a state, or the first reason why they are refused.
use Rattle.std.specs.Prelude.{bytes_eq, ◌≡◌, ◌⊎◌, ℕ, suc, Bool, true, false, not, ◌||◌, ◌==◌, if◌then◌else◌, List, []}
use Rattle.std.specs.Prelude.{◌∷◌, length, map, Option, Some, None, is_some, Result, Ok, Err, IsSome, string_bytes}
use Rattle.std.specs.declared.string.String.{String}
use Rattle.std.specs.declared.alloc.Global.{Global}
use Rattle.std.specs.FinMap as map
use Rattle.std.specs.Rc.{rc_str_bytes}
use Rattle.cs_value.specs.declared.value.OwnedValue.{OwnedValue}
use Rattle.cs_value.specs.declared.value.OwnedValue.TheVariants.{Null}
use Rattle.cs_value.specs.declared.value.OwnedField.TheVariants.{Defined}
use Rattle.cs_value.specs.Table.{IsName}
use Rattle.cs_value.specs.Key.{row_key}
use Rattle.cs_value.specs.State.{SchemaData, IsSchema, has_null, TableData, State, row_at, with_table, with_row, without_row}
use Rattle.cs_value.specs.State.{WrittenData, written_at}
use Rattle.cs_rows.specs.declared.fault.StoreError.{StoreError}
use Rattle.cs_rows.specs.declared.fault.StoreError.TheVariants.{TableExists, NoTable, BadSchema}
use Rattle.cs_rows.specs.declared.fault.StoreError.TheVariants.{KeyTaken, NoRow, RowWidth, NullInKey, NotNull}
use Rattle.cs_rows.specs.declared.edit.Edit.{Edit}
use Rattle.cs_rows.specs.declared.edit.Edit.TheVariants.{Insert, Update, Delete}
use Rattle.cs_rows.specs.declared.edit.Written.{Written}
use Rattle.cs_rows.specs.Rows.{Fits, Write, puts_row, removes_row}

-- ---- declaring

-- the second list, with the marks of the first added: as long as the second, so that lists that are not as long make no
-- schema
abbrev pub either : List Bool → List Bool → List Bool
either [] others = others
either (mark ∷ marks) [] = []
either (mark ∷ marks) (other ∷ others) = (mark || other) ∷ either marks others

-- the names, the marks of the key columns and those of the columns that refuse NULL, which the key columns do, as a
-- schema has them
abbrev pub schema_of : List (String Global) → List Bool → List Bool → SchemaData
schema_of columns keys refuses = record {
  columns = map string_bytes columns;
  flags = map (λ k. if k then 1 else 0) keys;
  refuses = either keys refuses;
}

abbrev pub IsDeclarable : List ℕ → SchemaData → Type 0
IsDeclarable name schema = IsName name × IsSchema schema

-- the state with the new table, or why there is none
abbrev pub Declares : State → List ℕ → SchemaData → Result State StoreError → Type 0
Declares state name schema (Ok next) = IsDeclarable name schema × (map.get state name ≡ None)
    × (next ≡ with_table state name schema)
Declares state name schema (Err BadSchema) = ¬ (IsDeclarable name schema)
Declares state name schema (Err TableExists) = IsDeclarable name schema × IsSome (map.get state name)
Declares state name schema (Err _) = ⊥

-- ---- editing

abbrev pub written_of : Written → WrittenData
written_of w = record { table = rc_str_bytes w.table; key = w.key; former = w.former }

pub record Edited : Type 0 where
  pub state : State
  pub written : List WrittenData

-- a key column of the row is NULL
abbrev pub has_null_key : List ℕ → List OwnedValue → Bool
has_null_key (suc flag ∷ flags) (Null ∷ row) = true
has_null_key (flag ∷ flags) (value ∷ row) = has_null_key flags row
has_null_key _ _ = false

-- why the row does not fit the table
abbrev pub row_fault : SchemaData → List OwnedValue → Option StoreError
row_fault schema row =
    if not (length row == length schema.flags) then Some RowWidth
    else if has_null_key schema.flags row then Some NullInKey
    else if has_null schema.refuses (map Defined row) then Some NotNull
    else None

-- the refusal, or what comes next
abbrev pub unless : {X : Type 0} → Option StoreError → Result X StoreError → Result X StoreError
unless None next = next
unless (Some refusal) next = Err refusal

-- a row has the key
abbrev pub has_row : State → List ℕ → List ℕ → Bool
has_row state name key = is_some (row_at state name key)

abbrev pub when : Bool → StoreError → Option StoreError
when true refusal = Some refusal
when false refusal = None

-- what each kind of edit makes of a table that is there
abbrev pub inserted_in : State → List ℕ → TableData → List OwnedValue → Result Edited StoreError
inserted_in state name table row =
    let key = row_key table.schema.flags row in
    unless (row_fault table.schema row) (unless (when (has_row state name key) KeyTaken)
    (Ok (record { state = with_row state name key row; written = written_at state name key ∷ [] })))

-- a row that gets another key is removed, and put under that key
abbrev pub moved : State → List ℕ → List ℕ → List ℕ → List OwnedValue → Result Edited StoreError
moved state name key next row =
    unless (when (has_row state name next) KeyTaken)
    (Ok (record {
      state = with_row (without_row state name key) name next row;
      written = written_at state name key ∷ written_at state name next ∷ [];
    }))

abbrev pub updated_in : State → List ℕ → TableData → List ℕ → List OwnedValue → Result Edited StoreError
updated_in state name table key row =
    let next = row_key table.schema.flags row in
    unless (row_fault table.schema row) (unless (when (not (has_row state name key)) NoRow)
    (if bytes_eq key next
    then Ok (record { state = with_row state name key row; written = written_at state name key ∷ [] })
    else moved state name key next row))

abbrev pub deleted_in : State → List ℕ → List ℕ → Result Edited StoreError
deleted_in state name key =
    unless (when (not (has_row state name key)) NoRow)
    (Ok (record { state = without_row state name key; written = written_at state name key ∷ [] }))

abbrev pub found_table : Option TableData → (TableData → Result Edited StoreError) → Result Edited StoreError
found_table None next = Err NoTable
found_table (Some table) next = next table

abbrev pub in_table : State → List ℕ → (TableData → Result Edited StoreError) → Result Edited StoreError
in_table state name next = found_table (map.get state name) next

-- the state after the edit, with what was written in turn, or the first refusal
abbrev pub inserted : State → List ℕ → List OwnedValue → Result Edited StoreError
inserted state name row = in_table state name (λ table. inserted_in state name table row)

abbrev pub updated : State → List ℕ → List ℕ → List OwnedValue → Result Edited StoreError
updated state name key row = in_table state name (λ table. updated_in state name table key row)

abbrev pub deleted : State → List ℕ → List ℕ → Result Edited StoreError
deleted state name key = in_table state name (λ table. deleted_in state name key)

abbrev pub edited : State → Edit → Result Edited StoreError
edited state (Insert name row) = inserted state (string_bytes name) row
edited state (Update name key row) = updated state (string_bytes name) key row
edited state (Delete name key) = deleted state (string_bytes name) key

-- the edit makes this state
abbrev pub EditsInto : State → Edit → State → Type 0
EditsInto state edit next = (written : List WrittenData) × (edited state edit ≡ Ok (record { state = next; written = written }))

-- ---- the writes of an edit

-- the row is put into this table, which it fits, with all tables as before the edit
abbrev pub IsPutOf : State → List ℕ → List OwnedValue → State → Write → Type 0
IsPutOf old table row held (puts_row name key it) = (held ≡ old) × (name ≡ table) × (it ≡ row) × Fits held name key it
IsPutOf old table row held (removes_row name key) = ⊥

-- the row under this key is removed, with all tables as before the edit
abbrev pub IsRemovalOf : State → List ℕ → List ℕ → State → Write → Type 0
IsRemovalOf old table from held (puts_row name key row) = ⊥
IsRemovalOf old table from held (removes_row name key) = (held ≡ old) × (name ≡ table) × (key ≡ from)

-- it is removed, with all tables as before the edit but for the row that takes its place, which was put under some key
abbrev pub IsClearingOf : State → List ℕ → List ℕ → List OwnedValue → State → Write → Type 0
IsClearingOf old table from row held (puts_row name key it) = ⊥
IsClearingOf old table from row held (removes_row name key) =
    (name ≡ table) × (key ≡ from) × (next : List ℕ) × (held ≡ with_row old table next row)

abbrev pub IsUpdateOf : State → List ℕ → List ℕ → List OwnedValue → State → Write → Type 0
IsUpdateOf old table from row held write = IsPutOf old table row held write ⊎ IsClearingOf old table from row held write

-- the write is one of this edit, with tables that are as `held` then, also where the edit is refused for another reason
abbrev pub IsWriteOf : State → Edit → State → Write → Type 0
IsWriteOf old (Insert table row) = IsPutOf old (string_bytes table) row
IsWriteOf old (Update table key row) = IsUpdateOf old (string_bytes table) key row
IsWriteOf old (Delete table key) = IsRemovalOf old (string_bytes table) key
