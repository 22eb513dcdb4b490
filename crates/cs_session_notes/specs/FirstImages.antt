-- What a session remembers, and what that says of a state: the introduction to SQLite's session extension, under
-- "changesets and patchsets", and its interface, under "sqlite3session_changeset". For each row that was written since
-- its table was attached, the row that was there first is kept, or that there was none; the changes are from these rows
-- to the current ones.
use Rattle.std.specs.Prelude.{bytes_eq, ◌≡◌, ◌≢◌, ℕ, if◌then◌else◌, List, [], ◌∷◌, ◌++◌, map, filter, filter_map}
use Rattle.std.specs.Prelude.{All, AllPairs, Option, None, Some, option_map, is_some, unwrap_or, IfSome}
use Rattle.std.specs.FinMap as map
use Rattle.cs_value.specs.declared.value.OwnedValue.{OwnedValue}
use Rattle.cs_value.specs.Table.{IsName}
use Rattle.cs_value.specs.State.{SchemaData, IsSchema, IsRowAt, RowMap, State, WrittenData, schema_at, rows_at, row_at, with_rows}
use Rattle.cs_wire_entries.specs.declared.entry.Entry.{Entry}
use Rattle.cs_wire.specs.Changeset.{HeaderData, GroupData}
use Rattle.cs_group.specs.Net.{net_entry}

-- ---- what is remembered

-- a key, and its row before the first write, or none
pub record FirstImage : Type 0 where
  pub key : List ℕ
  pub row : Option (List OwnedValue)

-- those of a table: what earlier calls noted, and what the last one noted
pub record NotedImages : Type 0 where
  pub kept : List FirstImage
  pub pending : List FirstImage

-- a table that is attached: its schema, and the keys that were written since, in the order of the first write
pub record AttachedTable : Type 0 where
  pub name : List ℕ
  pub schema : SchemaData
  pub firsts : List FirstImage

-- the tables of a session, in the order in which they were attached
abbrev pub Notes : Type 0
Notes = List AttachedTable

pub record IsAttachedTable (table : AttachedTable) : Type 0 where
  pub named : IsName table.name
  pub schema : IsSchema table.schema
  pub rows : All (λ f. IfSome f.row (IsRowAt table.schema f.key)) table.firsts
  pub once : AllPairs (λ f g. f.key ≢ g.key) table.firsts

pub record IsNotes (notes : Notes) : Type 0 where
  pub each : All IsAttachedTable notes
  pub once : AllPairs (λ s t. s.name ≢ t.name) notes

-- the state has the table as it was attached
abbrev pub HasAttached : State → AttachedTable → Type 0
HasAttached state table = schema_at state table.name ≡ Some table.schema

-- the row before the first write of a key: a row or none
abbrev pub first_at : List FirstImage → List ℕ → Option (Option (List OwnedValue))
first_at [] key = None
first_at (first ∷ firsts) key = if bytes_eq first.key key then Some first.row else first_at firsts key

-- ---- the rows from before

-- the row is under its key again, or none is
abbrev pub put_back : FirstImage → RowMap → RowMap
put_back first rows = unwrap_or (option_map (map.insert rows first.key) first.row) (map.remove rows first.key)

abbrev pub put_all_back : List FirstImage → RowMap → RowMap
put_all_back [] rows = rows
put_all_back (first ∷ firsts) rows = put_back first (put_all_back firsts rows)

-- the rows of an attached table, with the first images put back
abbrev pub rewound_rows : State → AttachedTable → RowMap
rewound_rows state table = put_all_back table.firsts (rows_at state table.name)

-- the same of each
abbrev pub rewound : Notes → State → List RowMap
rewound notes state = map (rewound_rows state) notes

-- the state with these rows in the attached tables
abbrev pub rewound_state : Notes → State → State
rewound_state [] state = state
rewound_state (table ∷ notes) state = with_rows (rewound_state notes state) table.name (rewound_rows state table)

-- ---- what is noted

-- the keys of writes that were not there yet, in their order, with the previous rows
abbrev pub noted : List FirstImage → List WrittenData → List FirstImage
noted firsts [] = firsts
noted firsts (w ∷ written) =
    if is_some (first_at firsts w.key) then noted firsts written
    else noted (firsts ++ record { key = w.key; row = w.former } ∷ []) written

-- the writes of a table
abbrev pub writes_of : List ℕ → List WrittenData → List WrittenData
writes_of name = filter (λ w. bytes_eq w.table name)

-- an attached table with the writes of it
abbrev pub noted_in : List WrittenData → AttachedTable → AttachedTable
noted_in written table = record table { firsts = noted table.firsts (writes_of table.name written) }

abbrev pub recorded : Notes → List WrittenData → Notes
recorded notes written = map (noted_in written) notes

-- ---- the changes

-- the net change from the first image of a key to the current row, if these differ
abbrev pub entry_since : State → AttachedTable → FirstImage → Option Entry
entry_since state table first = net_entry table.schema.flags first.row (row_at state table.name first.key)

abbrev pub header_of : AttachedTable → HeaderData
header_of table = record { name = table.name; flags = table.schema.flags }

-- the entries of a table, unless there is none
abbrev pub group_of : HeaderData → List Entry → Option GroupData
group_of header [] = None
group_of header (entry ∷ entries) = Some (record { header = header; entries = entry ∷ entries })

abbrev pub net_group : State → AttachedTable → Option GroupData
net_group state table = group_of (header_of table) (filter_map (entry_since state table) table.firsts)

-- the net changeset: the tables in the order in which they were attached, and the keys in that of their first write
abbrev pub recorded_changes : Notes → State → List GroupData
recorded_changes notes state = filter_map (net_group state) notes
