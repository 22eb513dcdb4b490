-- What the lines of a script are run on: tables, slots, and at most one session. A session is the one of SQLite's
-- session extension, said over whole tables: of each attached one it has the rows when it was attached, and which
-- keys were written since.
use Rattle.std.specs.Prelude.{bytes_eq, ℕ, if◌then◌else◌, List, [], ◌∷◌, ◌++◌, length, map, filter_map, Option}
use Rattle.std.specs.Prelude.{option_map}
use Rattle.std.specs.List.{flat_map, list_any}
use Rattle.std.specs.FinMap as map
use Rattle.cs_value.specs.Maps.{ByBytes}
use Rattle.cs_value.specs.State.{SchemaData, RowMap, State, WrittenData, row_at, with_rows}
use Rattle.cs_wire_entries.specs.declared.entry.Entry.{Entry}
use Rattle.cs_wire.specs.Changeset.{GroupData}
use Rattle.cs_group.specs.Net.{net_entry}
use Rattle.cs_session_notes.specs.FirstImages.{group_of, writes_of}

-- the bytes in each slot that was filled
abbrev pub SlotMap : Type 0
SlotMap = ByBytes (List ℕ)

-- a table that is attached: its rows at that time, and the keys that were written since, each once, in the order
-- of the first write
pub record SessionTable : Type 0 where
  pub name : List ℕ
  pub schema : SchemaData
  pub saved : RowMap
  pub touched : List (List ℕ)

-- in the order in which they were attached
abbrev pub SessionTables : Type 0
SessionTables = List SessionTable

pub record ShellState : Type 0 where
  pub tables : State
  pub slots : SlotMap
  pub session : Option SessionTables

-- ---- what was written

-- the keys, and then those that were not there yet, in their order
abbrev pub with_keys : List (List ℕ) → List (List ℕ) → List (List ℕ)
with_keys keys [] = keys
with_keys keys (key ∷ more) =
    if list_any (λ k. bytes_eq k key) keys then with_keys keys more else with_keys (keys ++ key ∷ []) more

-- a table, with what of the writes is its own
abbrev pub touch : List WrittenData → SessionTable → SessionTable
touch written table = record table {
  touched = with_keys table.touched (map (λ w. w.key) (writes_of table.name written));
}

-- the tables are these, and what was written is noted where a session is open
abbrev pub written_to : ShellState → State → List WrittenData → ShellState
written_to state tables written = record {
  tables = tables;
  slots = state.slots;
  session = option_map (map (touch written)) state.session;
}

-- ---- the net changes

-- for each written key the net change from the row that it had, or none, to the current one
abbrev pub net_entries : State → SessionTable → List Entry
net_entries tables table =
    filter_map (λ key. net_entry table.schema.flags (map.get table.saved key) (row_at tables table.name key))
    table.touched

abbrev pub net_table : State → SessionTable → Option GroupData
net_table tables table = group_of (record { name = table.name; flags = table.schema.flags }) (net_entries tables table)

abbrev pub net_of : State → SessionTables → List GroupData
net_of tables session = filter_map (net_table tables) session

-- how many there are
abbrev pub net_count : State → SessionTables → ℕ
net_count tables session = length (flat_map (net_entries tables) session)

-- the tables, with the rows of the attached ones when they were attached
abbrev pub put_back : SessionTables → State → State
put_back [] tables = tables
put_back (table ∷ session) tables = with_rows (put_back session tables) table.name table.saved
