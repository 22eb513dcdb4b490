-- What the net changes of a session are: those from the whole maps of rows at the attachment to the current ones. The
-- model computes them from the touched keys only.
use Rattle.std.specs.Prelude.{◌≡◌, ◌≢◌, ◌↔◌, ℕ, List, [], ◌∷◌, All, AllPairs, Contains, filter}
use Rattle.std.specs.Prelude.{Option, Some, None, is_some, IfSome}
use Rattle.std.specs.List.{AllZip}
use Rattle.std.specs.FinMap as map
use Rattle.cs_value.specs.State.{RowMap, State, schema_at, rows_at, row_at}
use Rattle.cs_wire_entries.specs.declared.entry.Entry.{Entry}
use Rattle.cs_group.specs.Net.{net_entry}
use Rattle.cs_shell_replies.specs.Replies.{Reply}
use Rattle.cs_shell_executor.specs.LineAnswers.{LineGives}
use Rattle.cs_shell_executor.specs.ShellState.{SessionTable, SessionTables, ShellState, net_entries}

-- ---- two maps of rows

-- the entries, of these keys, are the net changes from one map of rows to another. A key is one of these if and only if
-- its rows differ. No key occurs twice. Each entry leads from the row of its key before to that after
pub record NetOfMaps (flags : List ℕ) (before after : RowMap) (keys : List (List ℕ))
    (entries : List Entry) : Type 0 where
  pub differ : (key : List ℕ) → Contains keys key ↔ (map.get before key ≢ map.get after key)
  pub once : AllPairs ◌≢◌ keys
  pub each : AllZip (λ key entry. net_entry flags (map.get before key) (map.get after key) ≡ Some entry) keys entries

-- ---- a session

-- the net change of a key, from the saved row to the current one
abbrev pub change_of : State → SessionTable → List ℕ → Option Entry
change_of tables table key = net_entry table.schema.flags (map.get table.saved key) (row_at tables table.name key)

-- the touched keys that have a net change, in the order of the first write
abbrev pub changed_keys : State → SessionTable → List (List ℕ)
changed_keys tables table = filter (λ key. is_some (change_of tables table key)) table.touched

-- an attached table is there with its schema. No key is touched twice. Each key that is not touched has the saved row.
-- The net entries are the net changes from the saved rows to the current ones
pub record IsTracked (tables : State) (table : SessionTable) : Type 0 where
  pub found : schema_at tables table.name ≡ Some table.schema
  pub once : AllPairs ◌≢◌ table.touched
  pub untouched : (key : List ℕ) → ¬ Contains table.touched key
      → map.get table.saved key ≡ row_at tables table.name key
  pub net : NetOfMaps table.schema.flags table.saved (rows_at tables table.name)
      (changed_keys tables table) (net_entries tables table)

-- the attached tables have distinct names, and each is tracked
pub record AreTracked (tables : State) (session : SessionTables) : Type 0 where
  pub apart : AllPairs (λ s t. s.name ≢ t.name) session
  pub each : All (IsTracked tables) session

-- the tables of the session are tracked, if one is open
abbrev pub HasNet : ShellState → Type 0
HasNet state = IfSome state.session (AreTracked state.tables)

-- ---- the law

-- the lines, answered in turn, lead from one state to another
abbrev pub LinesLead : ShellState → List (List ℕ) → ShellState → Type 0
LinesLead old [] new = new ≡ old
LinesLead old (line ∷ lines) new =
    (reply : Reply) × (mid : ShellState) × LineGives old line reply mid × LinesLead mid lines new

-- without a session there is nothing to show. Each line keeps the tables tracked. So they are tracked after any lines,
-- from a state without a session
pub record NetOfTouched : Type 0 where
  pub start : (state : ShellState) → state.session ≡ None → HasNet state
  pub line : (old new : ShellState) (line : List ℕ) (reply : Reply)
      → HasNet old → LineGives old line reply new → HasNet new
  pub lines : (old new : ShellState) (lines : List (List ℕ))
      → old.session ≡ None → LinesLead old lines new → HasNet new
