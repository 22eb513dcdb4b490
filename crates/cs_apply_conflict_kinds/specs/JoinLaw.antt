-- What the join of two changesets does where both apply in turn.
use Rattle.std.specs.Prelude.{◌≡◌, ℕ, List, All, Option, Some, None}
use Rattle.cs_value.specs.State.{SchemaData, State, IsState, schema_at, row_at}
use Rattle.cs_wire_entries.specs.declared.entry.Entry.{Entry}
use Rattle.cs_wire.specs.Changeset.{GroupData, IsChangeset}
use Rattle.cs_group.specs.Joining.{entry_key, table_name, with_text, key_marks, IsJoined}
use Rattle.cs_group.specs.Net.{net_entry}
use Rattle.cs_apply_conflict_kinds.specs.Applying.{Choices, IsClean, IsApplied}

-- of each state, in which no row breaks a rule of its table, where the first applies without a conflict, and the second
-- to what the first makes of it, the join makes what both make, without a conflict
abbrev pub DoesBoth : List GroupData → List GroupData → List GroupData → Type 0
DoesBoth first second join = (old mid new : State) (choose again : Choices)
    → IsState old → IsClean old first → IsApplied old first choose mid → IsClean mid second → IsApplied mid second again new
    → IsClean old join × ((any : Choices) → IsApplied old join any new)

abbrev pub JoinApplies : Type 0
JoinApplies = (first second join : List GroupData) → IsChangeset first → IsChangeset second → IsJoined first second join
    → DoesBoth first second join

-- the entry of a changeset for the row of a table with a key, if there is one
abbrev pub entry_in : List ℕ → Option GroupData → Option Entry
entry_in key None = None
entry_in key (Some group) = with_text (entry_key group.header.flags) group.entries key

abbrev pub entry_at : List GroupData → List ℕ → List ℕ → Option Entry
entry_at changeset name key = entry_in key (with_text table_name changeset name)

-- the table of a group is there, with its columns and its key
pub record HasColumns (state : State) (group : GroupData) : Type 0 where
  pub schema : SchemaData
  pub found : schema_at state group.header.name ≡ Some schema
  pub same : key_marks group.header.flags ≡ key_marks schema.flags

-- the changeset has exactly the net changes from a state to another, in any order of tables and keys
pub record IsNetOf (old new : State) (changeset : List GroupData) : Type 0 where
  pub tables : All (HasColumns old) changeset
  pub entries : (name key : List ℕ) (schema : SchemaData) → schema_at old name ≡ Some schema
      → entry_at changeset name key ≡ net_entry schema.flags (row_at old name key) (row_at new name key)

-- where the two have the net changes from a state to a second and from there to a third, of the same tables, the join
-- has those from the first to the third
abbrev pub NetsBoth : List GroupData → List GroupData → List GroupData → Type 0
NetsBoth first second join = (old mid new : State) → IsState old → IsState mid → IsState new
    → ((table : List ℕ) → schema_at mid table ≡ schema_at old table) → ((table : List ℕ) → schema_at new table ≡ schema_at old table)
    → IsNetOf old mid first → IsNetOf mid new second → IsNetOf old new join

abbrev pub JoinNets : Type 0
JoinNets = (first second join : List GroupData) → IsChangeset first → IsChangeset second → IsJoined first second join
    → NetsBoth first second join
