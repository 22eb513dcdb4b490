-- The writes of a run, with the tables as they are then.
use Rattle.std.specs.Prelude.{◌≡◌, ℕ, List, None, Some, Any}
use Rattle.cs_value.specs.State.{State, row_at}
use Rattle.cs_wire_entries.specs.declared.entry.Entry.{Entry}
use Rattle.cs_wire.specs.Entry.{key_of}
use Rattle.cs_wire.specs.Changeset.{HeaderData, GroupData}
use Rattle.cs_rows.specs.Rows.{Write, puts_row, removes_row}
use Rattle.cs_apply_conflict_kinds.specs.Conflicts.{row_after}
use Rattle.cs_apply_engine.specs.declared.running.Direction.{Direction}
use Rattle.cs_apply_engine.specs.Running.{IsReadAs}

-- the entry of a table puts what it leaves of the row with its key, or removes that row
abbrev pub IsEntryWrite : HeaderData → Entry → State → Write → Type 0
IsEntryWrite header entry held (puts_row name key row) =
    (name ≡ header.name) × (key ≡ key_of header.flags entry.change)
    × (row_after header.flags entry.change (row_at held name key) ≡ Some row)
IsEntryWrite header entry held (removes_row name key) =
    (name ≡ header.name) × (key ≡ key_of header.flags entry.change)
    × (row_after header.flags entry.change (row_at held name key) ≡ None)

-- the write is that of an entry of the group with such tables, whether or not a run makes it
abbrev pub IsGroupWrite : GroupData → State → Write → Type 0
IsGroupWrite group held write = Any (λ entry. IsEntryWrite group.header entry held write) group.entries

-- it is that of an entry of the changeset
abbrev pub IsRunWrite : List GroupData → State → Write → Type 0
IsRunWrite changeset held write = Any (λ group. IsGroupWrite group held write) changeset

-- it is that of an entry of the file, or of the inverse of one
abbrev pub IsFileWrite : Direction → List ℕ → State → Write → Type 0
IsFileWrite direction file held write =
    (changeset : List GroupData) × IsReadAs file direction changeset × IsRunWrite changeset held write
