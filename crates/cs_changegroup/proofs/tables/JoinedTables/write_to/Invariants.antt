-- The tables so far are written.
use Rattle.std.proofs.Common.{◌≡◌, ◌++◌, List, take}
use Rattle.cs_wire.specs.Changeset.{file_bytes}
use Rattle.cs_changegroup.specs.Slots.{AreTables, KeptTable, groups_of}
use Rattle.cs_changegroup.proofs.tables.JoinedTables.write_to.Given as goal

abbrev pub invariant-loop-table : goal.invariant-loop-table
invariant-loop-table l = (kept : List KeptTable) → AreTables l.files l.self kept → l.out.items ≡ l.initial.out.items ++ file_bytes (groups_of (take l.table-index kept))
