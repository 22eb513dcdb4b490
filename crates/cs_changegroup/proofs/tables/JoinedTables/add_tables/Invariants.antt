-- The tables so far are added.
use Rattle.std.proofs.Common.{List, take}
use Rattle.cs_wire.specs.Changeset.{GroupData, IsChangeset}
use Rattle.cs_file_scan.specs.Named.{AreListed}
use Rattle.cs_group.specs.Joining.{AreJoinable}
use Rattle.cs_changegroup.specs.Slots.{AddsGroups, AreTables, KeptTable, groups_of}
use Rattle.cs_changegroup.proofs.tables.JoinedTables.add_tables.Given as goal

abbrev pub invariant-loop-index : goal.invariant-loop-index
invariant-loop-index l = (kept : List KeptTable) (others : List GroupData) → AreTables l.files l.initial.self kept → AreListed l.named others → IsChangeset others → AreJoinable (groups_of kept) others
    → AddsGroups l.files kept (take l.index others) l.self
