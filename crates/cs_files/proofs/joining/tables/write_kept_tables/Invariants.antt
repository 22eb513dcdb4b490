-- The tables so far have become what they become.
use Rattle.std.proofs.Common.{◌≡◌, ◌++◌, List, take}
use Rattle.std.specs.List.{flat_map}
use Rattle.cs_wire.specs.Changeset.{GroupData, IsChangeset, group_bytes}
use Rattle.cs_file_scan.specs.Named.{AreListed}
use Rattle.cs_group.specs.Joining.{AreJoinable, joined_group, outcome, table_name}
use Rattle.cs_files.specs.Writing.{some_bytes}
use Rattle.cs_files.proofs.joining.tables.write_kept_tables.Given as goal

abbrev pub invariant-loop-index : goal.invariant-loop-index
invariant-loop-index l = (groups others : List GroupData) → AreListed l.known groups → AreListed l.added others → IsChangeset others → AreJoinable groups others
    → l.out.items ≡ l.initial.out.items ++ flat_map (λ g. some_bytes group_bytes (outcome table_name joined_group others g)) (take l.index groups)
