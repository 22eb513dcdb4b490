-- Of the tables so far those whose names the first file has not are written.
use Rattle.std.proofs.Common.{◌≡◌, ◌++◌, List, take}
use Rattle.std.specs.List.{flat_map}
use Rattle.cs_wire.specs.Changeset.{GroupData, IsChangeset, group_bytes}
use Rattle.cs_file_scan.specs.Named.{AreListed}
use Rattle.cs_group.specs.Joining.{if_new, table_name}
use Rattle.cs_files.specs.Writing.{some_bytes}
use Rattle.cs_files.proofs.joining.tables.write_new_tables.Given as goal

abbrev pub invariant-loop-index : goal.invariant-loop-index
invariant-loop-index l = (groups others : List GroupData) → AreListed l.known groups → IsChangeset groups → AreListed l.added others
    → l.out.items ≡ l.initial.out.items ++ flat_map (λ g. some_bytes group_bytes (if_new table_name groups g)) (take l.index others)
