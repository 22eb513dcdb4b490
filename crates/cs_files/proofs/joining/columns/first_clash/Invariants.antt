-- The tables so far agree.
use Rattle.std.proofs.Common.{List, take, All}
use Rattle.cs_wire.specs.Changeset.{GroupData, IsChangeset}
use Rattle.cs_file_scan.specs.Named.{AreListed}
use Rattle.cs_group.specs.Joining.{AgreesWith}
use Rattle.cs_files.proofs.joining.columns.first_clash.Given as goal

abbrev pub invariant-loop-index : goal.invariant-loop-index
invariant-loop-index l = (groups others : List GroupData) → AreListed l.known groups → IsChangeset groups → AreListed l.added others → All (AgreesWith groups) (take l.index others)
