-- The tables so far agree.
use Rattle.std.proofs.Common.{List, ℕ, All, take}
use Rattle.cs_wire.specs.Changeset.{GroupData}
use Rattle.cs_file_scan.specs.Named.{AreListed}
use Rattle.cs_group.specs.Joining.{AgreesWith}
use Rattle.cs_changegroup.specs.Slots.{HasGroups}
use Rattle.cs_changegroup.proofs.tables.JoinedTables.first_clash.Given as goal

abbrev pub invariant-loop-index : goal.invariant-loop-index
invariant-loop-index l = (files : List ℕ) (groups others : List GroupData) → HasGroups files l.self groups → AreListed l.named others
    → All (AgreesWith groups) (take l.index others)
