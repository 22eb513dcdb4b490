-- The groups so far agree.
use Rattle.std.proofs.Common.{All, take}
use Rattle.cs_group.specs.Joining.{AgreesWith}
use Rattle.cs_group.proofs.columns.first_clash.Given as goal

abbrev pub invariant-loop-place : goal.invariant-loop-place
invariant-loop-place l = All (AgreesWith l.first) (take l.place l.second)
