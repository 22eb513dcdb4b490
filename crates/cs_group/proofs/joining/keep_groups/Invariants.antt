-- What becomes of the groups so far is there, and those of the second that have the table of one are marked.
use Rattle.std.proofs.Common.{◌≡◌, ◌++◌, length, take}
use Rattle.std.specs.Prelude.{filter_map}
use Rattle.cs_group.specs.Joining.{outcome, joined_group}
use Rattle.cs_group.specs.Marks.{AreMet}
use Rattle.cs_group.proofs.joining.keep_groups.Given as goal

abbrev pub invariant-loop-group : goal.invariant-loop-group
invariant-loop-group l =
    (l.groups.items ≡ l.initial.groups.items ++ filter_map (outcome (λ g. g.header.name) joined_group l.second) (take l.group-index l.group-items))
    × AreMet (λ g. g.header.name) l.met.items (take l.group-index l.group-items) l.second
    × (length l.met.items ≡ length l.second)
