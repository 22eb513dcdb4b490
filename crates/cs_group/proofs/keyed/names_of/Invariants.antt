-- The names of the groups so far are there.
use Rattle.std.proofs.Common.{◌≡◌, map, take}
use Rattle.cs_wire.specs.Views.{group_names}
use Rattle.cs_group.proofs.keyed.names_of.Given as goal

abbrev pub invariant-loop-group : goal.invariant-loop-group
invariant-loop-group l = map (λ name. name.now) l.names.keys ≡ group_names (take l.group-index l.groups)
