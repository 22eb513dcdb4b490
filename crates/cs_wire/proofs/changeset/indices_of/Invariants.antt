-- The names of the groups so far have their indices.
use Rattle.std.proofs.Common.{take}
use Rattle.cs_wire_entries.specs.Views.{group_names, IsIndex}
use Rattle.cs_wire.proofs.changeset.indices_of.Given as goal

abbrev pub invariant-loop-index : goal.invariant-loop-index
invariant-loop-index l = IsIndex l.indices (group_names (take l.index l.groups))
