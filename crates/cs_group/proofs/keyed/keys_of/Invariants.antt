-- The keys of the entries so far are there.
use Rattle.std.proofs.Common.{◌≡◌, take}
use Rattle.cs_wire.specs.Views.{group_keys}
use Rattle.cs_group.proofs.keyed.keys_of.Given as goal

abbrev pub invariant-loop-entry : goal.invariant-loop-entry
invariant-loop-entry l = l.keys.keys ≡ group_keys l.group.header.flags (take l.entry-index l.entries)
