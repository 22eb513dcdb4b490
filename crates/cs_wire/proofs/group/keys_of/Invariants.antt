-- The keys of the entries so far are there.
use Rattle.std.proofs.Common.{◌≡◌, take}
use Rattle.cs_wire_entries.specs.Views.{group_keys}
use Rattle.cs_wire.proofs.group.keys_of.Given as goal

abbrev pub invariant-loop-entry : goal.invariant-loop-entry
invariant-loop-entry l = l.keys.items ≡ group_keys l.header.flags (take l.entry-index l.entries)
