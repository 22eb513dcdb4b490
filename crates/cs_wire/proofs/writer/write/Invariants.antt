use Rattle.std.proofs.Common.{◌≡◌, take}
use Rattle.cs_wire_entries.specs.Changeset.{file_bytes}
use Rattle.cs_wire.proofs.writer.write.Given as goal

abbrev pub invariant-loop-group : goal.invariant-loop-group
invariant-loop-group l = l.out.items ≡ file_bytes (take l.group-index l.group-items)
