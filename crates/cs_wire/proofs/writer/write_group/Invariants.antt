use Rattle.std.proofs.Common.{◌≡◌, ◌++◌, take}
use Rattle.cs_wire_entries.specs.Changeset.{header_bytes, entries_bytes}
use Rattle.cs_wire.proofs.writer.write_group.Given as goal

abbrev pub invariant-loop-entry : goal.invariant-loop-entry
invariant-loop-entry l = l.out.items ≡ l.fn.out.items ++ header_bytes l.group.header ++ entries_bytes (take l.entry-index l.entry-items)
