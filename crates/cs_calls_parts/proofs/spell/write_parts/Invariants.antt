-- The bytes of the parts so far are appended.
use Rattle.std.proofs.Common.{◌≡◌, ◌++◌, take}
use Rattle.std.specs.List.{flat_map}
use Rattle.cs_calls_parts.proofs.spell.write_parts.Given as goal

abbrev pub invariant-loop-part : goal.invariant-loop-part
invariant-loop-part g l = l.out.items ≡ l.initial.out.items ++ flat_map g.T.Part.part_bytes (take l.part-index l.parts)
