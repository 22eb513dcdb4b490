-- The parts so far are copied.
use Rattle.std.proofs.Common.{◌≡◌, take}
use Rattle.cs_value.proofs.parts.parts_copy.Given as goal

abbrev pub invariant-loop-part : goal.invariant-loop-part
invariant-loop-part g l = l.copies.items ≡ take l.part-index l.parts
