-- What was read before, and what is still read, are all of it.
use Rattle.std.proofs.Common.{◌≡◌, ◌-◌}
use Rattle.cs_calls_parts.specs.Reading.{parts_at}
use Rattle.cs_calls_parts.proofs.PartLemmas.{with_front}
use Rattle.cs_calls_parts.proofs.step.read_parts.Given as goal

abbrev pub invariant-loop : goal.invariant-loop
invariant-loop g l = with_front l.parts.items (parts_at g.T.Part.part_of (l.count - l.counter) l.rest) ≡ parts_at g.T.Part.part_of l.count l.bytes
