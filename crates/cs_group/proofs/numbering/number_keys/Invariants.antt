-- The groups that were taken are numbered.
use Rattle.cs_group.proofs.NumberingLemmas.{NumberedSoFar}
use Rattle.cs_group.proofs.numbering.number_keys.Given as goal

abbrev pub invariant-loop-group : goal.invariant-loop-group
invariant-loop-group l = NumberedSoFar l.fn.changeset l.numbered l.yielded l.group-iterator.rest.items
