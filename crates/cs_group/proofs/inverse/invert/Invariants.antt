-- The groups that were taken have their inverse.
use Rattle.cs_group.proofs.InverseLemmas.{InversesSoFar}
use Rattle.cs_group.proofs.inverse.invert.Given as goal

abbrev pub invariant-loop-group : goal.invariant-loop-group
invariant-loop-group l = InversesSoFar l.fn.changeset l.inverse l.yielded l.group-iterator.rest.items
