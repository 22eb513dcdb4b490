-- `walk::Walk::new`: the invariant.
use Rattle.std.proofs.Common.{inl, refl}
use Rattle.cs_wire.proofs.IndexLemmas.{Knows-none}
use Rattle.cs_wire.proofs.walk.Walk.new.Goals as goal

pub invariant_of-result : goal.invariant_of-result
invariant_of-result c = inl (record { place_is = refl; no_table = refl; no_bare = refl; knows_names = rw c.new.ensures Knows-none })
