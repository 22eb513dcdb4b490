-- The keys so far have their indices, and the others are left.
use Rattle.std.specs.Vec.Iter.{into_iter_items}
use Rattle.cs_wire.proofs.IndexLemmas.{IsIndexed}
use Rattle.cs_wire.proofs.group.indices_of.Given as goal

abbrev pub invariant-loop-key : goal.invariant-loop-key
invariant-loop-key l = IsIndexed l.fn.keys.items (into_iter_items l.key-iterator) l.indices l.index
