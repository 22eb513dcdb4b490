-- the conflicts so far have their indices, and the entries of the others are not before the last one
use Rattle.std.proofs.Common.{◌≡◌, ◌++◌, ◌≤◌, drop, length, map}
use Rattle.std.specs.Vec.Iter.{into_iter_items}
use Rattle.cs_apply_rehearsal.specs.Along.{AreAlong}
use Rattle.cs_apply_rehearsal.specs.Numbering.{AreNumbered, conflicts_of}
use Rattle.cs_apply_rehearsal.specs.Places.{place_of}
use Rattle.cs_apply_rehearsal.proofs.numbering.number.Given as goal

abbrev pub invariant-loop-met : goal.invariant-loop-met
invariant-loop-met l = record {
  within : l.index ≤ length l.places;
  whole : l.yielded ++ into_iter_items l.met-iterator ≡ l.fn.conflicts.items;
  later : AreAlong (map place_of l.places) (conflicts_of l.fn.conflicts.items)
      → AreAlong (drop l.index (map place_of l.places)) (conflicts_of (into_iter_items l.met-iterator));
  numbered : AreAlong (map place_of l.places) (conflicts_of l.fn.conflicts.items)
      → AreNumbered (map place_of l.places) l.yielded l.found.items;
}
