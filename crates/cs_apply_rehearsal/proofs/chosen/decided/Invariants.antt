-- the conflicts so far have their choices
use Rattle.std.proofs.Common.{◌≡◌, ◌++◌, length, map}
use Rattle.std.specs.Vec.Iter.{into_iter_items}
use Rattle.cs_apply_engine.specs.Report.{met_of}
use Rattle.cs_apply_rehearsal.specs.Choosing.{listed_with}
use Rattle.cs_apply_rehearsal.specs.Rehearsal.{found_of}
use Rattle.cs_apply_rehearsal.proofs.chosen.decided.Given as goal

abbrev pub invariant-loop-item : goal.invariant-loop-item
invariant-loop-item l = record {
  whole : l.yielded ++ into_iter_items l.item-iterator ≡ l.fn.found.items;
  counted : l.index ≡ length l.yielded;
  decided : map met_of l.list.items ≡ listed_with (map found_of l.yielded) l.choices;
}
