-- the elements so far are equal
use Rattle.std.proofs.Common.{◌≡◌, ◌≤◌, length, drop}
use Rattle.std.specs.Cmp.Lexicographic.{slice_cmp}
use Rattle.cs_apply_rehearsal.specs.Order.{value_cmp}
use Rattle.cs_apply_rehearsal.proofs.order.compare_rows.Given as goal

abbrev pub invariant-loop-index : goal.invariant-loop-index
invariant-loop-index l = record {
  within : l.index ≤ length l.other;
  inside : l.index ≤ length l.one;
  same : slice_cmp value_cmp l.one l.other ≡ slice_cmp value_cmp (drop l.index l.one) (drop l.index l.other);
}
