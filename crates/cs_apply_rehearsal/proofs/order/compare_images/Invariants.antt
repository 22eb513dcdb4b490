-- the elements so far are equal
use Rattle.std.proofs.Common.{◌≡◌, ◌≤◌, length, drop}
use Rattle.std.specs.Cmp.Lexicographic.{slice_cmp}
use Rattle.cs_apply_rehearsal.specs.Order.{field_cmp}
use Rattle.cs_apply_rehearsal.proofs.order.compare_images.Given as goal

abbrev pub invariant-loop-index : goal.invariant-loop-index
invariant-loop-index l = record {
  within : l.index ≤ length l.other;
  inside : l.index ≤ length l.one;
  same : slice_cmp field_cmp l.one l.other ≡ slice_cmp field_cmp (drop l.index l.one) (drop l.index l.other);
}
