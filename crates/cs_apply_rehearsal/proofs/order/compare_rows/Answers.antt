-- `order::compare_rows`: what is left of the lists is compared by their lengths.
use Rattle.std.proofs.Common.{◌≡◌, length, ◌∙◌, arith}
use Rattle.std.specs.Cmp.Lexicographic.{slice_cmp}
use Rattle.std.specs.Ordering.{nat_cmp}
use Rattle.cs_apply_rehearsal.specs.Order.{value_cmp}
use Rattle.cs_apply_rehearsal.proofs.OrderLemmas.{cmp_rest}
use Rattle.cs_apply_rehearsal.proofs.order.compare_rows.Goals as goal

pub returns : goal.returns
returns c =
    let so : slice_cmp value_cmp c.args.one.now c.args.other.now ≡ nat_cmp (length c.args.one.now) (length c.args.other.now) =
    c.loop-index.invariant.same ∙ cmp_rest value_cmp c.args.one.now c.args.other.now c.loop-index.index (omega arith) c.loop-index.invariant.within in
    cc (so)
