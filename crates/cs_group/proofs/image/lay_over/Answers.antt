-- `image::lay_over`: the invariant of the loop at `column`.
use Rattle.std.proofs.Common.{sym, ◌∙◌, arith}
use Rattle.cs_group.proofs.ImageLemmas.{laid_over_more, pushed}
use Rattle.cs_group.proofs.image.lay_over.Goals as goal

pub loop-column-preserved : goal.loop-column-preserved
loop-column-preserved c =
    let more = laid_over_more c.args.upper.now c.args.lower.now c.loop-column.column c.loop-column-test.true (omega (arith, c.requires.width, c.loop-column-test.true)) in
    let one = pushed c.loop-column.fields.items c.push.new.self.items c.over.result _ _ c.in_ok-push.ensures.items c.loop-column.invariant.0 c.over.ensures.same c.loop-column.invariant.1 c.over.ensures.short in
    (one.0 ∙ sym more, one.1)
