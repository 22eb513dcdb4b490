-- `image::known`: the clause `width`.
use Rattle.std.proofs.Common.{◌≡◌, length}
use Rattle.cs_group.proofs.ImageLemmas.{length-laid_fields}
use Rattle.cs_group.proofs.image.known.Goals as goal

pub returns-clause-width : goal.returns-clause-width
returns-clause-width c =
    let upper = c.in-Some-Some.upper.items in
    let lower = c.in-Some-Some.lower.items in
    let width : length upper ≡ length lower = rw (c.in-Some-Some.is-0, c.in-Some-Some.is-1) at c.requires.width in
    let same = rw (c.deref.ensures.value, c.deref-in-Some-Some.ensures.value) at c.in_ok-lay_over-in-Some-Some.ensures.same in
    rw c.in-Some-Some.is-0 (length-laid_fields c.in_ok-lay_over-in-Some-Some.field-0.items upper lower same width)
