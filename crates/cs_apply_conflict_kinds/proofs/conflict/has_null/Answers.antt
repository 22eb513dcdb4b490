-- `conflict::has_null`: no field is left.
use Rattle.std.proofs.Common.{drop, sym, ap, ◌∙◌}
use Rattle.cs_value.specs.State.{has_null}
use Rattle.cs_apply_conflict_kinds.proofs.RuleLemmas.{no_null}
use Rattle.cs_apply_conflict_kinds.proofs.conflict.has_null.Goals as goal

pub returns-in-None : goal.returns-in-None
returns-in-None c =
    let left = drop c.loop-refuses_here.refuses_here-index c.args.refuses.now in
    sym (no_null left) ∙ ap (has_null left) (sym c.in-None.ensures.steps.0) ∙ c.loop-refuses_here.invariant
