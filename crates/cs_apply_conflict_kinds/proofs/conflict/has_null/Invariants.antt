-- What the columns so far leave open is said by the others.
use Rattle.std.proofs.Common.{◌≡◌, drop}
use Rattle.cs_value.specs.State.{has_null}
use Rattle.cs_apply_conflict_kinds.proofs.conflict.has_null.Given as goal

abbrev pub invariant-loop-refuses_here : goal.invariant-loop-refuses_here
invariant-loop-refuses_here l = has_null (drop l.refuses_here-index l.refuses) l.left ≡ has_null l.fn.refuses l.fn.fields
