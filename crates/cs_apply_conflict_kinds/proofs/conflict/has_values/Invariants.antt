-- What the columns so far leave open is said by the others.
use Rattle.std.proofs.Common.{◌≡◌, drop}
use Rattle.cs_apply_conflict_kinds.specs.Conflicts.{has_values}
use Rattle.cs_apply_conflict_kinds.proofs.conflict.has_values.Given as goal

abbrev pub invariant-loop-value : goal.invariant-loop-value
invariant-loop-value l = has_values (drop l.value-index l.row) l.left ≡ has_values l.row l.fn.fields
