-- The columns so far are filled.
use Rattle.std.proofs.Common.{◌≡◌, ◌++◌}
use Rattle.std.specs.Slice.Iter.{iter_rest}
use Rattle.cs_apply_conflict_kinds.specs.Conflicts.{filled}
use Rattle.cs_apply_conflict_kinds.proofs.conflict.fill.Given as goal

abbrev pub invariant-fields : goal.invariant-fields
invariant-fields l = l.values.items ++ filled l.left (iter_rest l.stood) ≡ filled l.fn.fields l.row
