-- The columns so far are the same.
use Rattle.std.proofs.Common.{◌≡◌, take}
use Rattle.cs_group.specs.Joining.{key_marks}
use Rattle.cs_group.proofs.columns.have_same_columns.Given as goal

abbrev pub invariant-loop-column : goal.invariant-loop-column
invariant-loop-column l = key_marks (take l.column l.flags) ≡ key_marks (take l.column l.other)
