-- `rows::values_by_column`: the invariant of the loop at `assignment`.
use Rattle.std.proofs.Common.{refl}
use Rattle.cs_shell_columns.proofs.RowLemmas.{HasAssigned-more, reversed_more}
use Rattle.cs_shell_columns.proofs.rows.values_by_column.Goals as goal

pub loop-assignment-preserved : goal.loop-assignment-preserved
loop-assignment-preserved c =
    rw (reversed_more c.loop-assignment.yielded c.in-Some.assignment) (HasAssigned-more _ _ c.loop-assignment.values c.insert.new.self c.as_str.result _ c.as_str.ensures.value refl c.loop-assignment.invariant c.in_ok-insert.ensures.updates)
