use Rattle.std.proofs.Common.{◌≡◌, map, take, length}
use Rattle.cs_shell_grammar.specs.Commands.{assignment_of}
use Rattle.cs_shell_columns.specs.Rows.{with_assigned}
use Rattle.cs_shell_columns.proofs.rows.assign.Given as goal

-- the values are those of the columns so far
abbrev pub invariant-loop-column : goal.invariant-loop-column
invariant-loop-column l = l.values.items ≡ with_assigned (map assignment_of l.assignments) (take (length l.yielded) l.schema.columns) (take (length l.yielded) l.row)
