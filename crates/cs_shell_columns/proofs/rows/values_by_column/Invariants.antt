use Rattle.std.proofs.Common.{map}
use Rattle.std.specs.Prelude.{reverse}
use Rattle.cs_shell_grammar.specs.Commands.{assignment_of}
use Rattle.cs_shell_columns.specs.Names.{HasAssigned}
use Rattle.cs_shell_columns.proofs.rows.values_by_column.Given as goal

-- the map has the values of the last assignments
abbrev pub invariant-loop-assignment : goal.invariant-loop-assignment
invariant-loop-assignment l = HasAssigned (map assignment_of (reverse (map (λ a. a.now) l.yielded))) l.values
