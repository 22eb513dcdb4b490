use Rattle.std.proofs.Common.{◌≡◌, map, take}
use Rattle.cs_shell_grammar.specs.Commands.{assignment_of}
use Rattle.cs_shell_columns.specs.Columns.{columns_of}
use Rattle.cs_shell_columns.specs.Names.{texts_of}
use Rattle.cs_shell_columns.proofs.names.assigned_names.Given as goal

-- the texts are the names of the assignments so far
abbrev pub invariant-loop-assignment : goal.invariant-loop-assignment
invariant-loop-assignment l = texts_of l.texts.items ≡ columns_of (map assignment_of (take l.assignment-index l.assignments))
