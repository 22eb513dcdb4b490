use Rattle.std.proofs.Common.{◌≡◌, map, take, filter_map}
use Rattle.cs_shell_grammar.specs.Commands.{assignment_of}
use Rattle.cs_shell_columns.specs.Names.{texts_of}
use Rattle.cs_shell_columns.specs.Rows.{assigned}
use Rattle.cs_shell_columns.proofs.rows.key_values.Given as goal

-- the values are those of the columns so far
abbrev pub invariant-loop-name : goal.invariant-loop-name
invariant-loop-name l = l.values.items ≡ filter_map (assigned (map assignment_of l.conditions)) (texts_of (take l.name-index l.name-items))
