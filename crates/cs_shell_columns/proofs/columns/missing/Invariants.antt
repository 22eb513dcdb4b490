use Rattle.std.proofs.Common.{◌≡◌, map, take, not}
use Rattle.cs_shell_columns.specs.Names.{texts_of, has_name}
use Rattle.cs_shell_columns.proofs.columns.missing.Given as goal

-- the marks are those of the names so far
abbrev pub invariant-loop-name : goal.invariant-loop-name
invariant-loop-name l = l.marks.items ≡ map (λ name. not (has_name l.set name)) (texts_of (take l.name-index l.names))
