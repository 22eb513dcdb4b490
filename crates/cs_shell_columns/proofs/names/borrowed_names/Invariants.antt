use Rattle.std.proofs.Common.{◌≡◌, map, take, string_bytes}
use Rattle.cs_shell_columns.specs.Names.{texts_of}
use Rattle.cs_shell_columns.proofs.names.borrowed_names.Given as goal

-- the texts are the names so far
abbrev pub invariant-loop-name : goal.invariant-loop-name
invariant-loop-name l = texts_of l.texts.items ≡ map string_bytes (take l.name-index l.names)
