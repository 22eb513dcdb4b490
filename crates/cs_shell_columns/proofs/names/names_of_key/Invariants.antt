use Rattle.std.proofs.Common.{◌≡◌, take, length}
use Rattle.cs_value.specs.Key.{key_columns}
use Rattle.cs_shell_columns.specs.Names.{texts_of}
use Rattle.cs_shell_columns.proofs.names.names_of_key.Given as goal

-- the texts are the names of the key's columns so far
abbrev pub invariant-loop-flag : goal.invariant-loop-flag
invariant-loop-flag l = texts_of l.texts.items ≡ key_columns (take (length l.yielded) l.schema.flags) (take (length l.yielded) l.schema.columns)
