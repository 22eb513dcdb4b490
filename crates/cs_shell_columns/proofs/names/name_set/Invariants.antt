use Rattle.std.proofs.Common.{bytes_eq, ◌≡◌, ℕ, List, take}
use Rattle.std.specs.List.{list_any}
use Rattle.cs_shell_columns.specs.Names.{texts_of, has_name}
use Rattle.cs_shell_columns.proofs.names.name_set.Given as goal

-- the set has the names so far
abbrev pub invariant-loop-name : goal.invariant-loop-name
invariant-loop-name l = (q : List ℕ) → has_name l.set q ≡ list_any (bytes_eq q) (texts_of (take l.name-index l.names))
