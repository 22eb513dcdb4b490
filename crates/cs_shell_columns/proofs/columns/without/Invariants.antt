use Rattle.cs_shell_columns.specs.Names.{texts_of}
use Rattle.cs_shell_columns.proofs.ColumnLemmas.{TakenSoFar}
use Rattle.cs_shell_columns.proofs.columns.without.Given as goal

-- the names so far are columns, and the set has the others
abbrev pub invariant-loop-name : goal.invariant-loop-name
invariant-loop-name l = TakenSoFar (texts_of l.columns) (texts_of l.names) l.name-index l.others
