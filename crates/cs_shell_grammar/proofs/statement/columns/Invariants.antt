use Rattle.std.proofs.Common.{◌≡◌, length, map, option_map}
use Rattle.cs_shell_tokens.specs.Reading.{tokens_of}
use Rattle.cs_shell_grammar.specs.StatementReading.{onto, column_of, columns_behind, columns_in}
use Rattle.cs_shell_grammar.proofs.statement.columns.Given as goal

abbrev pub invariant-loop-next : goal.invariant-loop-next
invariant-loop-next l = columns_in (tokens_of l.line) ≡ onto (map column_of l.columns.items) (columns_behind (option_map column_of l.next) (tokens_of l.rest))

abbrev pub decreases-loop-next : goal.decreases-loop-next
decreases-loop-next l = length l.rest
