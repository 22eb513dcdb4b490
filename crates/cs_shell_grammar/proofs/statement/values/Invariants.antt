use Rattle.std.proofs.Common.{◌≡◌, length}
use Rattle.cs_shell_tokens.specs.Reading.{tokens_of}
use Rattle.cs_shell_grammar.specs.StatementReading.{onto, going, values_in}
use Rattle.cs_shell_grammar.proofs.statement.values.Given as goal

abbrev pub invariant-loop-more : goal.invariant-loop-more
invariant-loop-more l = values_in (tokens_of l.line) ≡ onto l.values.items (going l.more (tokens_of l.rest) (values_in (tokens_of l.rest)))

abbrev pub decreases-loop-more : goal.decreases-loop-more
decreases-loop-more l = length l.rest
