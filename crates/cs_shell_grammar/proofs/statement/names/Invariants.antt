use Rattle.std.proofs.Common.{◌≡◌, length, map, string_bytes}
use Rattle.cs_shell_tokens.specs.Reading.{tokens_of}
use Rattle.cs_shell_grammar.specs.StatementReading.{onto, going, names_in}
use Rattle.cs_shell_grammar.proofs.statement.names.Given as goal

abbrev pub invariant-loop-more : goal.invariant-loop-more
invariant-loop-more l = names_in (tokens_of l.line) ≡ onto (map string_bytes l.names.items) (going l.more (tokens_of l.rest) (names_in (tokens_of l.rest)))

abbrev pub decreases-loop-more : goal.decreases-loop-more
decreases-loop-more l = length l.rest
