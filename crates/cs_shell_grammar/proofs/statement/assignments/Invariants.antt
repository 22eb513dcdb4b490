use Rattle.std.proofs.Common.{◌≡◌, length, map}
use Rattle.cs_shell_grammar.specs.Commands.{assignment_of}
use Rattle.cs_shell_tokens.specs.Reading.{tokens_of}
use Rattle.cs_shell_grammar.specs.StatementReading.{onto, going, assignments_in}
use Rattle.cs_shell_grammar.proofs.statement.assignments.Given as goal

abbrev pub invariant-loop-more : goal.invariant-loop-more
invariant-loop-more l = assignments_in l.between l.last (tokens_of l.line) ≡ onto (map assignment_of l.assignments.items) (going l.more (tokens_of l.rest) (assignments_in l.between l.last (tokens_of l.rest)))

abbrev pub decreases-loop-more : goal.decreases-loop-more
decreases-loop-more l = length l.rest
