use Rattle.std.proofs.Common.{◌≡◌, false, length}
use Rattle.cs_shell_tokens.specs.Reading.{unquoted, onto_text}
use Rattle.cs_shell_tokens.proofs.quoted.read_quoted.Given as goal

abbrev pub invariant-loop-byte : goal.invariant-loop-byte
invariant-loop-byte l = unquoted l.quote false l.line ≡ onto_text l.text.items (unquoted l.quote false l.rest)

abbrev pub decreases-loop-byte : goal.decreases-loop-byte
decreases-loop-byte l = length l.rest
