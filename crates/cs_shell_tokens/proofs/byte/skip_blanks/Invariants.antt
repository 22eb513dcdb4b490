use Rattle.std.proofs.Common.{◌≡◌, ◌≤◌, length}
use Rattle.cs_shell_tokens.specs.Tokens.{is_blank}
use Rattle.cs_shell_tokens.specs.Words.{words_of, behind_word}
use Rattle.cs_shell_tokens.specs.Reading.{behind}
use Rattle.cs_shell_tokens.proofs.byte.skip_blanks.Given as goal

abbrev pub invariant-loop-byte : goal.invariant-loop-byte
invariant-loop-byte l = record {
  after : behind is_blank l.rest ≡ behind is_blank l.line;
  words : words_of l.rest ≡ words_of l.line;
  behind : behind_word l.rest ≡ behind_word l.line;
  shorter : length l.rest ≤ length l.line;
}

abbrev pub decreases-loop-byte : goal.decreases-loop-byte
decreases-loop-byte l = length l.rest
