use Rattle.std.proofs.Common.{◌≡◌, length}
use Rattle.cs_shell_tokens.specs.Words.{words_of}
use Rattle.cs_shell_grammar.specs.DotReading.{settings_in, no_settings}
use Rattle.cs_shell_grammar.proofs.dot.read_settings.Given as goal

abbrev pub invariant-loop-word : goal.invariant-loop-word
invariant-loop-word l = settings_in no_settings (words_of l.line) ≡ settings_in l.settings (words_of l.rest)

abbrev pub decreases-loop-word : goal.decreases-loop-word
decreases-loop-word l = length l.rest
