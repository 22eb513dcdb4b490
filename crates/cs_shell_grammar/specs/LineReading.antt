-- A line as a function of its bytes, which the code computes: what contracts of this crate's own functions say.
use Rattle.std.specs.Prelude.{ℕ, ◌==◌, List, [], ◌∷◌, Option, Bool, false, if◌then◌else◌}
use Rattle.cs_shell_tokens.specs.Words.{words_of}
use Rattle.cs_shell_grammar.specs.Commands.{CommandData}
use Rattle.cs_shell_tokens.specs.Reading.{tokens_of}
use Rattle.cs_shell_grammar.specs.StatementReading.{statement_in}
use Rattle.cs_shell_grammar.specs.DotReading.{dot_in}

-- the first word begins with a dot
abbrev pub begins_dot : List (List ℕ) → Bool
begins_dot [] = false
begins_dot ([] ∷ words) = false
begins_dot ((b ∷ word) ∷ words) = b == 46

unfoldable pub line_in : List ℕ → Option CommandData
line_in line = if begins_dot (words_of line) then dot_in line else statement_in (tokens_of line)
