-- The lines of a script, and what they lead to.
use Rattle.std.proofs.Common.{ℕ, List, [], ◌∷◌}
use Rattle.cs_shell_replies.specs.Replies.{Reply}
use Rattle.cs_shell_script.specs.Net.{LinesLead}
use Rattle.cs_shell_executor.specs.LineAnswers.{LineGives}
use Rattle.cs_shell_executor.specs.ShellState.{ShellState}
use Rattle.cs_shell_script.specs.Runs.{LinesGive}

-- lines that are answered lead from the first state to the last
pub lines_lead : (old new : ShellState) (lines : List (List ℕ)) (replies : List Reply) → LinesGive LineGives old lines replies new → LinesLead old lines new
lines_lead old new [] [] given = given
lines_lead old new [] (reply ∷ replies) given = absurd given
lines_lead old new (line ∷ lines) [] given = absurd given
lines_lead old new (line ∷ lines) (reply ∷ replies) given = (reply, given.0, given.1, lines_lead given.0 new lines replies given.2)
