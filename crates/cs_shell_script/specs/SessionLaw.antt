-- What holds of a session after any lines of a script.
use Rattle.std.specs.Prelude.{ℕ, List}
use Rattle.cs_value.specs.State.{State}
use Rattle.cs_shell_replies.specs.Replies.{Reply}
use Rattle.cs_shell_script.specs.Net.{HasNet}
use Rattle.cs_shell_executor.specs.LineAnswers.{LineGives}
use Rattle.cs_shell_executor.specs.ShellState.{ShellState}
use Rattle.cs_shell_script.specs.Runs.{LinesGive}
use Rattle.cs_shell_script.specs.StoreRuns.{beginning}

-- a script begins with any tables and is answered any lines: if a session is open then, its net changes are those of
-- its whole tables
abbrev pub ScriptHasNet : Type 0
ScriptHasNet = (tables : State) (lines : List (List ℕ)) (replies : List Reply) (last : ShellState)
    → LinesGive LineGives (beginning tables) lines replies last → HasNet last
