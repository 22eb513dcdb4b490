use Rattle.std.proofs.Common.{◌-◌}
use Rattle.cs_shell_script.specs.Runs.{SCRIPT_LIMIT}
use Rattle.cs_shell_script.specs.Progress.{HasRead, running}
use Rattle.cs_shell_script.proofs.script.RunningScript.take_input.Given as goal

abbrev pub invariant-loop-piece : goal.invariant-loop-piece
invariant-loop-piece g l =
    HasRead g.R.Read.remaining g.W.Write.contents g.M.Interpreter.gives (running l.initial.interpreter l.initial.self) (running l.interpreter l.self) l.initial.input l.input l.initial.out l.out l.count

abbrev pub decreases-loop-piece : goal.decreases-loop-piece
decreases-loop-piece g l = SCRIPT_LIMIT - l.count
