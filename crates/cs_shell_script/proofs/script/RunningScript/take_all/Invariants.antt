use Rattle.std.proofs.Common.{take}
use Rattle.cs_shell_script.specs.Progress.{Advances, running}
use Rattle.cs_shell_script.proofs.script.RunningScript.take_all.Given as goal

abbrev pub invariant-loop-byte : goal.invariant-loop-byte
invariant-loop-byte g l =
    Advances g.W.Write.contents g.M.Interpreter.gives (running l.initial.interpreter l.initial.self) (running l.interpreter l.self) l.initial.out l.out (take l.byte-index l.bytes)
