-- `script::RunningScript::take_all`: the clause `broken`.
use Rattle.std.proofs.Common.{arith}
use Rattle.cs_shell_script.specs.Progress.{running}
use Rattle.cs_shell_executor.proofs.TurnLemmas.{on_err}
use Rattle.cs_shell_script.proofs.ProgressLemmas.{Breaks-more}
use Rattle.cs_shell_script.proofs.script.RunningScript.take_all.Goals as goal

pub returns-in_err-take-clause-broken : goal.returns-in_err-take-clause-broken
returns-in_err-take-clause-broken g c =
    on_err _ (Breaks-more _ _ _ _ (running c.take.new.interpreter c.take.new.self) _ _ _ c.args.bytes.now c.loop-byte.byte-index (omega arith) c.loop-byte.invariant c.in_err-take.ensures.broken)
