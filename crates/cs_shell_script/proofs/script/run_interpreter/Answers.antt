-- `script::run_interpreter`: what it ensures.
use Rattle.std.proofs.Common.{ap}
use Rattle.std.specs.Prelude.{if◌then◌else◌}
use Rattle.cs_shell_script.specs.declared.script.Status.TheVariants.{Done, LinesRefused}
use Rattle.cs_shell_script.specs.Progress.{status_of}
use Rattle.cs_shell_script.proofs.RunLemmas.{Runs-told}
use Rattle.cs_shell_script.proofs.script.run_interpreter.Goals as goal

pub returns-in-Ok : goal.returns-in-Ok
returns-in-Ok g c = Runs-told _ _ _ _ _ _ _ _ _ _ _ (ap (λ b. if b then LinesRefused else Done) c.if-script.true) c.in-Ok.ensures.ok

pub returns-in-Ok-2 : goal.returns-in-Ok-2
returns-in-Ok-2 g c = Runs-told _ _ _ _ _ _ _ _ _ _ _ (ap (λ b. if b then LinesRefused else Done) c.if-script.false) c.in-Ok-2.ensures.ok

pub returns-in-Err-TooLong : goal.returns-in-Err-TooLong
returns-in-Err-TooLong g c = Runs-told _ _ _ _ _ _ _ _ _ _ _ (ap status_of c.in-Err-TooLong.field-0-is) c.in-Err-TooLong.ensures.stopped

pub returns-in-Err-Input : goal.returns-in-Err-Input
returns-in-Err-Input g c = Runs-told _ _ _ _ _ _ _ _ _ _ _ (ap status_of c.in-Err-Input.field-0-is) c.in-Err-Input.ensures.stopped

pub returns : goal.returns
returns g c = Runs-told _ _ _ _ _ _ _ _ _ _ _ (ap status_of c.in-Err-Output.field-0-is) c.in-Err-Output.ensures.stopped
