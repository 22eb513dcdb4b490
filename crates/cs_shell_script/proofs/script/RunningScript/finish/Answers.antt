-- `script::RunningScript::finish`: the clauses `ok` and `broken`.
use Rattle.cs_shell_script.specs.Progress.{running}
use Rattle.cs_shell_script.proofs.ProgressLemmas.{Finishes-ended, Unfinished-ended}
use Rattle.cs_shell_script.proofs.script.RunningScript.finish.Goals as goal

pub returns-then-has_begun-clause-ok : goal.returns-then-has_begun-clause-ok
returns-then-has_begun-clause-ok g c = Finishes-ended _ _ _ (running c.end_line.new.interpreter c.end_line.new.self) _ _ _ c.end_line.ensures (c.has_begun.ensures.0 c.if-has_begun.true)

pub returns-then-has_begun-clause-broken : goal.returns-then-has_begun-clause-broken
returns-then-has_begun-clause-broken g c = Unfinished-ended _ _ _ (running c.end_line.new.interpreter c.end_line.new.self) _ _ _ c.end_line.ensures (c.has_begun.ensures.0 c.if-has_begun.true)
