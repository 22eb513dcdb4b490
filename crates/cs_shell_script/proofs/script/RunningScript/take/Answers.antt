-- `script::RunningScript::take`: the clauses `ok` and `broken`.
use Rattle.cs_shell_script.specs.Progress.{running}
use Rattle.cs_shell_script.proofs.ProgressLemmas.{Advances-feed, Breaks-feed}
use Rattle.cs_shell_script.proofs.script.RunningScript.take.Goals as goal

pub returns-then-byte-eq10-clause-ok : goal.returns-then-byte-eq10-clause-ok
returns-then-byte-eq10-clause-ok g c = let e = c.if-byte-eq10.true in rw e (Advances-feed _ _ _ (running c.end_line.new.interpreter c.end_line.new.self) _ _ _ c.end_line.ensures)

pub returns-then-byte-eq10-clause-broken : goal.returns-then-byte-eq10-clause-broken
returns-then-byte-eq10-clause-broken g c = let e = c.if-byte-eq10.true in rw e (Breaks-feed _ _ _ (running c.end_line.new.interpreter c.end_line.new.self) _ _ _ c.end_line.ensures)
