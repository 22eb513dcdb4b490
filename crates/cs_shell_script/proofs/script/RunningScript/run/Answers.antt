-- `script::RunningScript::run`: the clauses `ok` and `stopped`.
use Rattle.std.proofs.lemmas.Result.{err_from_is_err_and}
use Rattle.cs_shell_script.specs.Progress.{running}
use Rattle.cs_shell_script.proofs.RunLemmas.{Runs-finished, Runs-unfinished}
use Rattle.cs_shell_script.proofs.script.RunningScript.run.Goals as goal

pub returns-in_err-finish-clause-stopped : goal.returns-in_err-finish-clause-stopped
returns-in_err-finish-clause-stopped g c =
    let p = err_from_is_err_and c.from_residual-in_err-finish.result c.from_residual-in_err-finish.ensures.1 in
    rw (p.1, p.2) (Runs-unfinished _ _ _ _ (running c.take_input.new.interpreter c.take_input.new.self) (running c.finish.new.interpreter c.finish.new.self) _ _ _ _ _ c.in_ok-take_input.ensures.ok c.in_err-finish.ensures.broken c.in_err-finish.ensures.flagged)

pub returns-clause-ok : goal.returns-clause-ok
returns-clause-ok g c = Runs-finished _ _ _ _ (running c.take_input.new.interpreter c.take_input.new.self) (running c.finish.new.interpreter c.finish.new.self) _ _ _ _ _ c.in_ok-take_input.ensures.ok c.in_ok-finish.ensures.ok
