-- `shell::run_shell`: what it ensures.
use Rattle.std.proofs.Common.{◌||◌}
use Rattle.sqlite.specs.Held.{state}
use Rattle.cs_shell_script.specs.StoreRuns.{HasReply}
use Rattle.cs_store.specs.Turns.{Known}
use Rattle.cs_shell_script.proofs.LineLemmas.{lines_keep, any_replies, shell_runs}
use Rattle.cs_shell_script.proofs.RunLemmas.{Runs-answered}
use Rattle.cs_shell_script.proofs.shell.run_shell.Goals as goal

pub returns-clause-kept : goal.returns-clause-kept
returns-clause-kept g c =
    let some = Runs-answered _ _ _ HasReply _ _ _ _ _ _ _ c.run_interpreter.ensures in
    lines_keep _ (λ m. m.store.ghost_name) (λ a b line reply gives. gives.0) some.lines some.replies _ _ some.given

pub returns-clause-answered : goal.returns-clause-answered
returns-clause-answered g c =
    let some = Runs-answered _ _ _ HasReply _ _ _ _ _ _ _ c.run_interpreter.ensures in
    some.seen tt tt (any_replies _ _ _ some.lines some.replies some.given)

pub returns-clause-ran : goal.returns-clause-ran
returns-clause-ran g c = λ rests.
    shell_runs _ _ _ (λ m. state g.S.Store m.store.now) (λ m. Known (rests || m.is_at_rest) (state g.S.Store m.store.now)) (λ m. m.work.now) (λ a b line reply gives. gives.1 rests) _ _ _ _ _ _ _ c.run_interpreter.ensures
