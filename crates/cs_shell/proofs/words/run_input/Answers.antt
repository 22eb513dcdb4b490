-- `words::run_input`: the clause `ran`.
use Rattle.std.proofs.Common.{inl, inr, refl, subst}
use Rattle.sqlite.specs.Files.{file_state}
use Rattle.cs_value.specs.State.{State}
use Rattle.cs_store.specs.Store.{tables_in}
use Rattle.cs_shell_script.specs.Runs.{Runs}
use Rattle.cs_shell_executor.specs.LineAnswers.{LineGives}
use Rattle.cs_shell_executor.proofs.TurnLemmas.{resource_of_store}
use Rattle.cs_shell_script.specs.StoreRuns.{RunsScript, beginning}
use Rattle.cs_shell.proofs.words.run_input.Goals as goal

pub returns-in-Ok-clause-ran : goal.returns-in-Ok-clause-ran
returns-in-Ok-clause-ran g c =
    let ran : RunsScript g.R.Read.remaining g.W.Write.contents c.run_script-status.result c.args.input.now c.run_script-status.new.input c.args.out.now c.run_script-status.new.out (tables_in (file_state c.in-Ok.store).now) (file_state c.run_script-status.new.store) =
    c.run_script-status.ensures.ran c.memory_files_law.ensures (tables_in (file_state c.in-Ok.store).now) (λ is_open. refl) in
    inl (
      record {
        status = c.run_script-status.result;
        final = ran.last;
        exit_is = c.end_script.ensures.exit;
        runs = subst (λ (t : State). Runs g.R.Read.remaining g.W.Write.contents LineGives c.run_script-status.result (beginning t) ran.last c.args.input.now c.run_script-status.new.input c.args.out.now c.run_script-status.new.out)
            c.in-Ok.ensures.empty ran.runs;
      },
      c.end_script.ensures.told,
    )

pub returns-in-Err-clause-ran : goal.returns-in-Err-clause-ran
returns-in-Err-clause-ran g c =
    inr (refl, refl, refl, (c.from.result, rw c.from.ensures (resource_of_store c.in-Err.error c.in-Err.ensures.named), c.report.ensures))
