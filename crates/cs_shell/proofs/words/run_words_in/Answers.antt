-- `words::run_words_in`: the clauses `command` and `scripts`, where memory runs out.
use Rattle.std.proofs.Common.{Err, refl, inr}
use Rattle.cs_rows.specs.declared.fault.StoreError.TheVariants as store
use Rattle.cs_shell_replies.specs.declared.refusal.Refusal.TheVariants as refusal
use Rattle.cs_shell.proofs.CommandLemmas.{works_unable, visit_unable}
use Rattle.cs_shell.proofs.words.run_words_in.Goals as goal

pub returns-in-Err-NoMemory-clause-command : goal.returns-in-Err-NoMemory-clause-command
returns-in-Err-NoMemory-clause-command g c action is command = record {
  done = Err refusal.NoMemory;
  works = works_unable g.W.Write.contents (g.F.Folder.files c.args.folder.now) c.args.out.now action command;
  ends = (refl, c.report.ensures);
}

pub returns-in-Err-NoMemory-clause-scripts : goal.returns-in-Err-NoMemory-clause-scripts
returns-in-Err-NoMemory-clause-scripts g c file is apart = inr (record {
  error = store.NoMemory;
  why = visit_unable (g.F.Folder.files c.args.folder.now) file;
  told = c.report.ensures;
  exit_is = refl;
  unread = refl;
  unprinted = refl;
  kept = refl;
})
