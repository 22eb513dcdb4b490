-- `words::run_action`: the clause `command`.
use Rattle.std.proofs.Common.{refl}
use Rattle.cs_shell.proofs.words.run_action.Goals as goal
use Rattle.cs_shell.proofs.words.run_action.Goals.{in-Apply, in-Concat, in-Dump, in-Sql, in-Invert}

pub returns-clause-command : goal.returns-clause-command
returns-clause-command g c command = record {
  done = c.match-action.done;
  works = elim c.match-action.branch [
    | in-Apply w ↦ rw w.in-Apply.is (rw w.done-is (rw w.out-is (rw w.folder-is w.apply-done.ensures)))
    | in-Concat w ↦ rw w.in-Concat.is (rw w.done-is (rw w.out-is (rw w.folder-is (w.concat-done.ensures.done, w.concat-done.ensures.refused, w.concat-done.ensures.kept, refl))))
    | in-Dump w ↦ rw w.in-Dump.is (rw w.done-is (rw w.out-is (rw w.folder-is (w.dump-done.ensures.done, w.dump-done.ensures.refused, refl))))
    | in-Sql w ↦ rw w.in-Sql.is (rw w.done-is (rw w.out-is (rw w.folder-is (w.sql-done.ensures.done, w.sql-done.ensures.refused, refl))))
    | in-Invert w ↦ rw w.in-Invert.is (rw w.done-is (rw w.out-is (rw w.folder-is (w.invert-done.ensures.done, w.invert-done.ensures.refused, w.invert-done.ensures.kept, refl))))
  ];
  ends = c.end_command.ensures;
}
