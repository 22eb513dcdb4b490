-- `scripting::ScriptingVisitor::visit`: the clause `visited`.
use Rattle.std.proofs.Common.{refl}
use Rattle.cs_shell.proofs.scripting.ScriptingVisitor.visit.Goals as goal

pub returns-clause-visited : goal.returns-clause-visited
returns-clause-visited g c = record {
  disk = c.run_script-self.ensures.disk;
  done = λ clean before stands.
      let ran = c.run_script-self.ensures.ran clean before (λ is_open. (stands is_open).1) in (
        ran.last.tables,
        λ is_open. (c.run_script-self.ensures.at_rest clean (λ was_open. (stands was_open).0) is_open, ran.shows is_open),
        record { final = ran.last; runs = ran.runs; tables = refl },
      );
  others = λ clean before stands. c.run_script-self.ensures.others clean;
}
