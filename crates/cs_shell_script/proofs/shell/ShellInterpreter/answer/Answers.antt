-- `shell::ShellInterpreter::answer`: what it ensures.
use Rattle.std.proofs.lemmas.Result.{err_from_is_err_and}
use Rattle.std.proofs.Common.{refl}
use Rattle.sqlite.specs.Held.{state}
use Rattle.cs_shell_script.proofs.LineLemmas.{line_at_rest, line_not_at_rest}
use Rattle.cs_shell_script.proofs.shell.ShellInterpreter.answer.Goals as goal

pub returns-in_err-check_at_rest_once : goal.returns-in_err-check_at_rest_once
returns-in_err-check_at_rest_once g c =
    let p = err_from_is_err_and c.from_residual.result c.from_residual.ensures.1 in
    rw (p.1, p.2)
    (refl, line_not_at_rest (state g.S.Store c.args.self.now.store.now) (state g.S.Store c.check_at_rest_once.new.store) c.args.self.now.is_at_rest c.check_at_rest_once.new.is_at_rest _ c.args.line.now _ c.in_err-check_at_rest_once.ensures.named c.check_at_rest_once.ensures.turns)

pub returns : goal.returns
returns g c =
    (refl, line_at_rest (state g.S.Store c.args.self.now.store.now) (state g.S.Store c.check_at_rest_once.new.store) (state g.S.Store c.answer_line.new.store) c.args.self.now.is_at_rest c.check_at_rest_once.new.is_at_rest c.args.self.now.work.now c.answer_line.new.work c.args.line.now _ c.in_ok-check_at_rest_once.ensures.at_rest c.check_at_rest_once.ensures.turns c.answer_line.ensures)
