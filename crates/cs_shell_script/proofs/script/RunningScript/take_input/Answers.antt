-- `script::RunningScript::take_input`: the invariant of the loop at `piece`, the clause `stopped`.
use Rattle.std.proofs.Common.{sym, arith, append-nil, ◌-◌}
use Rattle.cs_shell_script.specs.Runs.{SCRIPT_LIMIT}
use Rattle.std.proofs.lemmas.List.{take-append-drop, length-take-le}
use Rattle.std.proofs.lemmas.Result.{err_from_is_err_and}
use Rattle.cs_shell_script.specs.Progress.{running}
use Rattle.cs_shell_script.proofs.RunLemmas.{HasRead-start, HasRead-more, Runs-broken, Runs-overrun, Runs-overrun-broken}
use Rattle.cs_shell_script.proofs.script.RunningScript.take_input.Goals as goal

pub loop-piece-init : goal.loop-piece-init
loop-piece-init g c = HasRead-start _ _ _ _ _ _ _ c.requires

pub returns-in_err-take_all-clause-stopped : goal.returns-in_err-take_all-clause-stopped
returns-in_err-take_all-clause-stopped g c =
    let p = err_from_is_err_and c.from_residual-in_err-take_all.result c.from_residual-in_err-take_all.ensures.1 in
    rw (p.1, p.2) (Runs-broken _ _ _ (running c.args.interpreter.now c.args.self.now) _ (running c.take_all.new.interpreter c.take_all.new.self) _ _ c.next_piece.new.input _ _ _ _ c.in_ok-piece.piece.now _ _ c.loop-piece.invariant c.in_ok-piece.ensures.piece (omega (arith, c.in_ok-piece.ensures.short, c.min-wanted.ensures)) (sym (take-append-drop _ _)) (omega (arith, length-take-le (SCRIPT_LIMIT - c.loop-piece.count) c.in_ok-piece.piece.now (omega (arith, c.if-piece-left.true)))) c.in_err-take_all.ensures.broken c.in_err-take_all.ensures.flagged)

pub returns-in_err-write_refusal-clause-stopped : goal.returns-in_err-write_refusal-clause-stopped
returns-in_err-write_refusal-clause-stopped g c =
    let p = err_from_is_err_and c.from_residual-in_err-write_refusal.result c.from_residual-in_err-write_refusal.ensures.1 in
    rw (p.1, p.2) (Runs-overrun-broken _ _ _ (running c.args.interpreter.now c.args.self.now) _ (running c.take_all.new.interpreter c.take_all.new.self) _ _ c.next_piece.new.input _ _ _ c.write_refusal.new.out _ _ c.loop-piece.invariant c.in_ok-piece.ensures.piece (omega (arith, c.in_ok-piece.ensures.short, c.min-wanted.ensures)) c.if-piece-left.true c.in_ok-take_all.ensures.ok c.in_err-write_refusal.ensures.wrote c.in_err-write_refusal.ensures.flagged)

pub returns-then-piece-left-clause-stopped : goal.returns-then-piece-left-clause-stopped
returns-then-piece-left-clause-stopped g c =
    Runs-overrun _ _ _ (running c.args.interpreter.now c.args.self.now) _ (running c.take_all.new.interpreter c.take_all.new.self) _ _ c.next_piece.new.input _ _ _ c.write_refusal.new.out _ _ c.loop-piece.invariant c.in_ok-piece.ensures.piece (omega (arith, c.in_ok-piece.ensures.short, c.min-wanted.ensures)) c.if-piece-left.true c.in_ok-take_all.ensures.ok c.in_ok-write_refusal.ensures.wrote

pub returns-in_err-take_all-2-clause-stopped : goal.returns-in_err-take_all-2-clause-stopped
returns-in_err-take_all-2-clause-stopped g c =
    let p = err_from_is_err_and c.from_residual-in_err-take_all-2.result c.from_residual-in_err-take_all-2.ensures.1 in
    rw (p.1, p.2) (Runs-broken _ _ _ (running c.args.interpreter.now c.args.self.now) _ (running c.take_all-in-loop-piece.new.interpreter c.take_all-in-loop-piece.new.self) _ _ c.next_piece.new.input _ _ _ _ c.in_ok-piece.piece.now _ _ c.loop-piece.invariant c.in_ok-piece.ensures.piece (omega (arith, c.in_ok-piece.ensures.short, c.min-wanted.ensures)) (sym (append-nil _)) c.if-piece-left.false c.in_err-take_all-2.ensures.broken c.in_err-take_all-2.ensures.flagged)

pub loop-piece-preserved : goal.loop-piece-preserved
loop-piece-preserved g c =
    HasRead-more _ _ _ (running c.args.interpreter.now c.args.self.now) _ (running c.take_all-in-loop-piece.new.interpreter c.take_all-in-loop-piece.new.self) _ _ _ _ _ _ _ _ c.loop-piece.invariant c.in_ok-piece.ensures.piece c.in_ok-take_all-2.ensures.ok c.if-piece-left.false
