-- `answering::answer_line`: what it ensures.
use Rattle.std.proofs.Common.{inl}
use Rattle.std.proofs.lemmas.Result.{err_from_is_err_and}
use Rattle.sqlite.specs.Held.{state}
use Rattle.cs_shell_grammar.specs.Commands.{command_of}
use Rattle.cs_shell_executor.specs.LineAnswers.{LineGives, not_text, nothing}
use Rattle.cs_shell_executor.proofs.CommandLemmas.{works_beside, line_unread, line_answered}
use Rattle.cs_shell_executor.proofs.answering.answer_line.Goals as goal

pub returns-in_default : goal.returns-in_default
returns-in_default g c =
    works_beside (λ old. LineGives old c.args.line.now) (state g.S.Store c.args.store.now) c.args.work.now.slots c.args.work.now.session c.args.work.now.session _ (λ t here. here)
    (λ t. inl (not_text _ c.args.line.now c.in_default.ensures.cases.0))

pub returns-in_err-command : goal.returns-in_err-command
returns-in_err-command g c =
    let p = err_from_is_err_and c.from_residual.result c.from_residual.ensures.1 in
    let same = c.in-Ok.ensures.cases.0 in
    rw (p.1, p.2)
    (works_beside (λ old. LineGives old c.args.line.now) (state g.S.Store c.args.store.now) c.args.work.now.slots c.args.work.now.session c.args.work.now.session _ (λ t here. here)
    (λ t. line_unread _ c.args.line.now c.in_err-command.field-0.0 c.in-Ok.ensures.cases.1 (rw same at c.in_err-command.ensures.refused)))

pub returns-in-None : goal.returns-in-None
returns-in-None g c =
    let same = c.in-Ok.ensures.cases.0 in
    works_beside (λ old. LineGives old c.args.line.now) (state g.S.Store c.args.store.now) c.args.work.now.slots c.args.work.now.session c.args.work.now.session _ (λ t here. here)
    (λ t. inl (nothing _ c.args.line.now c.in-Ok.ensures.cases.1 (rw (same, c.in-None.is) at c.in_ok-command.ensures.asked)))

pub returns-in-Some : goal.returns-in-Some
returns-in-Some g c =
    let same = c.in-Ok.ensures.cases.0 in
    line_answered (state g.S.Store c.args.store.now) (state g.S.Store c.run_command.new.store) c.args.work.now.slots c.run_command.new.work.slots c.args.work.now.session c.run_command.new.work.session c.args.line.now (command_of c.in-Some.command) _ c.in-Ok.ensures.cases.1
    (rw (same, c.in-Some.is) at c.in_ok-command.ensures.asked) c.run_command.ensures
