-- `command_line::command_line`: what it ensures.
use Rattle.std.proofs.Common.{◌∙◌, ap₂}
use Rattle.std.proofs.lemmas.Result.{IfOk-weaker}
use Rattle.clap.specs.Words.{with_rule}
use Rattle.cs_shell_command_line.proofs.command_line.command_line.Goals as goal

pub returns : goal.returns
returns c =
    let one = c.in_ok-arg.ensures.shape c.choice_option.ensures.local ∙ ap₂ with_rule c.new.ensures.app c.choice_option.ensures.rule in
    let two = c.in_ok-arg-2.ensures.shape c.choice_option-2.ensures.local ∙ ap₂ with_rule one c.choice_option-2.ensures.rule in
    let three = c.in_ok-arg-3.ensures.shape c.choice_option-3.ensures.local ∙ ap₂ with_rule two c.choice_option-3.ensures.rule in
    let four = c.in_ok-arg-4.ensures.shape c.choice_option-4.ensures.local ∙ ap₂ with_rule three c.choice_option-4.ensures.rule in
    let five = c.in_ok-arg-5.ensures.shape c.flag.ensures.local ∙ ap₂ with_rule four c.flag.ensures.rule in
    let six = c.in_ok-arg-6.ensures.shape c.operand.ensures.local ∙ ap₂ with_rule five c.operand.ensures.rule in
    let seven = c.in_ok-arg-7.ensures.shape c.operand-2.ensures.local ∙ ap₂ with_rule six c.operand-2.ensures.rule in
    IfOk-weaker c.arg-8.result _ _ (λ command adds. adds.shape c.other_operands.ensures.local ∙ ap₂ with_rule seven c.other_operands.ensures.rule) c.arg-8.ensures
