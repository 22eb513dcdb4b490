-- `script::RunningScript::answer_line`: what it ensures.
use Rattle.std.proofs.Common.{subst}
use Rattle.cs_shell_replies.specs.Replies.{answer_of}
use Rattle.cs_shell_script.proofs.script.RunningScript.answer_line.Goals as goal

pub returns-in-Some : goal.returns-in-Some
returns-in-Some g c = λ line holds.
    subst (λ l. g.M.Interpreter.gives c.args.interpreter.now l (answer_of c.answer.result) c.answer.new.self) (c.in-Some.ensures line holds) c.answer.ensures
