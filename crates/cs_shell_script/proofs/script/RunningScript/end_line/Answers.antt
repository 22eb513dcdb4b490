-- `script::RunningScript::end_line`: what it ensures.
use Rattle.std.proofs.Common.{◌≡◌, Result, Ok, Err, refl, ◌∙◌, rules}
use Rattle.std.specs.Prelude.{is_err}
use Rattle.cs_shell_replies.specs.declared.refusal.Refusal.{Refusal}
use Rattle.cs_shell_replies.specs.declared.reply.Reply.{Reply}
use Rattle.cs_shell_replies.specs.declared.reply.Reply.TheVariants.{Silent, Text, Dump, Rows, Report}
use Rattle.cs_shell_replies.specs.Replies.{answer_of, is_refused}
use Rattle.cs_shell_script.proofs.script.RunningScript.end_line.Goals as goal

-- what is refused is an error of the code
refused : (answer : Result Reply Refusal) → is_err answer ≡ is_refused (answer_of answer)
refused (Ok Silent) = refl
refused (Ok (Text text)) = refl
refused (Ok (Dump changeset)) = refl
refused (Ok (Rows rows)) = refl
refused (Ok (Report report)) = refl
refused (Err refusal) = refl

pub returns : goal.returns
returns g c =
    let same = c.is_err.ensures.value ∙ refused c.answer_line-answer.result in record {
      reply = answer_of c.answer_line-answer.result;
      given = search rules;
      writes = search rules;
      has_refused = search rules;
      at_start = search rules;
    }
