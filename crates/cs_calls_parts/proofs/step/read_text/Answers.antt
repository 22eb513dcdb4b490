-- `step::read_text`: what it ensures.
use Rattle.std.proofs.Common.{◌∙◌}
use Rattle.cs_calls_parts.proofs.Exact.{text_of-good, text_of-bad}
use Rattle.cs_calls_parts.proofs.step.read_text.Goals as goal

pub returns-in_ok-from_str-in-Ok : goal.returns-in_ok-from_str-in-Ok
returns-in_ok-from_str-in-Ok c =
    text_of-good c.args.bytes.now c.in_ok-content.content.now c.new.result c.in_ok-content.rest.now c.in_ok-content.ensures.exact
    (c.new.ensures ∙ c.in_ok-from_str-in-Ok.ensures.ok ∙ c.in-Ok.ensures.cases.0) c.in-Ok.ensures.cases.1

pub returns-in-Err : goal.returns-in-Err
returns-in-Err c = rw c.refuse.ensures (text_of-bad c.args.bytes.now c.in_ok-content.content.now c.in_ok-content.rest.now c.in_ok-content.ensures.exact c.in-Err.ensures.cases.0)
