-- `field::read_text`: what it ensures.
use Rattle.cs_value.proofs.FieldReading.{text_at-good, text_at-bad}
use Rattle.cs_value.proofs.field.read_text.Goals as goal

pub returns-in-Ok : goal.returns-in-Ok
returns-in-Ok c =
    let text = c.in_ok-text.text.now in
    text_at-good c.args.content.now text c.in-Ok.text.now c.in_ok-text.used c.in_ok-text.ensures.exact c.in-Ok.ensures.cases.0 c.in-Ok.ensures.cases.1

pub returns-in-Err : goal.returns-in-Err
returns-in-Err c = rw c.fault.ensures (text_at-bad c.args.content.now c.in_ok-text.text.now c.in_ok-text.used c.in_ok-text.ensures.exact c.in-Err.ensures.cases.0)
