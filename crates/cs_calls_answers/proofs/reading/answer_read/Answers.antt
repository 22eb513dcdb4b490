-- `reading::answer_read`: what it ensures.
use Rattle.std.proofs.Common.{◌∙◌, Ok, sym, ap, arith}
use Rattle.cs_value.proofs.ByteLists.{AreBytes-from_each}
use Rattle.cs_calls_parts.proofs.Steps.{ok_is, not_both, fails_with}
use Rattle.cs_calls_answers.specs.Reading.{whole_answer}
use Rattle.cs_calls_answers.proofs.Answers.{whole_takes, whole_again, answer_counts}
use Rattle.cs_calls_answers.proofs.reading.answer_read.Goals as goal

pub returns-in-Ok-clause-found : goal.returns-in-Ok-clause-found
returns-in-Ok-clause-found c = whole_takes c.args.bytes.now c.in-Ok.answer (AreBytes-from_each c.args.bytes.now (λ i. omega (arith, c.type_inv.bytes i))) c.in-Ok.ensures

pub returns-in-Ok-clause-only : goal.returns-in-Ok-clause-only
returns-in-Ok-clause-only c = λ d is e. ap (λ x. Ok x) (ok_is d c.in-Ok.answer (sym (whole_again d is) ∙ ap whole_answer (sym e) ∙ c.in-Ok.ensures))

pub returns-in-Err-Fault-clause-only : goal.returns-in-Err-Fault-clause-only
returns-in-Err-Fault-clause-only c = λ d is e.
    let fails = fails_with c.in-Err-Fault.field-0 c.in-Err-Fault.misread (whole_answer c.args.bytes.now) c.in-Err-Fault.field-0-is c.in-Err-Fault.ensures in
    absurd (not_both d c.in-Err-Fault.misread (sym (whole_again d is) ∙ ap whole_answer (sym e) ∙ fails))

pub returns-in-Ok-clause-counts : goal.returns-in-Ok-clause-counts
returns-in-Ok-clause-counts c =
    answer_counts c.in-Ok.answer (whole_takes c.args.bytes.now c.in-Ok.answer (AreBytes-from_each c.args.bytes.now (λ i. omega (arith, c.type_inv.bytes i))) c.in-Ok.ensures).0
