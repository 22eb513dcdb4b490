-- `calls::bytes_of`: the bytes of an answer that a frame can hold.
use Rattle.std.proofs.Common.{◌≡◌, ◌++◌, List, ℕ, length, refl, ap, arith, ◌∙◌}
use Rattle.cs_calls_answers.specs.Spelling.{answer_bytes}
use Rattle.cs_calls_executor.proofs.calls.bytes_of.Goals as goal

pub returns-clause-ok : goal.returns-clause-ok
returns-clause-ok c =
    let bytes = answer_bytes c.args.answer.now in
    let sent : c.answer_write.new.out.items ≡ bytes = c.in_ok-answer_write.ensures.ok ∙ ap (λ (before : List ℕ). before ++ bytes) c.new-bytes.ensures.items in
    ((c.if-not-has_counts.ensures.0 refl, omega (arith, c.if-len-gt-FRAME_LEN.false, c.len.ensures, ap (λ (b : List ℕ). length b) sent)), sent)
