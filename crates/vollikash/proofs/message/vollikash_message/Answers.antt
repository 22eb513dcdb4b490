-- `message::vollikash_message`: the clauses `told` and `room`.
use Rattle.std.proofs.Common.{rules, ◌++◌, ◌∷◌, [], ℕ, Some, drop, w32, length-append, refl, sym, ap, ◌∙◌, arith}
use Rattle.std.proofs.lemmas.Int.{to_z-of_z}
use Rattle.vollikash.specs.Messages.{message_of_code}
use Rattle.vollikash.proofs.MessageLemmas.{text_ended}
use Rattle.vollikash.proofs.message.vollikash_message.Goals as goal

pub returns-then-count-out-clause-room : goal.returns-then-count-out-clause-room
returns-then-count-out-clause-room c = λ is. record {
  bytes = c.as_bytes-bytes.result.now ++ 0 ∷ [];
  made = (c.as_bytes-bytes.result.now, sym (c.in-Some.ensures.sentence ∙ ap message_of_code (to_z-of_z w32 c.args.code (search rules))) ∙ ap Some (sym c.as_bytes-bytes.ensures.value), refl);
  more = omega (arith, length-append c.as_bytes-bytes.result.now (0 ∷ []), c.if-count-out.true);
  counted = omega (arith, length-append c.as_bytes-bytes.result.now (0 ∷ []));
}

pub returns-clause-told : goal.returns-clause-told
returns-clause-told c = λ is. record {
  bytes = c.as_bytes-bytes.result.now ++ 0 ∷ [];
  made = (c.as_bytes-bytes.result.now, sym (c.in-Some.ensures.sentence ∙ ap message_of_code (to_z-of_z w32 c.args.code (search rules))) ∙ ap Some (sym c.as_bytes-bytes.ensures.value), refl);
  fit = omega (arith, length-append c.as_bytes-bytes.result.now (0 ∷ []), c.if-count-out.false);
  stand = text_ended c.copy_from_slice.new.self c.as_bytes-bytes.result.now c.args.out.now c.copy_from_slice.ensures.after c.if-count-out.false
      ∙ ap (λ (n : ℕ). (c.as_bytes-bytes.result.now ++ 0 ∷ []) ++ drop n c.args.out.now) (sym (length-append c.as_bytes-bytes.result.now (0 ∷ [])));
  counted = omega (arith, length-append c.as_bytes-bytes.result.now (0 ∷ []));
}
