-- `value::skip_fields`: one more field is passed.
use Rattle.std.proofs.Common.{◌<◌, length, ◌∙◌, arith}
use Rattle.cs_file_iterator.proofs.ValueLemmas.{IsField-at, next_field}
use Rattle.cs_file_iterator.proofs.value.skip_fields.Goals as goal

pub returns-in_err-place-clause-skipped : goal.returns-in_err-place-clause-skipped
returns-in_err-place-clause-skipped c = λ fields rest are le spelled.
    let lt : c.loop.counter < length fields = omega arith in
    absurd (c.in_err-place.ensures.skipped _ _ (IsField-at fields c.loop.counter are lt) (c.loop.invariant.skipped fields rest are le spelled ∙ next_field fields c.loop.counter rest lt))

pub loop-preserved : goal.loop-preserved
loop-preserved c = record {
  within = c.in_ok-place.ensures.within;
  skipped = λ fields rest are le spelled.
      let lt : c.loop.counter < length fields = omega arith in
      c.in_ok-place.ensures.skipped _ _ (IsField-at fields c.loop.counter are lt) (c.loop.invariant.skipped fields rest are le spelled ∙ next_field fields c.loop.counter rest lt);
}
