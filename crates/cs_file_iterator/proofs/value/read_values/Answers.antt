-- `value::read_values`: one more value is read.
use Rattle.std.proofs.Common.{subst, ℕ, ◌<◌, Some, length, get_or, refl, ◌∙◌, arith}
use Rattle.cs_value.specs.declared.value.OwnedField.TheVariants.{Undefined}
use Rattle.cs_file_iterator.specs.Values.{ShowsValues}
use Rattle.cs_file_iterator.proofs.ValueLemmas.{IsField-at, keeps_less, keeps_more, keeps_same, next_field, shows_more, within_more}
use Rattle.cs_file_iterator.proofs.value.read_values.Goals as goal

pub loop-column-init : goal.loop-column-init
loop-column-init c = record {
  place = c.requires.start;
  count = omega arith;
  kept = keeps_same 0 c.args.spans.now;
  within = λ at none. absurd (omega arith);
  shown = λ fields rest are le spelled. (spelled, λ at none. absurd (omega arith));
}

pub next_value-requires : goal.next_value-requires
next_value-requires c = c.loop-column.invariant.place

pub returns-in_err-value-clause-values : goal.returns-in_err-value-clause-values
returns-in_err-value-clause-values c = λ fields rest are le spelled.
    let lt : c.loop-column.column < length fields = omega (arith, c.loop-column-test.true) in
    absurd (c.in_err-value.ensures.value _ _ (IsField-at fields c.loop-column.column are lt) ((c.loop-column.invariant.shown fields rest are le spelled).0 ∙ next_field fields c.loop-column.column rest lt))

pub returns-in_err-value-clause-others : goal.returns-in_err-value-clause-others
returns-in_err-value-clause-others c = keeps_less c.loop-column.column c.args.count c.args.spans.now c.loop-column.spans c.loop-column.invariant.count c.loop-column.invariant.kept

pub loop-column-preserved : goal.loop-column-preserved
loop-column-preserved c =
    let column = c.loop-column.column in
    let room : column < length c.loop-column.spans = omega (arith, c.loop-column-test.true, c.loop-column.invariant.kept.size, c.requires.room) in
    record {
      place = c.in_ok-value.ensures.within.1;
      count = omega (arith, c.loop-column-test.true);
      kept = keeps_more c.loop-column.spans column c.in_ok-value.value room c.args.spans.now c.loop-column.invariant.kept;
      within = within_more c.loop-column.spans column c.in_ok-value.value room c.args.file.now c.loop-column.invariant.within c.in_ok-value.ensures.within.0;
      shown = λ fields rest are le spelled.
          let lt : column < length fields = omega (arith, c.loop-column-test.true, le) in
          let shown = c.loop-column.invariant.shown fields rest are le spelled in
          let read = c.in_ok-value.ensures.value _ _ (IsField-at fields column are lt) (shown.0 ∙ next_field fields column rest lt) in
          (read.1, shows_more c.loop-column.spans column c.in_ok-value.value room c.args.file.now (λ at. Some (get_or fields at Undefined)) shown.1 read.0);
    }

pub returns-clause-values : goal.returns-clause-values
returns-clause-values c = λ fields rest are le spelled.
    let done = c.loop-column.invariant.shown fields rest are le spelled in
    (refl, subst (λ (count : ℕ). ShowsValues c.args.file.now count (λ column. Some (get_or fields column Undefined)) c.loop-column.spans) (omega (arith, c.loop-column-test.false)) done.1)

pub returns-clause-others : goal.returns-clause-others
returns-clause-others c = keeps_less c.loop-column.column c.args.count c.args.spans.now c.loop-column.spans c.loop-column.invariant.count c.loop-column.invariant.kept

pub returns-clause-within : goal.returns-clause-within
returns-clause-within c = λ at lt. c.loop-column.invariant.within at (omega (arith, c.loop-column-test.false, lt))
