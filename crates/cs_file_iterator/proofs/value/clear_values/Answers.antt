-- `value::clear_values`: one more value is undefined.
use Rattle.std.proofs.Common.{subst, ℕ, ◌<◌, None, length, refl, arith}
use Rattle.cs_file_iterator.specs.Values.{KeepsOthers, ShowsValues}
use Rattle.cs_file_iterator.proofs.ValueLemmas.{keeps_more, keeps_same, shows_more, within_more}
use Rattle.cs_file_iterator.proofs.value.clear_values.Goals as goal

pub loop-column-init : goal.loop-column-init
loop-column-init c = record {
  shown = λ file at none. absurd (omega arith);
  kept = keeps_same 0 c.args.spans.now;
  within = λ file at none. absurd (omega arith);
}

pub loop-column-preserved : goal.loop-column-preserved
loop-column-preserved c =
    let column = c.loop-column.column in
    let room : column < length c.loop-column.spans = omega (arith, c.loop-column-test.true, c.loop-column.invariant.kept.size, c.requires) in
    record {
      shown = λ file. shows_more c.loop-column.spans column _ room file (λ at. None) (c.loop-column.invariant.shown file) refl;
      kept = keeps_more c.loop-column.spans column _ room c.args.spans.now c.loop-column.invariant.kept;
      within = λ file. within_more c.loop-column.spans column _ room file (c.loop-column.invariant.within file) (omega arith);
    }

pub returns-clause-values : goal.returns-clause-values
returns-clause-values c = λ file. subst (λ (count : ℕ). ShowsValues file count (λ column. None) c.loop-column.spans) (omega (arith, c.loop-column-test.false)) (c.loop-column.invariant.shown file)

pub returns-clause-others : goal.returns-clause-others
returns-clause-others c = subst (λ (count : ℕ). KeepsOthers count c.args.spans.now c.loop-column.spans) (omega (arith, c.loop-column-test.false)) c.loop-column.invariant.kept

pub returns-clause-within : goal.returns-clause-within
returns-clause-within c = λ file at lt. c.loop-column.invariant.within file at (omega (arith, c.loop-column-test.false, lt))
