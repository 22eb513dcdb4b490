-- `schema::obeys`: what it ensures.
use Rattle.std.proofs.Common.{◌<◌, List, length, ap, arith}
use Rattle.std.proofs.lemmas.List.{get_or_read}
use Rattle.cs_value.specs.declared.value.OwnedValue.{OwnedValue}
use Rattle.cs_value.specs.declared.value.OwnedValue.TheVariants.{Null}
use Rattle.cs_rows.proofs.RuleLemmas.{obeys_of_columns, obeys_column}
use Rattle.cs_rows.proofs.schema.obeys.Goals as goal

pub returns-then-not-may_stand : goal.returns-then-not-may_stand
returns-then-not-may_stand c =
    let row = c.args.row.now in
    let as_long = ap (λ (vs : List OwnedValue). length vs) c.values-value-items.ensures.same in
    let within : c.loop-column.column < length row = omega arith in
    let here = get_or_read row _ _ within (rw c.values-value-items.ensures.same at c.value-item.is) Null in
    (λ e. absurd cc, λ obeys. c.if-not-may_stand.ensures.1 (rw (here, c.is_marked.ensures) (obeys_column c.args.refuses.now row c.loop-column.column obeys within)))

pub returns : goal.returns
returns c =
    let as_long = ap (λ (vs : List OwnedValue). length vs) c.values-value-items.ensures.same in
    (λ e. obeys_of_columns c.args.refuses.now c.args.row.now (λ k lt. c.loop-column.invariant k (omega arith)), λ obeys. cc)
