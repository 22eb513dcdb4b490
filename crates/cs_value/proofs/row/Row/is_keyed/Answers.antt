-- `row::Row::is_keyed`: the clause `keyed`.
use Rattle.std.proofs.Common.{◌<◌, List, length, ◌∙◌, ap, sym, arith}
use Rattle.std.proofs.lemmas.List.{get_or_read}
use Rattle.cs_value.specs.declared.value.OwnedValue.{OwnedValue}
use Rattle.cs_value.specs.declared.value.OwnedValue.TheVariants.{Null}
use Rattle.cs_value.proofs.KeyedRows.{length-IsKeyedRow, row_of_columns, row_column}
use Rattle.cs_value.proofs.row.Row.is_keyed.Goals as goal

pub returns-then-flags-values-clause-keyed : goal.returns-then-flags-values-clause-keyed
returns-then-flags-values-clause-keyed c =
    (λ e. absurd cc, λ h. absurd (c.if-flags-values.true (length-IsKeyedRow c.args.flags.now c.args.self.now h ∙ ap length (sym c.values-values.ensures.same))))

pub returns-then-not-may_stand-clause-keyed : goal.returns-then-not-may_stand-clause-keyed
returns-then-not-may_stand-clause-keyed c =
    let row = c.args.self.now in
    let as_long = ap (λ (vs : List OwnedValue). length vs) c.values-values.ensures.same in
    let within : c.loop-column.column < length row = omega arith in
    let here = get_or_read row _ _ within (rw c.values-values.ensures.same at c.index-values-column.is) Null in
    (λ e. absurd cc, λ h. c.if-not-may_stand.ensures.1 (rw here (row_column c.args.flags.now row c.loop-column.column h c.loop-column-test.true)))

pub returns-clause-keyed : goal.returns-clause-keyed
returns-clause-keyed c =
    (λ e. row_of_columns c.args.flags.now c.args.self.now (c.if-flags-values.false ∙ ap length c.values-values.ensures.same) (λ k lt. c.loop-column.invariant k (omega arith)), λ h. cc)
