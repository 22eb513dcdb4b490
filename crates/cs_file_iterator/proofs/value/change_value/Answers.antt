-- `value::change_value`: the clauses `value` and `no_column`.
use Rattle.std.proofs.Common.{◌<◌, length, get_or, sym, subst, ◌∙◌, arith}
use Rattle.cs_value.specs.declared.value.OwnedField.TheVariants.{Undefined}
use Rattle.cs_file_iterator.specs.Values.{ShowsValue}
use Rattle.cs_file_iterator.proofs.ValueLemmas.{HasRecord-some, IsField-at, columns_are, field_on-record, next_field}
use Rattle.cs_file_iterator.proofs.value.change_value.Goals as goal

pub returns-then-column-change-clause-value : goal.returns-then-column-change-clause-value
returns-then-column-change-clause-value c = λ shown shows within.
    omega (arith, columns_are c.args.file.now c.args.change.now shown.header shows.table, c.if-column-change.true)

pub returns-in_default-clause-no_column : goal.returns-in_default-clause-no_column
returns-in_default-clause-no_column c = λ shown shows behind.
    absurd (omega (arith, columns_are c.args.file.now c.args.change.now shown.header shows.table, c.if-column-change.false, behind))

pub returns-in_err-place-clause-no_column : goal.returns-in_err-place-clause-no_column
returns-in_err-place-clause-no_column c = λ shown shows behind.
    absurd (omega (arith, columns_are c.args.file.now c.args.change.now shown.header shows.table, c.if-column-change.false, behind))

pub returns-in_err-read_value-clause-no_column : goal.returns-in_err-read_value-clause-no_column
returns-in_err-read_value-clause-no_column c = λ shown shows behind.
    absurd (omega (arith, columns_are c.args.file.now c.args.change.now shown.header shows.table, c.if-column-change.false, behind))

pub returns-clause-no_column : goal.returns-clause-no_column
returns-clause-no_column c = λ shown shows behind.
    absurd (omega (arith, columns_are c.args.file.now c.args.change.now shown.header shows.table, c.if-column-change.false, behind))

pub returns-in_err-read_value-clause-value : goal.returns-in_err-read_value-clause-value
returns-in_err-read_value-clause-value c = λ shown shows within.
    let found = HasRecord-some c.args.file.now (length shown.header.flags) _ c.in_ok-record.field-0 c.in-Some.record (c.in_ok-record.ensures.record shown shows) c.in-Some.is in
    let begins = found.2 in
    let lt : c.args.column < length found.0 = omega (arith, within, begins.width) in
    let left = c.in_ok-place.ensures.skipped found.0 begins.rest begins.is_record (omega (arith, lt)) begins.spelled in
    absurd (c.in_err-read_value.ensures.value _ _ (IsField-at found.0 c.args.column begins.is_record lt) (left ∙ next_field found.0 c.args.column begins.rest lt))

pub returns-clause-value : goal.returns-clause-value
returns-clause-value c = λ shown shows within.
    let found = HasRecord-some c.args.file.now (length shown.header.flags) _ c.in_ok-record.field-0 c.in-Some.record (c.in_ok-record.ensures.record shown shows) c.in-Some.is in
    let begins = found.2 in
    let lt : c.args.column < length found.0 = omega (arith, within, begins.width) in
    let left = c.in_ok-place.ensures.skipped found.0 begins.rest begins.is_record (omega (arith, lt)) begins.spelled in
    let value = c.in_ok-read_value.field-0 in
    subst (ShowsValue c.args.file.now value) (sym (field_on-record c.args.side shown.entry.change c.args.column found.0 found.1))
    (c.in_ok-read_value.ensures.value (get_or found.0 c.args.column Undefined) _ (IsField-at found.0 c.args.column begins.is_record lt) (left ∙ next_field found.0 c.args.column begins.rest lt))
