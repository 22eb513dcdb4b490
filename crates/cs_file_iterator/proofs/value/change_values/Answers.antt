-- `value::change_values`: the clauses `values` and `others`.
use Rattle.std.proofs.Common.{ℕ, None, Some, get_or, length, refl, subst, arith}
use Rattle.cs_value.specs.declared.value.OwnedField.TheVariants.{Undefined}
use Rattle.cs_file_iterator.specs.Values.{ShowsValues}
use Rattle.cs_file_iterator.proofs.ValueLemmas.{HasRecord-none, HasRecord-some, Shows-within, columns_are, shows_nothing, shows_record}
use Rattle.cs_file_iterator.proofs.value.change_values.Goals as goal

pub returns-then-spans-change-clause-values : goal.returns-then-spans-change-clause-values
returns-then-spans-change-clause-values c = λ shown shows room.
    absurd (omega (arith, columns_are c.args.file.now c.args.change.now shown.header shows.table, room, c.if-spans-change.true))

pub returns-then-change-file-clause-values : goal.returns-then-change-file-clause-values
returns-then-change-file-clause-values c = λ shown shows room. absurd (omega (arith, Shows-within c.args.file.now c.args.change.now shown shows, c.if-change-file.true))

pub returns-in_err-read_values-in-Some-clause-values : goal.returns-in_err-read_values-in-Some-clause-values
returns-in_err-read_values-in-Some-clause-values c = λ shown shows room.
    let found = HasRecord-some c.args.file.now (length shown.header.flags) _ c.in_ok-record.field-0 c.in-Some.record (c.in_ok-record.ensures.record shown shows) c.in-Some.is in
    let begins = found.2 in
    let read = c.in_err-read_values-in-Some.ensures.values found.0 begins.rest begins.is_record (omega (arith, begins.width, columns_are c.args.file.now c.args.change.now shown.header shows.table)) begins.spelled in
    absurd (let e = read.0 in cc)

pub returns-in_ok-read_values-in-Some-clause-values : goal.returns-in_ok-read_values-in-Some-clause-values
returns-in_ok-read_values-in-Some-clause-values c = λ shown shows room.
    let file = c.args.file.now in
    let found = HasRecord-some file (length shown.header.flags) _ c.in_ok-record.field-0 c.in-Some.record (c.in_ok-record.ensures.record shown shows) c.in-Some.is in
    let begins = found.2 in
    let columns = columns_are file c.args.change.now shown.header shows.table in
    let read = c.in_ok-read_values-in-Some.ensures.values found.0 begins.rest begins.is_record (omega (arith, begins.width, columns)) begins.spelled in (
      refl,
      shows_record file (length shown.header.flags) c.args.side shown.entry.change found.0 c.read_values.new.spans found.1
          (subst (λ (count : ℕ). ShowsValues file count (λ column. Some (get_or found.0 column Undefined)) c.read_values.new.spans) columns read.1),
    )

pub returns-in-None-clause-values : goal.returns-in-None-clause-values
returns-in-None-clause-values c = λ shown shows room.
    let file = c.args.file.now in
    let none = HasRecord-none file (length shown.header.flags) _ c.in_ok-record.field-0 (c.in_ok-record.ensures.record shown shows) c.in-None.is in
    let columns = columns_are file c.args.change.now shown.header shows.table in (
      refl,
      shows_nothing file (length shown.header.flags) c.args.side shown.entry.change c.clear_values.new.spans none
          (subst (λ (count : ℕ). ShowsValues file count (λ column. None) c.clear_values.new.spans) columns (c.clear_values.ensures.values file)),
    )
