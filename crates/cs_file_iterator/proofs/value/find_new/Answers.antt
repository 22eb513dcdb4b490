-- `value::find_new`: the record after a change.
use Rattle.std.proofs.Common.{◌≡◌, ◌+◌, ◌++◌, List, [], length, drop, Some, sym, ap, subst, ◌∙◌, arith}
use Rattle.std.proofs.lemmas.Bool.{iff_false}
use Rattle.std.proofs.lemmas.List.{drop_all}
use Rattle.cs_value.specs.declared.value.OwnedField.{OwnedField}
use Rattle.cs_value.specs.Spelling.{record_bytes}
use Rattle.cs_wire_entries.specs.declared.entry.Change.{Change}
use Rattle.cs_wire_entries.specs.Items.{new_record}
use Rattle.cs_file_iterator.specs.Steps.{HasRecord}
use Rattle.cs_file_iterator.proofs.ValueLemmas.{columns_are, new_begins, update_is}
use Rattle.cs_file_iterator.proofs.value.find_new.Goals as goal

pub returns-then-does-2-clause-record : goal.returns-then-does-2-clause-record
returns-then-does-2-clause-record c = λ shown shows.
    new_begins c.args.file.now c.args.change.now shown.header.flags shown.entry.change _ shows.is_entry shows.operation (c.does-2.ensures.0 c.if-does-2.true) shows.records

pub returns-in_err-skip_fields-clause-record : goal.returns-in_err-skip_fields-clause-record
returns-in_err-skip_fields-clause-record c = λ shown shows.
    let update = update_is c.args.file.now c.args.change.now shown.header.flags shown.entry.change _ shows.is_entry shows.operation (iff_false c.does-2.ensures c.if-does-2.false) (iff_false c.does.ensures c.if-does.false) shows.records in
    let columns = columns_are c.args.file.now c.args.change.now shown.header shows.table in
    absurd (c.in_err-skip_fields.ensures.skipped update.old _ update.old_is (omega (arith, columns, update.old_width)) update.spelled)

pub returns-clause-record : goal.returns-clause-record
returns-clause-record c = λ shown shows.
    let update = update_is c.args.file.now c.args.change.now shown.header.flags shown.entry.change _ shows.is_entry shows.operation (iff_false c.does-2.ensures c.if-does-2.false) (iff_false c.does.ensures c.if-does.false) shows.records in
    let columns = columns_are c.args.file.now c.args.change.now shown.header shows.table in
    let rest = record_bytes update.new ++ drop (c.args.change.now.records + c.args.change.now.records_length) c.args.file.now in
    let end = c.in_ok-skip_fields.field-0 in
    let left : drop end c.args.file.now ≡ record_bytes (drop c.args.change.now.columns update.old) ++ rest = c.in_ok-skip_fields.ensures.skipped update.old rest update.old_is (omega (arith, columns, update.old_width)) update.spelled in
    let none : drop c.args.change.now.columns update.old ≡ [] = drop_all c.args.change.now.columns update.old (omega (arith, columns, update.old_width)) in
    subst (λ (change : Change). HasRecord c.args.file.now (length shown.header.flags) (new_record change) (Some end)) (sym update.change_is)
    (record {
      is_record = update.new_is;
      width = update.new_width;
      rest = drop (c.args.change.now.records + c.args.change.now.records_length) c.args.file.now;
      spelled = left ∙ ap (λ (fields : List OwnedField). record_bytes fields ++ rest) none;
    })
