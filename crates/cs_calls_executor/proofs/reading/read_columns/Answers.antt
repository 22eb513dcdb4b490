-- `reading::read_columns`: there is no such table, or no memory for its columns.
use Rattle.std.proofs.Common.{List, Ok, Err, inl, inr, sym, ap, ◌∙◌}
use Rattle.std.proofs.lemmas.Result.{err_from_is_err_and}
use Rattle.sqlite.specs.Held.{state}
use Rattle.cs_calls_answers.specs.Refusals.{out_of_memory}
use Rattle.cs_calls_parts.specs.declared.lists.Column.{Column}
use Rattle.cs_calls_conversions.specs.Columns.{schema_columns}
use Rattle.cs_calls_executor.specs.TableCalls.{on_table, table_columns}
use Rattle.cs_calls_executor.proofs.ReadLemmas.{reads_on, reads_refused, schema_found, schema_missing, no_memory}
use Rattle.cs_calls_executor.proofs.reading.read_columns.Goals as goal

pub returns-in_err-schema : goal.returns-in_err-schema
returns-in_err-schema g c =
    let table = c.args.table.now in
    let why = c.in_err-schema.field-0.0 in
    let p = err_from_is_err_and c.from_residual.result c.from_residual.ensures.1 in
    rw (p.1, p.2) (reads_refused (λ tables. on_table tables table (λ s. Ok s)) (λ tables. table_columns tables table) (state g.S.Store c.args.transaction.now) (state g.S.Store c.find_schema.new.transaction) why
    (λ tables missing. schema_missing tables table why (λ s. s) (λ s. Ok (schema_columns s)) missing) c.in_err-schema.ensures)

pub returns-in_err-columns_of : goal.returns-in_err-columns_of
returns-in_err-columns_of g c =
    let table = c.args.table.now in
    let p = err_from_is_err_and c.from_residual-in_err-columns_of.result c.from_residual-in_err-columns_of.ensures.1 in
    rw (p.1, p.2) (reads_on (λ tables. on_table tables table (λ s. Ok s)) (λ tables. table_columns tables table) (state g.S.Store c.args.transaction.now) (state g.S.Store c.find_schema.new.transaction) c.in_ok-schema.schema (Err out_of_memory)
    (λ tables found. inr no_memory) c.in_ok-schema.ensures)

pub returns : goal.returns
returns g c =
    let table = c.args.table.now in
    let schema = c.in_ok-schema.schema in
    reads_on (λ tables. on_table tables table (λ s. Ok s)) (λ tables. table_columns tables table) (state g.S.Store c.args.transaction.now) (state g.S.Store c.find_schema.new.transaction) schema (Ok c.in_ok-columns_of.field-0)
    (λ tables found. inl (ap (λ (l : List Column). Ok l) c.in_ok-columns_of.ensures ∙ sym (schema_found tables table schema (λ s. Ok (schema_columns s)) found))) c.in_ok-schema.ensures
