-- `editing::insert`: there is no such table, or the row is inserted.
use Rattle.std.proofs.Common.{ℕ, List, Ok, inr, string_bytes, sym, ap, ◌∙◌}
use Rattle.std.proofs.lemmas.Result.{err_from_is_err_and}
use Rattle.sqlite.specs.Held.{state}
use Rattle.cs_rows.specs.Editing.{inserted}
use Rattle.cs_calls_answers.specs.Refusals.{out_of_memory}
use Rattle.cs_calls_conversions.specs.Refusals.{of_row_error}
use Rattle.cs_calls_executor.specs.TableCalls.{on_table, edit_outcome, inserts}
use Rattle.cs_calls_executor.proofs.EditLemmas.{edits_then, edits_stopped, edits_refused}
use Rattle.cs_calls_executor.proofs.ReadLemmas.{schema_found, schema_missing, no_memory}
use Rattle.cs_calls_executor.proofs.editing.insert.Goals as goal

pub returns-in_err-schema : goal.returns-in_err-schema
returns-in_err-schema g c =
    let table = c.args.table.now in
    let why = c.in_err-schema.field-0.0 in
    let p = err_from_is_err_and c.from_residual.result c.from_residual.ensures.1 in
    rw (p.1, p.2) (edits_refused (λ tables. on_table tables table (λ s. Ok s)) (λ tables. inserts tables table c.args.row) (state g.S.Store c.args.transaction.now) (state g.S.Store c.find_schema.new.transaction) why c.store_law.ensures.settled
    (λ tables missing. schema_missing tables table why (λ s. s) (λ s. edit_outcome (of_row_error table s c.args.row) (inserted tables table c.args.row)) missing) c.in_err-schema.ensures)

pub returns-in_err-name : goal.returns-in_err-name
returns-in_err-name g c =
    let table = c.args.table.now in
    let p = err_from_is_err_and c.from_residual-in_err-name.result c.from_residual-in_err-name.ensures.1 in
    rw (p.1, p.2) (edits_stopped (λ tables. on_table tables table (λ s. Ok s)) (λ tables. inserts tables table c.args.row) (state g.S.Store c.args.transaction.now) (state g.S.Store c.find_schema.new.transaction) c.in_ok-schema.schema out_of_memory c.store_law.ensures.settled
    (λ tables found. inr no_memory) c.in_ok-schema.ensures)

pub returns : goal.returns
returns g c =
    let table = c.args.table.now in
    let schema = c.in_ok-schema.schema in
    let name = string_bytes c.in_ok-name.name in
    edits_then (λ tables. on_table tables table (λ s. Ok s)) (λ tables. inserts tables table c.args.row) (λ tables. edit_outcome (of_row_error table schema c.args.row) (inserted tables name c.args.row))
    (state g.S.Store c.args.transaction.now) (state g.S.Store c.find_schema.new.transaction) (state g.S.Store c.carry_out.new.transaction) schema c.carry_out.result
    (λ tables found.
    schema_found tables table schema (λ s. edit_outcome (of_row_error table s c.args.row) (inserted tables table c.args.row)) found
    ∙ ap (λ (n : List ℕ). edit_outcome (of_row_error table schema c.args.row) (inserted tables n c.args.row)) (sym c.in_ok-name.ensures))
    c.in_ok-schema.ensures c.carry_out.ensures
