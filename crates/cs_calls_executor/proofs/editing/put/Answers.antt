-- `editing::put`: there is no such table, or the row is put.
use Rattle.std.proofs.Common.{ℕ, Bool, List, is_some, Ok, Err, inr, sym, ap, ◌∙◌}
use Rattle.std.proofs.lemmas.Result.{err_from_is_err_and}
use Rattle.sqlite.specs.Held.{state}
use Rattle.cs_value.specs.Key.{key_columns, row_key}
use Rattle.cs_value.specs.Spelling.{row_bytes}
use Rattle.cs_value.specs.State.{row_at}
use Rattle.cs_rows.specs.declared.edit.Edit.{Edit}
use Rattle.cs_rows.specs.Editing.{edited}
use Rattle.cs_calls_answers.specs.Refusals.{out_of_memory}
use Rattle.cs_calls_conversions.specs.Refusals.{of_edit_error}
use Rattle.cs_calls_executor.specs.TableCalls.{on_table, edit_outcome, put_by, puts, putting}
use Rattle.cs_calls_executor.proofs.EditLemmas.{edits_then, edits_stopped, edits_refused}
use Rattle.cs_calls_executor.proofs.PutLemmas.{put_at, put_known, row_known, put_made}
use Rattle.cs_calls_executor.proofs.ReadLemmas.{schema_missing, no_memory, reads_then}
use Rattle.cs_calls_executor.proofs.editing.put.Goals as goal

pub returns-in_err-schema : goal.returns-in_err-schema
returns-in_err-schema g c =
    let table = c.args.table.now in
    let row = c.args.row in
    let why = c.in_err-schema.field-0.0 in
    let p = err_from_is_err_and c.from_residual.result c.from_residual.ensures.1 in
    rw (p.1, p.2) (edits_refused (λ tables. on_table tables table (λ s. Ok s)) (λ tables. puts tables table row) (state g.S.Store c.args.transaction.now) (state g.S.Store c.find_schema.new.transaction) why c.store_law.ensures.settled
    (λ tables missing. schema_missing tables table why (λ s. s) (λ s. put_by tables table s row (is_some (row_at tables table (row_key s.flags row)))) missing) c.in_err-schema.ensures)

pub returns-in_err-name : goal.returns-in_err-name
returns-in_err-name g c =
    let table = c.args.table.now in
    let p = err_from_is_err_and c.from_residual-in_err-name.result c.from_residual-in_err-name.ensures.1 in
    rw (p.1, p.2) (edits_stopped (λ tables. on_table tables table (λ s. Ok s)) (λ tables. puts tables table c.args.row) (state g.S.Store c.args.transaction.now) (state g.S.Store c.find_schema.new.transaction) c.in_ok-schema.schema out_of_memory c.store_law.ensures.settled
    (λ tables found. inr no_memory) c.in_ok-schema.ensures)

pub returns-in_err-values : goal.returns-in_err-values
returns-in_err-values g c =
    let table = c.args.table.now in
    let p = err_from_is_err_and c.from_residual-in_err-values.result c.from_residual-in_err-values.ensures.1 in
    rw (p.1, p.2) (edits_stopped (λ tables. on_table tables table (λ s. Ok s)) (λ tables. puts tables table c.args.row) (state g.S.Store c.args.transaction.now) (state g.S.Store c.find_schema.new.transaction) c.in_ok-schema.schema out_of_memory c.store_law.ensures.settled
    (λ tables found. inr no_memory) c.in_ok-schema.ensures)

pub returns-in_err-key : goal.returns-in_err-key
returns-in_err-key g c =
    let table = c.args.table.now in
    let p = err_from_is_err_and c.from_residual-in_err-key.result c.from_residual-in_err-key.ensures.1 in
    rw (p.1, p.2) (edits_stopped (λ tables. on_table tables table (λ s. Ok s)) (λ tables. puts tables table c.args.row) (state g.S.Store c.args.transaction.now) (state g.S.Store c.find_schema.new.transaction) c.in_ok-schema.schema out_of_memory c.store_law.ensures.settled
    (λ tables found. inr no_memory) c.in_ok-schema.ensures)

pub returns-in_err-found : goal.returns-in_err-found
returns-in_err-found g c =
    let table = c.args.table.now in
    let row = c.args.row in
    let schema = c.in_ok-schema.schema in
    let key = c.in_ok-key.key in
    let why = c.in_err-found.field-0.0 in
    let old = state g.S.Store c.args.transaction.now in
    let mid = state g.S.Store c.find_schema.new.transaction in
    let new = state g.S.Store c.find_row.new.transaction in
    let p = err_from_is_err_and c.from_residual-in_err-found.result c.from_residual-in_err-found.ensures.1 in
    rw (p.1, p.2) (edits_refused (λ tables. on_table tables table (λ s. Ok (row_at tables table (row_key s.flags row)))) (λ tables. puts tables table row) old new why c.store_law.ensures.settled
    (λ tables missing. schema_missing tables table why (λ s. row_at tables table (row_key s.flags row)) (λ s. put_by tables table s row (is_some (row_at tables table (row_key s.flags row)))) missing)
    (reads_then (λ tables. on_table tables table (λ s. Ok s)) (λ tables. on_table tables table (λ s. Ok (row_at tables table (row_key s.flags row)))) (λ tables. on_table tables table (λ s. Ok (row_at tables table key))) old mid new schema
    (Err why) (λ tables found. row_known tables table schema row found key (c.in_ok-key.ensures ∙ ap row_bytes (c.values-2.ensures.same ∙ c.in_ok-values.ensures ∙ ap (λ (f : List ℕ). key_columns f row) c.flags.ensures.same))) c.in_ok-schema.ensures c.in_err-found.ensures))

pub returns : goal.returns
returns g c =
    let table = c.args.table.now in
    let row = c.args.row in
    let schema = c.in_ok-schema.schema in
    let name = c.in_ok-name.name in
    let values = c.in_ok-values.values in
    let key = c.in_ok-key.key in
    let found = c.in_ok-found.found in
    let old = state g.S.Store c.args.transaction.now in
    let mid = state g.S.Store c.find_schema.new.transaction in
    let read = state g.S.Store c.find_row.new.transaction in
    let new = state g.S.Store c.carry_out.new.transaction in
    edits_then (λ tables. on_table tables table (λ s. Ok s)) (λ tables. puts tables table row) (λ tables. put_at tables table schema row) old mid new schema c.carry_out.result
    (λ tables known. put_known tables table schema row known) c.in_ok-schema.ensures
    (edits_then (λ tables. on_table tables table (λ s. Ok (row_at tables table key))) (λ tables. put_at tables table schema row)
    (λ tables. edit_outcome (of_edit_error table schema values c.putting-edit.result) (edited tables c.putting-edit.result)) mid read new found c.carry_out.result
    (λ tables there.
    put_made tables table schema row name values key found c.in_ok-name.ensures (c.in_ok-values.ensures ∙ ap (λ (f : List ℕ). key_columns f row) c.flags.ensures.same)
    (c.in_ok-key.ensures ∙ ap row_bytes c.values-2.ensures.same) there
    ∙ ap (λ (b : Bool). edit_outcome (of_edit_error table schema values (putting name key row b)) (edited tables (putting name key row b))) (sym c.is_some.ensures)
    ∙ ap (λ (e : Edit). edit_outcome (of_edit_error table schema values e) (edited tables e)) (sym c.putting-edit.ensures)) c.in_ok-found.ensures c.carry_out.ensures)
