-- `editing::update`: there is no such table or key, or the row is put in its place.
use Rattle.std.proofs.Common.{ℕ, List, Ok, inl, inr, string_bytes, sym, ap, ◌∙◌}
use Rattle.std.proofs.lemmas.Result.{err_from_is_err_and}
use Rattle.sqlite.specs.Held.{state}
use Rattle.cs_rows.specs.Editing.{updated}
use Rattle.cs_calls_answers.specs.Refusals.{out_of_memory}
use Rattle.cs_calls_conversions.specs.Refusals.{of_update_error}
use Rattle.cs_calls_executor.specs.TableCalls.{on_table, with_key, edit_outcome, updates}
use Rattle.cs_calls_executor.proofs.EditLemmas.{edits_then, edits_stopped, edits_refused}
use Rattle.cs_calls_executor.proofs.KeyLemmas.{key_refused, key_named}
use Rattle.cs_calls_executor.proofs.ReadLemmas.{schema_missing, no_memory}
use Rattle.cs_calls_executor.proofs.editing.update.Goals as goal

pub returns-in_err-schema : goal.returns-in_err-schema
returns-in_err-schema g c =
    let table = c.args.table.now in
    let values = c.args.values.now in
    let why = c.in_err-schema.field-0.0 in
    let p = err_from_is_err_and c.from_residual.result c.from_residual.ensures.1 in
    rw (p.1, p.2) (edits_refused (λ tables. on_table tables table (λ s. Ok s)) (λ tables. updates tables table values c.args.row) (state g.S.Store c.args.transaction.now) (state g.S.Store c.find_schema.new.transaction) why c.store_law.ensures.settled
    (λ tables missing. schema_missing tables table why (λ s. s) (λ s. with_key table s values (λ k. edit_outcome (of_update_error table s values c.args.row) (updated tables table k c.args.row))) missing) c.in_err-schema.ensures)

pub returns-in_err-key : goal.returns-in_err-key
returns-in_err-key g c =
    let table = c.args.table.now in
    let values = c.args.values.now in
    let why = c.in_err-key.field-0.0 in
    let p = err_from_is_err_and c.from_residual-in_err-key.result c.from_residual-in_err-key.ensures.1 in
    rw (p.1, p.2) (edits_stopped (λ tables. on_table tables table (λ s. Ok s)) (λ tables. updates tables table values c.args.row) (state g.S.Store c.args.transaction.now) (state g.S.Store c.find_schema.new.transaction) c.in_ok-schema.schema why c.store_law.ensures.settled
    (λ tables found. elim (key_refused tables table c.in_ok-schema.schema values (λ s k. edit_outcome (of_update_error table s values c.args.row) (updated tables table k c.args.row)) found why c.in_err-key.ensures.refused) [ inl is ↦ inl (sym is) | inr resource ↦ inr resource ]) c.in_ok-schema.ensures)

pub returns-in_err-name : goal.returns-in_err-name
returns-in_err-name g c =
    let table = c.args.table.now in
    let values = c.args.values.now in
    let p = err_from_is_err_and c.from_residual-in_err-name.result c.from_residual-in_err-name.ensures.1 in
    rw (p.1, p.2) (edits_stopped (λ tables. on_table tables table (λ s. Ok s)) (λ tables. updates tables table values c.args.row) (state g.S.Store c.args.transaction.now) (state g.S.Store c.find_schema.new.transaction) c.in_ok-schema.schema out_of_memory c.store_law.ensures.settled
    (λ tables found. inr no_memory) c.in_ok-schema.ensures)

pub returns : goal.returns
returns g c =
    let table = c.args.table.now in
    let values = c.args.values.now in
    let schema = c.in_ok-schema.schema in
    let name = string_bytes c.in_ok-name.name in
    edits_then (λ tables. on_table tables table (λ s. Ok s)) (λ tables. updates tables table values c.args.row) (λ tables. edit_outcome (of_update_error table schema values c.args.row) (updated tables name c.in_ok-key.key c.args.row))
    (state g.S.Store c.args.transaction.now) (state g.S.Store c.find_schema.new.transaction) (state g.S.Store c.carry_out.new.transaction) schema c.carry_out.result
    (λ tables found.
    key_named tables table schema values (λ s k. edit_outcome (of_update_error table s values c.args.row) (updated tables table k c.args.row)) found c.in_ok-key.key c.in_ok-key.ensures.named c.in_ok-key.ensures.key
    ∙ ap (λ (n : List ℕ). edit_outcome (of_update_error table schema values c.args.row) (updated tables n c.in_ok-key.key c.args.row)) (sym c.in_ok-name.ensures))
    c.in_ok-schema.ensures c.carry_out.ensures
