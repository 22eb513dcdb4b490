-- `reading::read_page`: there is no such table, the values are those of no key, or a page of its rows is read.
use Rattle.std.proofs.Common.{Some, Ok, Err, sym, ◌∙◌}
use Rattle.std.proofs.lemmas.Result.{err_from_is_err_and}
use Rattle.sqlite.specs.Held.{state}
use Rattle.cs_calls_executor.specs.TableCalls.{on_table, with_key, table_page, page_at}
use Rattle.cs_calls_executor.proofs.KeyLemmas.{key_refused, key_named}
use Rattle.cs_calls_executor.proofs.ReadLemmas.{reads_then, reads_on, reads_refused, schema_found, schema_missing}
use Rattle.cs_calls_executor.proofs.reading.read_page.Goals as goal

pub returns-in_err-schema : goal.returns-in_err-schema
returns-in_err-schema g c =
    let table = c.args.table.now in
    let values = c.in-Some.values.now in
    let limit = c.args.limit in
    let why = c.in_err-schema.field-0.0 in
    let p = err_from_is_err_and c.from_residual.result c.from_residual.ensures.1 in
    rw (p.1, p.2, c.in-Some.is) (reads_refused (λ tables. on_table tables table (λ s. Ok s)) (λ tables. table_page tables table (Some values) limit) (state g.S.Store c.args.transaction.now) (state g.S.Store c.find_schema.new.transaction) why
    (λ tables missing. schema_missing tables table why (λ s. s) (λ s. with_key table s values (λ k. Ok (page_at tables table s (Some k) limit))) missing) c.in_err-schema.ensures)

pub returns-in_err-key : goal.returns-in_err-key
returns-in_err-key g c =
    let table = c.args.table.now in
    let values = c.in-Some.values.now in
    let limit = c.args.limit in
    let why = c.in_err-key.field-0.0 in
    let p = err_from_is_err_and c.from_residual-in_err-key.result c.from_residual-in_err-key.ensures.1 in
    rw (p.1, p.2, c.in-Some.is) (reads_on (λ tables. on_table tables table (λ s. Ok s)) (λ tables. table_page tables table (Some values) limit) (state g.S.Store c.args.transaction.now) (state g.S.Store c.find_schema.new.transaction) c.in_ok-schema.schema (Err why)
    (λ tables found. key_refused tables table c.in_ok-schema.schema values (λ s k. Ok (page_at tables table s (Some k) limit)) found why c.in_err-key.ensures.refused) c.in_ok-schema.ensures)

pub returns : goal.returns
returns g c =
    let table = c.args.table.now in
    let values = c.in-Some.values.now in
    let limit = c.args.limit in
    let schema = c.in_ok-schema.schema in
    let key = c.in_ok-key.key in
    rw c.in-Some.is (reads_then (λ tables. on_table tables table (λ s. Ok s)) (λ tables. table_page tables table (Some values) limit) (λ tables. on_table tables table (λ s. Ok (page_at tables table s (Some key) limit)))
    (state g.S.Store c.args.transaction.now) (state g.S.Store c.find_schema.new.transaction) (state g.S.Store c.page_after-2.new.transaction) schema c.page_after-2.result
    (λ tables found.
    key_named tables table schema values (λ s k. Ok (page_at tables table s (Some k) limit)) found key c.in_ok-key.ensures.named c.in_ok-key.ensures.key
    ∙ sym (schema_found tables table schema (λ s. Ok (page_at tables table s (Some key) limit)) found))
    c.in_ok-schema.ensures c.page_after-2.ensures)
