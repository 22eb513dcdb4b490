-- `reading::count_rows`: the rows are counted, or there is no such table.
use Rattle.std.proofs.Common.{length, Ok, inl, refl, ap, ◌∙◌}
use Rattle.std.specs.FinMap as map
use Rattle.sqlite.specs.Held.{state}
use Rattle.cs_value.specs.State.{rows_at}
use Rattle.cs_store.specs.Store.{tables_in}
use Rattle.cs_calls_executor.specs.TableCalls.{table_count}
use Rattle.cs_calls_executor.proofs.ReadLemmas.{reads_one, rows_refused, table_there}
use Rattle.cs_calls_executor.proofs.reading.count_rows.Goals as goal

pub returns-in-Ok : goal.returns-in-Ok
returns-in-Ok g c =
    let old = state g.S.Store c.args.transaction.now in
    let table = c.args.table.now in
    let it = c.in-Ok.ensures in
    reads_one (λ tables. table_count tables table) old (state g.S.Store c.count.new.self) (Ok c.in-Ok.number) it.kept it.rests (λ clean. it.reads clean refl)
    (λ clean. inl (ap (λ n. Ok n) (rw c.as_str.ensures.same at (it.counted clean)) ∙ table_there (tables_in old.now) table (length (map.values (rows_at (tables_in old.now) table))) (rw c.as_str.ensures.same at (it.declared clean))))

pub returns-in-Err : goal.returns-in-Err
returns-in-Err g c =
    let table = c.args.table.now in
    let it = c.in-Err.ensures in
    rows_refused (λ tables schema. Ok (length (map.values (rows_at tables table)))) table (state g.S.Store c.args.transaction.now) (state g.S.Store c.count.new.self) c.in-Err.error c.read_refusal.result it.kept it.rests it.reads
    (λ clean. rw c.as_str.ensures.same at (it.refused clean)) c.read_refusal.ensures
