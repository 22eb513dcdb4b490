-- `reading::find_row`: the row that the table has, or why none is read.
use Rattle.std.proofs.Common.{Ok, inl, refl, ap, ◌∙◌}
use Rattle.sqlite.specs.Held.{state}
use Rattle.cs_value.specs.State.{row_at}
use Rattle.cs_store.specs.Store.{tables_in}
use Rattle.cs_calls_executor.specs.TableCalls.{on_table}
use Rattle.cs_calls_executor.proofs.ReadLemmas.{reads_one, rows_refused, table_there}
use Rattle.cs_calls_executor.proofs.reading.find_row.Goals as goal

pub returns-in-Ok : goal.returns-in-Ok
returns-in-Ok g c =
    let old = state g.S.Store c.args.transaction.now in
    let table = c.args.table.now in
    let key = c.args.key.now in
    let it = c.in-Ok.ensures in
    reads_one (λ tables. on_table tables table (λ schema. Ok (row_at tables table key))) old (state g.S.Store c.get.new.self) (Ok c.in-Ok.row) it.kept it.rests (λ clean. it.reads clean refl)
    (λ clean. inl (ap (λ r. Ok r) (rw c.as_str.ensures.same at (it.found clean)) ∙ table_there (tables_in old.now) table (row_at (tables_in old.now) table key) (rw c.as_str.ensures.same at (it.declared clean))))

pub returns-in-Err : goal.returns-in-Err
returns-in-Err g c =
    let table = c.args.table.now in
    let key = c.args.key.now in
    let it = c.in-Err.ensures in
    rows_refused (λ tables schema. Ok (row_at tables table key)) table (state g.S.Store c.args.transaction.now) (state g.S.Store c.get.new.self) c.in-Err.error c.read_refusal.result it.kept it.rests it.reads
    (λ clean. rw c.as_str.ensures.same at (it.refused clean)) c.read_refusal.ensures
