-- `reading::find_schema`: there is no such table, or it is not read.
use Rattle.std.proofs.Common.{Ok, Err, refl, sym, ◌∙◌}
use Rattle.sqlite.specs.Held.{state}
use Rattle.cs_store.specs.Store.{tables_in}
use Rattle.cs_calls_executor.specs.TableCalls.{on_table}
use Rattle.cs_calls_executor.proofs.ReadLemmas.{reads_one, reads_unable, table_missing}
use Rattle.cs_calls_executor.proofs.reading.find_schema.Goals as goal

pub returns-in-Ok-None : goal.returns-in-Ok-None
returns-in-Ok-None g c =
    let old = state g.S.Store c.args.transaction.now in
    let table = c.args.table.now in
    let it = c.in-Ok-None.ensures in
    reads_one (λ tables. on_table tables table (λ schema. Ok schema)) old (state g.S.Store c.schema.new.self) (Err c.table_refusal.result) it.kept it.rests (λ clean. it.reads clean refl)
    (λ clean. table_missing (tables_in old.now) table c.table_refusal.result (λ schema. Ok schema) (sym (rw c.as_str.ensures.same at (it.found clean)) ∙ c.in-Ok-None.field-0-is) c.table_refusal.ensures)

pub returns-in-Err : goal.returns-in-Err
returns-in-Err g c =
    reads_unable (λ tables. on_table tables c.args.table.now (λ schema. Ok schema)) (state g.S.Store c.args.transaction.now) (state g.S.Store c.schema.new.self) c.in-Err.error c.store_refusal.result c.in-Err.ensures.kept c.in-Err.ensures.rests c.in-Err.ensures.refused c.store_refusal.ensures
