-- `tables::count_rows`: the clauses `counted`, `kept` and `leads`.
use Rattle.std.proofs.Common.{inl}
use Rattle.sqlite.specs.Held.{state}
use Rattle.cs_store_sql.specs.Records.{records_in}
use Rattle.cs_store_tables.specs.Store.{tables_in}
use Rattle.cs_store_tables.proofs.StoreLemmas.{rests_keeps}
use Rattle.cs_store_tables.proofs.StoredLists.{rows_counted}
use Rattle.cs_store_tables.proofs.ReadLemmas.{shows_read, declared_named}
use Rattle.cs_store_tables.proofs.FailureLemmas.{read_leads}
use Rattle.cs_store_tables.proofs.tables.count_rows.Goals as goal

pub returns-in-Err-clause-kept : goal.returns-in-Err-clause-kept
returns-in-Err-clause-kept g c = rests_keeps _ _ c.count_records.ensures.keeps_crash (λ clean. c.in-Err.ensures.rests clean)

pub returns-in-Ok-clause-counted : goal.returns-in-Ok-clause-counted
returns-in-Ok-clause-counted g c schema sound clean has =
    let old = state g.S.Store c.args.conn.now in
    let new = state g.S.Store c.count_records.new.conn in
    let holds = shows_read old new sound c.count_records.ensures.keeps_crash clean (c.in-Ok.ensures.reads clean) in
    rows_counted (records_in old.now) (tables_in old.now) c.args.name.now c.in-Ok.number holds.stores (declared_named old.now c.args.name.now schema has) (c.in-Ok.ensures.counted clean holds.records)

pub returns-in-Ok-clause-kept : goal.returns-in-Ok-clause-kept
returns-in-Ok-clause-kept g c = rests_keeps _ _ c.count_records.ensures.keeps_crash (λ clean. inl (c.in-Ok.ensures.reads clean))

pub returns-in-Ok-clause-leads : goal.returns-in-Ok-clause-leads
returns-in-Ok-clause-leads g c clean = read_leads _ _ (c.in-Ok.ensures.reads clean)
