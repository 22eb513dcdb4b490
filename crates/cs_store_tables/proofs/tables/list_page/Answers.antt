-- `tables::list_page`: the clauses `kept`, `listed` and `named`.
use Rattle.std.proofs.Common.{inl, map, option_map, subst}
use Rattle.sqlite.specs.Held.{state}
use Rattle.cs_store_sql.specs.Records.{records_in, ListsPage}
use Rattle.cs_store_tables.specs.Store.{tables_in}
use Rattle.cs_store_tables.proofs.StoreLemmas.{rests_keeps}
use Rattle.cs_store_tables.proofs.StoredLists.{refused_named, rows_recovered}
use Rattle.cs_store_tables.proofs.PagedLists.{page_is_stored}
use Rattle.cs_store_tables.proofs.ReadLemmas.{shows_read, declared_named}
use Rattle.cs_store_tables.proofs.FailureLemmas.{on_ok, read_leads}
use Rattle.cs_store_tables.proofs.tables.list_page.Goals as goal

pub returns-in-Err-clause-kept : goal.returns-in-Err-clause-kept
returns-in-Err-clause-kept g c = rests_keeps _ _ c.list_page.ensures.keeps_crash (λ clean. c.in-Err.ensures.rests clean)

pub returns-in-Ok-clause-listed : goal.returns-in-Ok-clause-listed
returns-in-Ok-clause-listed g c sound clean has =
    let old = state g.S.Store c.args.conn.now in
    let new = state g.S.Store c.list_page.new.conn in
    let holds = shows_read old new sound c.list_page.ensures.keeps_crash clean (c.in-Ok.ensures.reads clean) in
    let name = c.args.name.now in
    let is = page_is_stored (records_in old.now) (tables_in old.now) name holds.stores (declared_named old.now name c.args.schema.now has) c.args.schema.now (option_map (λ k. k.now) c.args.after) c.args.limit c.in-Ok.listed.items has
    (subst (λ l. ListsPage (records_in old.now) name l c.args.limit c.in-Ok.listed.items) c.bytes_of.ensures (c.in-Ok.ensures.listed clean holds.records)) in
    rows_recovered c.rows_in.result c.args.schema.now (map (λ e. e.1) c.deref.result.now) _ c.rows_in.ensures.read c.rows_in.ensures.refused
    (rw c.deref.ensures.value is)

pub returns-in-Ok-clause-named : goal.returns-in-Ok-clause-named
returns-in-Ok-clause-named g c = refused_named _ c.rows_in.result c.rows_in.ensures.refused

pub returns-in-Ok-clause-kept : goal.returns-in-Ok-clause-kept
returns-in-Ok-clause-kept g c = rests_keeps _ _ c.list_page.ensures.keeps_crash (λ clean. inl (c.in-Ok.ensures.reads clean))

pub returns-in-Ok-clause-leads : goal.returns-in-Ok-clause-leads
returns-in-Ok-clause-leads g c clean = on_ok c.rows_in.result _ (read_leads _ _ (c.in-Ok.ensures.reads clean))
