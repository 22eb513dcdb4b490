-- `records::list_records`: what `query_rows` asks for, the clauses `failed` and `listed`.
use Rattle.std.proofs.Common.{[], ◌∷◌, map, sym, ap, subst, ◌∙◌}
use Rattle.sqlite.specs.Held.{state}
use Rattle.cs_store_sql.specs.Records.{ListsTable, shown_keyed, records_in}
use Rattle.cs_store_sql.proofs.QueryTexts.{list_is_query}
use Rattle.cs_store_sql.specs.Records.{records_tree}
use Rattle.cs_store_sql.specs.Statements.{list_text, equals, up, no_limit}
use Rattle.sqlite_value.specs.declared.value.Value.TheVariants.{Text}
use Rattle.sqlite_sql.specs.Term.{col}
use Rattle.cs_store_sql.proofs.FailureLemmas.{failure_so}
use Rattle.cs_store_sql.proofs.ReadFailures.{query_fails, list_accepted}
use Rattle.cs_store_sql.proofs.ListedRows.{lists_table}
use Rattle.cs_store_sql.proofs.records.list_records.Goals as goal

pub query_rows-requires : goal.query_rows-requires
query_rows-requires g c = list_is_query

pub returns-clause-listed : goal.returns-clause-listed
returns-clause-listed g c clean holds =
    let shown = rw c.params-to_sql.ensures at (c.in_ok-rows.ensures.shown clean) in
    let lists = lists_table c.args.tab.now (state g.S.Store c.args.conn.now) (state g.S.Store c.query_rows.new.conn) c.in_ok-rows.rows.items holds shown in
    subst (ListsTable (records_in (state g.S.Store c.args.conn.now).now) c.args.tab.now) (sym (c.in_ok-keyed_rows.ensures ∙ ap (map shown_keyed) c.as_slice.ensures.value)) lists

pub returns-in_err-rows-clause-failed : goal.returns-in_err-rows-clause-failed
returns-in_err-rows-clause-failed g c clean declares =
    let old = state g.S.Store c.args.conn.now in
    let fails = rw (c.in_err-rows.was, c.params-to_sql.ensures) at (c.query_rows.ensures.failed clean) in
    failure_so c.from_residual.result _ _ c.in_err-rows.field-0.0 c.from_residual.ensures.1 fails
    (λ e other so. query_fails list_text (records_tree old.now.schema) (equals (col 1 1) (col 0 0) ∷ []) (col 1 2 ∷ col 1 3 ∷ []) ((col 1 2, up) ∷ []) no_limit (Text c.args.tab.now ∷ []) old (state g.S.Store c.query_rows.new.conn) e list_is_query
    (λ is. ((declares is).statements.lists, list_accepted old.now.schema (declares is) c.args.tab.now)) other so)
