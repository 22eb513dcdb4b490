-- `records::count_records`: what `query_rows` asks for, the clauses `counted` and `failed`.
use Rattle.std.proofs.Common.{[], ◌∷◌, sym, subst, ◌∙◌}
use Rattle.sqlite.specs.Held.{state}
use Rattle.sqlite_value.specs.declared.value.Value.TheVariants.{Text}
use Rattle.sqlite_sql.specs.Term.{col}
use Rattle.cs_store_sql.specs.Records.{Counts, records_in, records_tree}
use Rattle.cs_store_sql.specs.Statements.{count_text, equals}
use Rattle.cs_store_sql.proofs.QueryTexts.{count_is_query}
use Rattle.cs_store_sql.proofs.FailureLemmas.{failure_so}
use Rattle.cs_store_sql.proofs.ReadFailures.{count_fails, count_accepted}
use Rattle.cs_store_sql.proofs.CountedRows.{counts_table}
use Rattle.cs_store_sql.proofs.records.count_records.Goals as goal

pub query_rows-requires : goal.query_rows-requires
query_rows-requires g c = count_is_query

pub returns-in-Some-clause-counted : goal.returns-in-Some-clause-counted
returns-in-Some-clause-counted g c clean holds =
    let old = state g.S.Store c.args.conn.now in
    let shown = rw c.params-to_sql.ensures at (c.in_ok-rows.ensures.shown clean) in
    let counts = counts_table c.args.tab.now old (state g.S.Store c.query_rows.new.conn) c.in_ok-rows.rows.items holds shown in
    subst (Counts (records_in old.now) c.args.tab.now) (sym (c.in-Some.ensures counts.0 (c.as_slice.ensures.value ∙ counts.2))) counts.1

pub returns-in_err-rows-clause-failed : goal.returns-in_err-rows-clause-failed
returns-in_err-rows-clause-failed g c clean declares =
    let old = state g.S.Store c.args.conn.now in
    let fails = rw (c.in_err-rows.was, c.params-to_sql.ensures) at (c.query_rows.ensures.failed clean) in
    failure_so c.from_residual.result _ _ c.in_err-rows.field-0.0 c.from_residual.ensures.1 fails
    (λ e other so. count_fails count_text (records_tree old.now.schema) (equals (col 1 1) (col 0 0) ∷ []) (Text c.args.tab.now ∷ []) old (state g.S.Store c.query_rows.new.conn) e count_is_query
    (λ is. ((declares is).statements.counts, count_accepted old.now.schema (declares is) c.args.tab.now)) other so)
