-- `records::list_page`: what `query_rows` asks for, the clauses `failed` and `listed`.
use mir.Syntax.{w64}
use mir.Val.{to_z}
use Rattle.std.proofs.Common.{◌≡◌, ◌<◌, ◌^◌, ℕ, pos, [], ◌∷◌, map, sym, ap, subst, ◌∙◌, arith}
use Rattle.std.proofs.lemmas.Int.{ints}
use Rattle.sqlite.specs.declared.error.Error.{Error}
use Rattle.sqlite.specs.State.{FailsToQuery, Shown}
use Rattle.sqlite.specs.Held.{state}
use Rattle.sqlite_value.specs.declared.value.Value.TheVariants.{Int, Text, Blob}
use Rattle.sqlite_sql.specs.Term.{col}
use Rattle.cs_store_sql.specs.Records.{ListsPage, shown_keyed, records_in, records_tree}
use Rattle.cs_store_sql.specs.Statements.{page_text, equals, above, up}
use Rattle.cs_store_sql.proofs.QueryTexts.{page_is_query}
use Rattle.cs_store_sql.proofs.FailureLemmas.{failure_so}
use Rattle.cs_store_sql.proofs.ReadFailures.{query_fails, page_accepted}
use Rattle.cs_store_sql.proofs.PagedRows.{lists_page}
use Rattle.cs_store_sql.proofs.records.list_page.Goals as goal

-- a number that fits is passed as it is
most_is : (n : ℕ) → n < 2 ^ 63 → to_z w64 n ≡ pos n
most_is n fits = omega (arith, ints)

pub query_rows-requires : goal.query_rows-requires
query_rows-requires g c = page_is_query

pub returns-clause-listed : goal.returns-clause-listed
returns-clause-listed g c clean holds =
    let shown = rw (c.params-to_sql.ensures, c.params-to_sql-2.ensures, c.params-to_sql-3.ensures) at (c.in_ok-rows.ensures.shown clean) in
    let old = state g.S.Store c.args.conn.now in
    let new = state g.S.Store c.query_rows.new.conn in
    let given = subst (λ most. Shown page_text (Text c.args.tab.now ∷ Blob c.args.after.now ∷ Int most ∷ []) old new c.in_ok-rows.rows.items) (most_is c.args.limit c.requires) shown in
    let lists = lists_page c.args.tab.now c.args.after.now c.args.limit old new c.in_ok-rows.rows.items holds given in
    subst (ListsPage (records_in (state g.S.Store c.args.conn.now).now) c.args.tab.now c.args.after.now c.args.limit) (sym (c.in_ok-keyed_rows.ensures ∙ ap (map shown_keyed) c.as_slice.ensures.value)) lists

pub returns-in_err-rows-clause-failed : goal.returns-in_err-rows-clause-failed
returns-in_err-rows-clause-failed g c clean declares =
    let old = state g.S.Store c.args.conn.now in
    let fails = rw (c.in_err-rows.was, c.params-to_sql.ensures, c.params-to_sql-2.ensures, c.params-to_sql-3.ensures) at (c.query_rows.ensures.failed clean) in
    let new = state g.S.Store c.query_rows.new.conn in
    let given : (e : Error) → FailsToQuery page_text (Text c.args.tab.now ∷ Blob c.args.after.now ∷ Int (to_z w64 c.args.limit) ∷ []) old new e → FailsToQuery page_text (Text c.args.tab.now ∷ Blob c.args.after.now ∷ Int (pos c.args.limit) ∷ []) old new e =
    λ e so. subst (λ most. FailsToQuery page_text (Text c.args.tab.now ∷ Blob c.args.after.now ∷ Int most ∷ []) old new e) (most_is c.args.limit c.requires) so in
    failure_so c.from_residual.result _ _ c.in_err-rows.field-0.0 c.from_residual.ensures.1 fails
    (λ e other so. query_fails page_text (records_tree old.now.schema) (equals (col 1 1) (col 0 0) ∷ above (col 1 2) (col 0 1) ∷ []) (col 1 2 ∷ col 1 3 ∷ []) ((col 1 2, up) ∷ []) (col 0 2) (Text c.args.tab.now ∷ Blob c.args.after.now ∷ Int (pos c.args.limit) ∷ []) old new e page_is_query
    (λ is. ((declares is).statements.pages, page_accepted old.now.schema (declares is) c.args.tab.now c.args.after.now c.args.limit)) other (given e so))
