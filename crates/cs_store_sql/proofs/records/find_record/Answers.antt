-- `records::find_record`: what `query_rows` asks for, the clauses `found`, `at` and `failed`.
use mir.Syntax.{w64}
use mir.Val.{SFits}
use Rattle.std.proofs.Common.{◌≡◌, ℤ, List, ℕ, Option, [], ◌∷◌, IfSome, option_map, refl, sym, ap, subst, ◌∙◌, rules, arith}
use Rattle.std.proofs.lemmas.Int.{to_z-of_z}
use Rattle.sqlite.specs.Held.{state}
use Rattle.sqlite.specs.Values.{IsInt}
use Rattle.sqlite_value.specs.declared.value.Value.{Value}
use Rattle.sqlite_value.specs.declared.value.Value.TheVariants.{Int, Text, Blob}
use Rattle.sqlite_sql.specs.Term.{col}
use Rattle.cs_store_sql.proofs.FoundRows.{finds, first_found, first_shown, none_found}
use Rattle.cs_store_sql.proofs.ReadFailures.{query_fails, find_accepted}
use Rattle.cs_store_sql.proofs.FailureLemmas.{failure_so, value_read}
use Rattle.cs_store_sql.specs.Failing.{CannotRead}
use Rattle.cs_store_sql.specs.Records.{records_tree, IsAt}
use Rattle.cs_store_sql.specs.Statements.{find_text, at_key, no_limit}
use Rattle.cs_store_sql.proofs.QueryTexts.{find_is_query}
use Rattle.cs_store_sql.proofs.records.find_record.Goals as goal

pub query_rows-requires : goal.query_rows-requires
query_rows-requires g c = find_is_query

pub returns-in-Some-clause-found : goal.returns-in-Some-clause-found
returns-in-Some-clause-found g c clean holds =
    let shown = rw (c.params-to_sql.ensures, c.params-to_sql-2.ensures) at (c.in_ok-rows.ensures.shown clean) in
    let it = finds c.args.tab.now c.args.key.now (state g.S.Store c.args.conn.now) (state g.S.Store c.query_rows.new.conn) c.in_ok-rows.rows.items holds shown in
    let first = first_found it.here c.in_ok-rows.rows.items c.in-Some.row.now c.in_ok-get-in-Some.field-0 c.in_ok-get-in-Some-2.field-0.items it.is (rw c.deref.ensures.value at c.in-Some.ensures.value)
    c.in_ok-get-in-Some.ensures.ok.1 c.in_ok-get-in-Some-2.ensures.ok.1 in
    ap (option_map (λ (p : ℤ × List ℕ). p.1)) first ∙ it.value

pub returns-in-Some-clause-at : goal.returns-in-Some-clause-at
returns-in-Some-clause-at g c clean holds =
    let old = state g.S.Store c.args.conn.now in
    let shown = rw (c.params-to_sql.ensures, c.params-to_sql-2.ensures) at (c.in_ok-rows.ensures.shown clean) in
    let it = finds c.args.tab.now c.args.key.now old (state g.S.Store c.query_rows.new.conn) c.in_ok-rows.rows.items holds shown in
    let first = first_found it.here c.in_ok-rows.rows.items c.in-Some.row.now c.in_ok-get-in-Some.field-0 c.in_ok-get-in-Some-2.field-0.items it.is (rw c.deref.ensures.value at c.in-Some.ensures.value)
    c.in_ok-get-in-Some.ensures.ok.1 c.in_ok-get-in-Some-2.ensures.ok.1 in
    let fits : SFits w64 c.in_ok-get-in-Some.field-0 = search rules in
    rw (to_z-of_z w64 c.in_ok-get-in-Some.field-0 fits) (subst (λ (o : Option (ℤ × List ℕ)). IfSome o (λ p. IsAt old.now c.args.tab.now c.args.key.now p.0)) (sym first) it.at)

pub returns-clause-found : goal.returns-clause-found
returns-clause-found g c clean holds =
    let shown = rw (c.params-to_sql.ensures, c.params-to_sql-2.ensures) at (c.in_ok-rows.ensures.shown clean) in
    let it = finds c.args.tab.now c.args.key.now (state g.S.Store c.args.conn.now) (state g.S.Store c.query_rows.new.conn) c.in_ok-rows.rows.items holds shown in
    ap (option_map (λ (p : ℤ × List ℕ). p.1)) (none_found it.here c.in_ok-rows.rows.items it.is (rw c.deref.ensures.value at c.in-None.ensures.value)) ∙ it.value

pub returns-in_err-rows-clause-failed : goal.returns-in_err-rows-clause-failed
returns-in_err-rows-clause-failed g c clean holds =
    let old = state g.S.Store c.args.conn.now in
    let fails = rw (c.in_err-rows.was, c.params-to_sql.ensures, c.params-to_sql-2.ensures) at (c.query_rows.ensures.failed clean) in
    failure_so c.from_residual.result _ _ c.in_err-rows.field-0.0 c.from_residual.ensures.1 fails
    (λ e other so. query_fails find_text (records_tree old.now.schema) at_key (col 1 0 ∷ col 1 3 ∷ []) [] no_limit (Text c.args.tab.now ∷ Blob c.args.key.now ∷ []) old (state g.S.Store c.query_rows.new.conn) e find_is_query
    (λ is. ((holds is).declares.statements.finds, find_accepted old.now.schema (holds is).declares c.args.tab.now c.args.key.now)) other so)

pub returns-in_err-get-in-Some-clause-failed : goal.returns-in_err-get-in-Some-clause-failed
returns-in_err-get-in-Some-clause-failed g c clean held =
    let old = state g.S.Store c.args.conn.now in
    let new = state g.S.Store c.query_rows.new.conn in
    let holds = held (c.in_ok-rows.ensures.reads clean).0.was_open in
    let shown = rw (c.params-to_sql.ensures, c.params-to_sql-2.ensures) at (c.in_ok-rows.ensures.shown clean) in
    let it = finds c.args.tab.now c.args.key.now old new c.in_ok-rows.rows.items holds shown in
    let first = first_shown it.here c.in_ok-rows.rows.items c.in-Some.row.now it.is (rw c.deref.ensures.value at c.in-Some.ensures.value) in
    value_read c.from_residual-in_err-get-in-Some.result (CannotRead old new) c.in_err-get-in-Some.field-0.0 c.in-Some.row.now (Int first.0 ∷ Blob first.1 ∷ []) 0 IsInt c.from_residual-in_err-get-in-Some.ensures.1
    first.2 (omega arith) (first.0, refl) c.in_err-get-in-Some.ensures.kind

pub returns-in_err-get-in-Some-2-clause-failed : goal.returns-in_err-get-in-Some-2-clause-failed
returns-in_err-get-in-Some-2-clause-failed g c clean held =
    let old = state g.S.Store c.args.conn.now in
    let new = state g.S.Store c.query_rows.new.conn in
    let holds = held (c.in_ok-rows.ensures.reads clean).0.was_open in
    let shown = rw (c.params-to_sql.ensures, c.params-to_sql-2.ensures) at (c.in_ok-rows.ensures.shown clean) in
    let it = finds c.args.tab.now c.args.key.now old new c.in_ok-rows.rows.items holds shown in
    let first = first_shown it.here c.in_ok-rows.rows.items c.in-Some.row.now it.is (rw c.deref.ensures.value at c.in-Some.ensures.value) in
    value_read c.from_residual-in_err-get-in-Some-2.result (CannotRead old new) c.in_err-get-in-Some-2.field-0.0 c.in-Some.row.now (Int first.0 ∷ Blob first.1 ∷ []) 1 (λ (v : Value). (b : List ℕ) × (v ≡ Blob b)) c.from_residual-in_err-get-in-Some-2.ensures.1
    first.2 (omega arith) (first.1, refl) c.in_err-get-in-Some-2.ensures.kind
