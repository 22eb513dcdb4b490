-- `reading::page_after`: the rows are read, and the page has the first of them; or there is no such table.
use Rattle.std.proofs.Common.{◌≡◌, ℕ, List, length, take, nat_lt, option_map, Ok, inl, refl, ap, ◌∙◌}
use Rattle.sqlite.specs.Held.{state}
use Rattle.cs_value.specs.declared.value.OwnedValue.{OwnedValue}
use Rattle.cs_calls_conversions.specs.declared.page.Page.{Page}
use Rattle.cs_store.specs.Laws.{was_clean}
use Rattle.cs_store.specs.Store.{tables_in}
use Rattle.cs_calls_executor.specs.TableCalls.{on_table, page_at}
use Rattle.cs_calls_executor.proofs.ReadLemmas.{reads_one, rows_refused}
use Rattle.cs_calls_executor.proofs.PageLemmas.{page, page_there}
use Rattle.cs_calls_executor.proofs.reading.page_after.Goals as goal

pub returns-in-Ok : goal.returns-in-Ok
unfolding page
returns-in-Ok g c =
    let old = state g.S.Store c.args.transaction.now in
    let new = state g.S.Store c.page.new.self in
    let table = c.args.table.now in
    let after = option_map (λ k. k.now) c.args.after in
    let limit = c.args.limit in
    let read = c.in-Ok.rows.items in
    let it = c.in-Ok.ensures in
    let made : page c.new.result (nat_lt limit c.len.result) ≡ page (take limit read) (nat_lt limit (length read)) =
    ap (λ (l : List (List OwnedValue)). page l (nat_lt limit c.len.result)) (c.new.ensures ∙ c.truncate.ensures.items)
    ∙ ap (λ (n : ℕ). page (take limit read) (nat_lt limit n)) (c.len.ensures ∙ c.in-Ok.rows.ok.0) in
    reads_one (λ tables. on_table tables table (λ schema. Ok (page_at tables table schema after limit))) old new (Ok (page c.new.result (nat_lt limit c.len.result))) it.kept it.rests (λ clean. it.reads clean refl)
    (λ clean.
    let holds = c.store_law.ensures.holds (was_clean old new it.kept.crash clean) (it.reads clean refl).0.was_open in
    inl (ap (λ (p : Page). Ok p) made ∙ page_there (tables_in old.now) table after limit read holds.0.stores.is_state (rw c.as_str.ensures.same at (it.declared clean)) (rw (c.as_str.ensures.same, c.from.ensures) at (it.listed clean))))

pub returns-in-Err : goal.returns-in-Err
returns-in-Err g c =
    let table = c.args.table.now in
    let after = option_map (λ k. k.now) c.args.after in
    let it = c.in-Err.ensures in
    rows_refused (λ tables schema. Ok (page_at tables table schema after c.args.limit)) table (state g.S.Store c.args.transaction.now) (state g.S.Store c.page.new.self) c.in-Err.error c.read_refusal.result it.kept it.rests it.reads
    (λ clean. rw c.as_str.ensures.same at (it.refused clean)) c.read_refusal.ensures
