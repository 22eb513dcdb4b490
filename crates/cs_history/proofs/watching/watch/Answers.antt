-- `watching::watch`: what it ensures.
use Rattle.std.proofs.Common.{◌≡◌, List, ℕ, Some, map, take, string_bytes, refl, sym, ap, subst, ◌∙◌}
use Rattle.sqlite.specs.Held.{state}
use Rattle.cs_value.specs.State.{SchemaData, State}
use Rattle.cs_value.proofs.ListLemmas.{map_more_at}
use Rattle.std.specs.FinMap.{keys}
use Rattle.std.proofs.lemmas.List.{take_all}
use Rattle.cs_store.specs.Laws.{keeps_itself, keeps_then, was_clean}
use Rattle.cs_store.specs.Store.{tables_in}
use Rattle.cs_history.specs.Watching.{MayAttach, Watches}
use Rattle.cs_history.proofs.WatchLemmas.{WatchesNames, watches_all, watches_next, watches_none}
use Rattle.cs_history.proofs.watching.watch.Goals as goal

pub returns-in_err-names-clause-kept : goal.returns-in_err-names-clause-kept
returns-in_err-names-clause-kept g c = keeps_then c.in_ok-schema.ensures.kept c.tables.ensures.kept

pub loop-table-init : goal.loop-table-init
loop-table-init g c = record { kept = keeps_itself; same = λ clean. refl; watches = λ clean. rw c.new-session.ensures (watches_none (tables_in (state g.S.Store c.tables.new.self).now)) }

pub returns-in_err-watch_table-clause-kept : goal.returns-in_err-watch_table-clause-kept
returns-in_err-watch_table-clause-kept g c = keeps_then (keeps_then (keeps_then c.in_ok-schema.ensures.kept c.in_ok-names.ensures.kept) c.loop-table.invariant.kept) c.watch_table.ensures.kept

pub loop-table-preserved : goal.loop-table-preserved
loop-table-preserved g c =
    let first = state g.S.Store c.tables.new.self in
    let mid = state g.S.Store c.loop-table.store in
    let new = state g.S.Store c.watch_table.new.store in
    record {
      kept = keeps_then c.loop-table.invariant.kept c.watch_table.ensures.kept;
      same = λ clean. c.in_ok-watch_table.ensures.read clean ∙ c.loop-table.invariant.same (was_clean mid new c.watch_table.ensures.kept.crash clean);
      watches = λ clean.
          let was = was_clean mid new c.watch_table.ensures.kept.crash clean in
          let same : tables_in mid.now ≡ tables_in first.now = ap tables_in (c.loop-table.invariant.same was) in
          let name : c.as_str.result.now ≡ string_bytes c.table-item.result = c.as_str.ensures.value in
          let may = rw name at (subst (λ (s : State). MayAttach s c.as_str.result.now c.loop-table.session c.watch_table.new.session) same (c.in_ok-watch_table.ensures.watched clean)) in
          rw (map_more_at c.deref-table-items.result.now c.loop-table.table-index c.table-item.result c.loop-table-test.true c.table-item.is string_bytes)
          (watches_next (tables_in first.now) (map string_bytes (take c.loop-table.table-index c.deref-table-items.result.now)) (string_bytes c.table-item.result) c.loop-table.session c.watch_table.new.session (c.loop-table.invariant.watches was) may);
    }

pub returns-clause-watches : goal.returns-clause-watches
returns-clause-watches g c clean =
    let first = state g.S.Store c.tables.new.self in
    let read = state g.S.Store c.schema.new.self in
    let before = was_clean first (state g.S.Store c.loop-table.store) c.loop-table.invariant.kept.crash clean in
    let earlier = was_clean read first c.in_ok-names.ensures.kept.crash before in
    let same : tables_in first.now ≡ tables_in (state g.S.Store c.args.store.now).now = ap tables_in (c.in_ok-names.ensures.same before ∙ c.in_ok-schema.ensures.same earlier) in
    let whole : map string_bytes (take c.loop-table.table-index c.deref-table-items.result.now) ≡ keys (tables_in first.now) =
    ap (map string_bytes) (take_all c.loop-table.table-index c.deref-table-items.result.now c.loop-table-test.false ∙ c.deref-table-items.ensures.value) ∙ c.in_ok-names.ensures.listed before
    ∙ ap (λ (s : State). keys s) (sym (ap tables_in (c.in_ok-names.ensures.same before))) in
    subst (λ (s : State). Watches s c.loop-table.session) same
    (watches_all (tables_in first.now) c.loop-table.session (subst (λ (names : List (List ℕ)). WatchesNames (tables_in first.now) names c.loop-table.session) whole (c.loop-table.invariant.watches clean)))

pub returns-clause-history : goal.returns-clause-history
returns-clause-history g c clean =
    let first = state g.S.Store c.tables.new.self in
    let read = state g.S.Store c.schema.new.self in
    let before = was_clean first (state g.S.Store c.loop-table.store) c.loop-table.invariant.kept.crash clean in
    let earlier = was_clean read first c.in_ok-names.ensures.kept.crash before in
    sym (c.in_ok-schema.ensures.found earlier) ∙ c.in-Some.is ∙ ap (λ (s : SchemaData). Some s) (c.in_ok-check_schema.ensures.checked.0 refl)

pub returns-clause-read : goal.returns-clause-read
returns-clause-read g c clean =
    let first = state g.S.Store c.tables.new.self in
    let read = state g.S.Store c.schema.new.self in
    let before = was_clean first (state g.S.Store c.loop-table.store) c.loop-table.invariant.kept.crash clean in
    c.loop-table.invariant.same clean ∙ c.in_ok-names.ensures.same before ∙ c.in_ok-schema.ensures.same (was_clean read first c.in_ok-names.ensures.kept.crash before)

pub returns-clause-kept : goal.returns-clause-kept
returns-clause-kept g c = keeps_then (keeps_then c.in_ok-schema.ensures.kept c.in_ok-names.ensures.kept) c.loop-table.invariant.kept
