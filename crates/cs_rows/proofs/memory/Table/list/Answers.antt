-- `memory::Table::list`: what it ensures.
use Rattle.std.proofs.Common.{◌≡◌, ◌∙◌, ap, sym, refl, List, [], ◌∷◌, ◌++◌, map as map_list, append-nil, Bor}
use Rattle.std.specs.FinMap as map
use Rattle.std.proofs.lemmas.Map.Iter.{rest_so_far}
use Rattle.cs_value.specs.declared.key.Key.{Key}
use Rattle.cs_value.specs.declared.row.Row.{Row}
use Rattle.cs_value.specs.State.{TableData}
use Rattle.cs_value.proofs.ByteMaps.{seen, seen_entries}
use Rattle.cs_rows.proofs.memory.Table.list.Goals as goal

-- the values of the entries that are seen
seen_values : (es : List (Key × Row)) → map_list (λ e. e.1) (map_list (seen (λ k. k) (λ v. v)) es) ≡ map_list (λ e. e.1) es
seen_values [] = refl
seen_values (e ∷ es) = ap (λ vs. e.1 ∷ vs) (seen_values es)

pub returns : goal.returns
returns c =
    let es = c.self.inside.rows.entries in
    let all : c.values-row-items.result ≡ map_list (λ row. row.now) c.loop-row.yielded =
    sym c.into_iter-row-iterator.ensures.into_iter_gives
    ∙ rest_so_far (λ (row : Bor Row). row.now) c.loop-row.yielded c.into_iter-row-iterator.result c.loop-row.row-iterator c.loop-row.yielded_by
    ∙ ap (λ rest. map_list (λ row. row.now) c.loop-row.yielded ++ rest) c.in-None.ensures.steps.0
    ∙ append-nil _ in
    c.loop-row.invariant ∙ sym all ∙ c.values-row-items.ensures.rest ∙ sym (seen_values es)
    ∙ ap (map_list (λ e. e.1)) (sym (seen_entries (λ k. k) (λ v. v) es c.values-row-items.ensures.ordered))
    ∙ ap (λ (t : TableData). map.values t.rows) c.self.view_is
