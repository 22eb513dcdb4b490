-- `columns::declaration_of`: the three lists are those of all columns.
use Rattle.std.proofs.Common.{◌≡◌, ◌≤◌, List, map, take, length, ap, ◌∙◌}
use Rattle.std.proofs.lemmas.List.{take_all}
use Rattle.cs_calls_parts.specs.declared.lists.Column.{Column}
use Rattle.cs_calls_conversions.proofs.ColumnLemmas.{declares}
use Rattle.cs_calls_conversions.proofs.columns.declaration_of.Goals as goal

pub returns : goal.returns
returns c =
    let columns = c.args.columns.now in
    let past : length columns ≤ c.loop-column.column-index = rw c.as_slice-column-items.ensures at c.loop-column-test.false in
    let all : take c.loop-column.column-index columns ≡ columns = take_all c.loop-column.column-index columns past in
    declares c.loop-column.names.items c.loop-column.keys.items c.loop-column.refuses.items columns
    (c.loop-column.invariant.0 ∙ ap (λ (l : List Column). map (λ c. c.name) l) all)
    (c.loop-column.invariant.1 ∙ ap (λ (l : List Column). map (λ c. c.is_key) l) all)
    (c.loop-column.invariant.2 ∙ ap (λ (l : List Column). map (λ c. c.refuses_null) l) all)
