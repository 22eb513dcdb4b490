-- `rows::assign`: the pair of an iteration is the next column with its former value.
use Rattle.std.proofs.Common.{map, length, ap, ◌∙◌}
use Rattle.std.specs.Iterator.Adapters.{zip_second}
use Rattle.std.specs.Option.{unwrap_or}
use Rattle.std.specs.Slice.Iter.{iter_rest}
use Rattle.std.proofs.lemmas.Slice.Zip.{zip_turn, zip_end}
use Rattle.std.proofs.lemmas.List.{length_push}
use Rattle.cs_shell_grammar.specs.Commands.{assignment_of}
use Rattle.cs_shell_columns.proofs.RowLemmas.{found_value, lent_or, value_more, values_all}
use Rattle.cs_shell_columns.proofs.rows.assign.Goals as goal

pub loop-column-preserved : goal.loop-column-preserved
loop-column-preserved c =
    let assignments = map assignment_of c.args.assignments.now in
    let values = ap (λ z. iter_rest (zip_second z)) c.into_iter-column-iterator.ensures.into_iter_gives ∙ c.zip-column-items.ensures.second.0 in
    let turn = zip_turn c.columns.result.now c.values.result.now c.loop-column.yielded _ _ c.next.new.self _ (cc) values c.loop-column.yielded_by _ c.in-Some.is c.next.ensures.steps in
    let column = c.in-Some.column.now in
    let value = c.in-Some.value.now in
    let found = found_value assignments c.in_ok-assigned.assigned c.in_ok-assigned.ensures c.as_str.result.now _ c.as_str.ensures.value c.copied.result (c.copied.ensures ∙ c.get.ensures.value) in
    let made =
    c.in_ok-copy.ensures ∙ ap (λ v. v.now) c.unwrap_or-value.ensures ∙ lent_or c.copied.result c.in-Some.value
    ∙ ap (λ o. unwrap_or o value) found in
    rw (length_push c.loop-column.yielded (c.in-Some.column, c.in-Some.value))
    (value_more assignments _ _ _ _ c.columns.ensures c.values.ensures.same (length c.loop-column.yielded) column value turn.0 turn.1 (turn.2 column) (turn.3 value) _ _ _ made c.in_ok-push.ensures.items c.loop-column.invariant)

pub returns : goal.returns
returns c =
    let assignments = map assignment_of c.args.assignments.now in
    let values = ap (λ z. iter_rest (zip_second z)) c.into_iter-column-iterator.ensures.into_iter_gives ∙ c.zip-column-items.ensures.second.0 in
    let whole = zip_end c.columns.result.now c.values.result.now c.loop-column.yielded _ _ c.next.new.self _ (cc) values c.loop-column.yielded_by c.in-None.is c.next.ensures.steps in
    c.new.ensures ∙ values_all assignments _ _ _ _ c.columns.ensures c.values.ensures.same (length c.loop-column.yielded) _ whole c.loop-column.invariant
