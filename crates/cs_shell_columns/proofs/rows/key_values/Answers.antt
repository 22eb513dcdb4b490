-- `rows::key_values`: the invariant of the loop at `name`.
use Rattle.std.proofs.Common.{map, [], Some, get_or, refl, sym, ap, ◌∙◌, arith}
use Rattle.std.specs.Option.{option_map, option_copied}
use Rattle.cs_shell_grammar.specs.Commands.{assignment_of}
use Rattle.cs_shell_columns.specs.Rows.{assigned}
use Rattle.cs_shell_columns.proofs.NameLemmas.{lent}
use Rattle.cs_shell_columns.proofs.RowLemmas.{lent_value, found_value, not_named, value_named}
use Rattle.cs_shell_columns.proofs.rows.key_values.Goals as goal

pub loop-name-preserved-in_default : goal.loop-name-preserved-in_default
loop-name-preserved-in_default c =
    let conditions = map assignment_of c.args.conditions.now in
    let names = c.deref-name-items.result.now in
    let i = c.loop-name.name-index in
    let name = (get_or names i (lent [])).now in
    let found = found_value conditions c.in_ok-assigned.assigned c.in_ok-assigned.ensures name name refl (option_copied c.get.result) c.get.ensures.value in
    not_named (assigned conditions) names i (lent []) (omega arith) (sym found ∙ ap (λ o. option_map lent_value (option_copied o)) c.in_default.is) _ c.loop-name.invariant

pub loop-name-preserved : goal.loop-name-preserved
loop-name-preserved c =
    let conditions = map assignment_of c.args.conditions.now in
    let names = c.deref-name-items.result.now in
    let i = c.loop-name.name-index in
    let name = (get_or names i (lent [])).now in
    let found = found_value conditions c.in_ok-assigned.assigned c.in_ok-assigned.ensures name name refl (option_copied c.get.result) c.get.ensures.value in
    value_named (assigned conditions) names i (lent []) (omega arith) _
    (sym found ∙ ap (λ o. option_map lent_value (option_copied o)) c.in-Some.is ∙ ap Some (sym c.in_ok-copy.ensures)) _ _ c.in_ok-push.ensures.items c.loop-name.invariant
