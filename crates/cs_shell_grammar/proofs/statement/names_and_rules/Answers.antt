-- `statement::names_and_rules`: at the end no column is left.
use Rattle.std.proofs.Common.{◌≡◌, [], ◌++◌, ap, sym, ◌∙◌, arith}
use Rattle.std.proofs.lemmas.List.{nil_from_length, append-nil}
use Rattle.std.specs.Vec.Iter.{into_iter_items}
use Rattle.cs_shell_grammar.proofs.ColumnLemmas.{names_and_rules_are}
use Rattle.cs_shell_grammar.proofs.statement.names_and_rules.Goals as goal

pub returns : goal.returns
returns c =
    let none : into_iter_items c.loop-column.column-iterator ≡ [] = nil_from_length _ (omega (arith, c.in-None.ensures.steps.0)) in
    let all = sym (append-nil c.loop-column.yielded) ∙ ap (λ left. c.loop-column.yielded ++ left) (sym none) ∙ c.loop-column.invariant.whole in
    names_and_rules_are c.args.columns.items c.loop-column.yielded _ _ all c.loop-column.invariant.names c.loop-column.invariant.refuses
