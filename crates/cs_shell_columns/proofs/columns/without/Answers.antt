-- `columns::without`: the invariant of the loop at `name`, and what a name that is not there shows.
use Rattle.std.proofs.Common.{◌<◌, [], length, get_or, sym, ◌∙◌, arith}
use Rattle.std.proofs.lemmas.List.{get_or-map, length-map}
use Rattle.cs_shell_columns.specs.Names.{texts_of}
use Rattle.cs_shell_columns.proofs.NameLemmas.{lent}
use Rattle.cs_shell_columns.proofs.ColumnLemmas.{misnamed, TakenSoFar-more}
use Rattle.cs_shell_columns.proofs.columns.without.Goals as goal

pub returns-then-not-remove-clause-refused : goal.returns-then-not-remove-clause-refused
returns-then-not-remove-clause-refused c =
    let names = c.args.names.now in
    let i = c.loop-name.name-index in
    let name = get_or names i (lent []) in
    let within : i < length (texts_of names) = rw length-map (omega arith) in
    misnamed (texts_of c.args.columns.now) (texts_of names) i c.loop-name.others name within (get_or-map (λ text. text.now) names i (lent []) name.now (omega arith)) c.loop-name.invariant
    (sym c.remove.ensures.test ∙ c.if-not-remove.true)

pub loop-name-preserved : goal.loop-name-preserved
loop-name-preserved c =
    let names = c.args.names.now in
    let i = c.loop-name.name-index in
    let name = get_or names i (lent []) in
    let within : i < length (texts_of names) = rw length-map (omega arith) in
    TakenSoFar-more (texts_of c.args.columns.now) (texts_of names) i c.loop-name.others name within (get_or-map (λ text. text.now) names i (lent []) name.now (omega arith)) c.loop-name.invariant
    c.remove.new.self (sym c.remove.ensures.test ∙ c.if-not-remove.false) c.remove.ensures.updates
