-- `names::names_of_key`: the pair of an iteration is the next flag with the next column.
use Rattle.std.proofs.Common.{◌∷◌, [], ◌++◌, length, ap, ◌∙◌}
use Rattle.std.proofs.lemmas.Slice.Zip.{zip_turn}
use Rattle.std.proofs.lemmas.List.{length_push, map-append}
use Rattle.cs_shell_columns.specs.Names.{texts_of}
use Rattle.cs_shell_columns.proofs.RowLemmas.{key_name_more, other_name_more}
use Rattle.cs_shell_columns.proofs.names.names_of_key.Goals as goal

pub loop-flag-preserved-then-flag-eq0 : goal.loop-flag-preserved-then-flag-eq0
loop-flag-preserved-then-flag-eq0 c =
    let turn = zip_turn c.flags.result.now c.columns.result.now c.loop-flag.yielded _ _ c.next.new.self _ (cc) (cc) c.loop-flag.yielded_by _ c.in-Some.is c.next.ensures.steps in
    let column = c.in-Some.column.now in
    rw (length_push c.loop-flag.yielded (c.in-Some.flag, c.in-Some.column))
    (other_name_more _ _ _ _ c.flags.ensures.same c.columns.ensures (length c.loop-flag.yielded) c.in-Some.flag.now column turn.0 turn.1 (turn.2 0) (turn.3 column) c.if-flag-eq0.true _ c.loop-flag.invariant)

pub loop-flag-preserved : goal.loop-flag-preserved
loop-flag-preserved c =
    let turn = zip_turn c.flags.result.now c.columns.result.now c.loop-flag.yielded _ _ c.next.new.self _ (cc) (cc) c.loop-flag.yielded_by _ c.in-Some.is c.next.ensures.steps in
    let column = c.in-Some.column.now in
    rw (length_push c.loop-flag.yielded (c.in-Some.flag, c.in-Some.column)) (
    ap texts_of c.in_ok-push.ensures.items
    ∙ map-append (λ text. text.now) c.loop-flag.texts.items (c.as_str.result ∷ [])
    ∙ ap (λ name. texts_of c.loop-flag.texts.items ++ name ∷ []) c.as_str.ensures.value
    ∙ key_name_more _ _ _ _ c.flags.ensures.same c.columns.ensures (length c.loop-flag.yielded) c.in-Some.flag.now column turn.0 turn.1 (turn.2 0) (turn.3 column) c.if-flag-eq0.false _ c.loop-flag.invariant)
