-- `schema::rules_of`: the invariant of the loop at `column`, what it ensures.
use Rattle.std.proofs.Common.{◌≡◌, ◌||◌, ◌++◌, ◌∷◌, [], List, Bool, false, get_or, sym, ap, ◌∙◌, arith}
use Rattle.std.proofs.lemmas.List.{take_more, take_all}
use Rattle.cs_rows.specs.Editing.{either}
use Rattle.cs_rows.proofs.RuleLemmas.{either_length, either_at}
use Rattle.cs_rows.proofs.schema.rules_of.Goals as goal
use Rattle.cs_rows.proofs.schema.rules_of.Goals.{then-is_marked, else-is_marked}

pub loop-column-preserved : goal.loop-column-preserved
loop-column-preserved c =
    let keys = c.args.keys.now in
    let refuses = c.args.refuses.now in
    let i = c.loop-column.column in
    let rules = either keys refuses in
    let here : c.if-is_marked.push ≡ (get_or keys i false || get_or refuses i false) = elim c.if-is_marked.branch [
      | then-is_marked w ↦ w.push-is ∙ w.if-is_marked.true ∙ sym (ap (λ b. b || get_or refuses i false) (sym c.is_marked.ensures ∙ w.if-is_marked.true))
      | else-is_marked w ↦ w.push-is ∙ sym (ap (λ b. b || get_or refuses i false) (sym c.is_marked.ensures ∙ w.if-is_marked.false))
    ] in
    rw (c.in_ok-push.ensures.items, here, ← either_at keys refuses i c.loop-column-test.true, take_more rules i false (omega (arith, either_length keys refuses)))
    (ap (λ (l : List Bool). l ++ get_or rules i false ∷ []) c.loop-column.invariant)

pub returns : goal.returns
returns c =
    let keys = c.args.keys.now in
    let refuses = c.args.refuses.now in
    c.loop-column.invariant ∙ take_all c.loop-column.column (either keys refuses) (omega (arith, either_length keys refuses))
