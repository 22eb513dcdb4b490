-- `key::key_values`: the next value is that of a key column, or it is left out.
use Rattle.std.proofs.Common.{◌≡◌, ◌++◌, ◌∷◌, [], List, Vec, Global, get_or, take, sym, ap, ◌∙◌}
use Rattle.cs_value.specs.Key.{key_columns}
use Rattle.cs_value.specs.declared.value.OwnedValue.{OwnedValue}
use Rattle.cs_calls_conversions.proofs.KeyLemmas.{no_columns, more_kept, more_left}
use Rattle.cs_calls_conversions.proofs.key.key_values.Goals as goal
use Rattle.cs_calls_conversions.proofs.key.key_values.Goals.{then-is_key+in_ok-copy+in_ok-push, else-is_key}

pub loop-column-init : goal.loop-column-init
loop-column-init c = c.new-values.ensures.items ∙ sym (no_columns c.args.flags.now)

pub loop-column-preserved : goal.loop-column-preserved
loop-column-preserved c =
    let flags = c.args.flags.now in
    let row = c.args.row.now in
    let i = c.loop-column.column in
    let x = c.value-item.result in
    let here : x ≡ get_or row i x = rw c.values-value-items.ensures.same at c.value-item.is in
    let within = rw c.values-value-items.ensures.same at c.loop-column-test.true in
    elim c.if-is_key.branch [
      | then-is_key+in_ok-copy+in_ok-push w ↦ ap (λ (v : Vec OwnedValue Global). v.items) w.values-is ∙ w.in_ok-push.ensures.items ∙ ap (λ (l : List OwnedValue). l ++ w.in_ok-copy.field-0 ∷ []) c.loop-column.invariant ∙ ap (λ (v : OwnedValue). key_columns flags (take i row) ++ v ∷ []) w.in_ok-copy.ensures ∙ sym (more_kept flags row i x within here (sym c.is_key.ensures ∙ w.if-is_key.true))
      | else-is_key w ↦ ap (λ (v : Vec OwnedValue Global). v.items) w.values-is ∙ c.loop-column.invariant ∙ sym (more_left flags row i x within here (sym c.is_key.ensures ∙ w.if-is_key.false))
    ]
