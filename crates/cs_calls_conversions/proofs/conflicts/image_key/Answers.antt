-- `conflicts::image_key`: the next field is of a key column, or it is left out.
use Rattle.std.proofs.Common.{◌≡◌, ◌++◌, ◌∷◌, [], List, Vec, Global, get_or, take, refl, sym, ap, ◌∙◌}
use Rattle.cs_value.specs.Key.{key_columns}
use Rattle.cs_value.specs.declared.value.OwnedField.{OwnedField}
use Rattle.cs_value.specs.declared.value.OwnedField.TheVariants.{Undefined, Defined}
use Rattle.cs_value.specs.declared.value.OwnedValue.{OwnedValue}
use Rattle.cs_calls_conversions.specs.Conflicts.{values_of}
use Rattle.cs_calls_conversions.proofs.KeyLemmas.{no_columns, more_kept, more_left}
use Rattle.cs_calls_conversions.proofs.conflicts.image_key.Goals as goal
use Rattle.cs_calls_conversions.proofs.conflicts.image_key.Goals.{then-is_key+in_ok-push_value, else-is_key}

-- the values of fields, and of one more
values_more : (fields : List OwnedField) (field : OwnedField) → values_of (fields ++ field ∷ []) ≡ values_of fields ++ values_of (field ∷ [])
values_more [] field = refl
values_more (Undefined ∷ fields) field = values_more fields field
values_more (Defined value ∷ fields) field = ap (λ (l : List OwnedValue). value ∷ l) (values_more fields field)

pub loop-column-init : goal.loop-column-init
loop-column-init c = c.new-values.ensures.items ∙ sym (ap (λ (l : List OwnedField). values_of l) (no_columns c.args.flags.now))

pub loop-column-preserved : goal.loop-column-preserved
loop-column-preserved c =
    let flags = c.args.flags.now in
    let fields = c.args.image.now in
    let i = c.loop-column.column in
    let x = c.field-item.result in
    let here : x ≡ get_or fields i x = rw c.fields-field-items.ensures.same at c.field-item.is in
    let within = rw c.fields-field-items.ensures.same at c.loop-column-test.true in
    elim c.if-is_key.branch [
      | then-is_key+in_ok-push_value w ↦
          ap (λ (v : Vec OwnedValue Global). v.items) w.values-is ∙ w.in_ok-push_value.ensures
          ∙ ap (λ (l : List OwnedValue). l ++ values_of (x ∷ [])) c.loop-column.invariant
          ∙ sym (values_more (key_columns flags (take i fields)) x)
          ∙ sym (ap (λ (l : List OwnedField). values_of l) (more_kept flags fields i x within here (sym c.is_key.ensures ∙ w.if-is_key.true)))
      | else-is_key w ↦
          ap (λ (v : Vec OwnedValue Global). v.items) w.values-is ∙ c.loop-column.invariant
          ∙ sym (ap (λ (l : List OwnedField). values_of l) (more_left flags fields i x within here (sym c.is_key.ensures ∙ w.if-is_key.false)))
    ]
