-- `stored_row::defined_row`: the invariant of the loop at `field`, the clauses `refused` and `found`.
use Rattle.std.proofs.Common.{◌≡◌, ◌++◌, ◌∷◌, [], List, map, length, refl, sym, ap, ◌∙◌, append_assoc, inl, arith}
use Rattle.std.proofs.lemmas.List.{append-nil, map-append, nil_from_length}
use Rattle.cs_value.specs.declared.value.OwnedField.{OwnedField}
use Rattle.cs_value.specs.declared.value.OwnedField.TheVariants.{Undefined, Defined}
use Rattle.cs_store_encoding.proofs.StoredRowLemmas.{no_row_image}
use Rattle.cs_store_encoding.proofs.stored_row.defined_row.Goals as goal

pub returns-in-Undefined-clause-refused : goal.returns-in-Undefined-clause-refused
returns-in-Undefined-clause-refused c =
    let values = c.loop-field.values.items in
    let left = c.next.new.self.rest.items in
    let here : c.loop-field.field-iterator.rest.items ≡ Undefined ∷ left = c.in-Some.ensures.steps.0 ∙ ap (λ (f : OwnedField). f ∷ left) c.in-Undefined.is in
    let image = ap (λ (l : List OwnedField). map Defined values ++ l) (sym here) ∙ c.loop-field.invariant.so_far in
    inl (refl, λ row e. no_row_image values left row (image ∙ e))

pub loop-field-preserved : goal.loop-field-preserved
loop-field-preserved c =
    let values = c.loop-field.values.items in
    let left = c.next.new.self.rest.items in
    let value = c.in-Defined.value in
    let here : c.loop-field.field-iterator.rest.items ≡ Defined value ∷ left = c.in-Some.ensures.steps.0 ∙ ap (λ (f : OwnedField). f ∷ left) c.in-Defined.is in
    record {
      so_far = rw (c.in_ok-push-in-Defined.ensures.items, map-append, append_assoc) (ap (λ (l : List OwnedField). map Defined values ++ l) (sym here) ∙ c.loop-field.invariant.so_far);
      left = omega (arith, c.in-Some.ensures.steps.1, ap (λ (l : List OwnedField). length l) here, c.loop-field.invariant.left);
    }

pub returns-clause-found : goal.returns-clause-found
returns-clause-found c =
    let values = c.loop-field.values.items in
    let none : c.loop-field.field-iterator.rest.items ≡ [] = nil_from_length _ (omega (arith, c.in-None.ensures.steps.0, c.loop-field.invariant.left)) in
    rw c.new.ensures (sym c.loop-field.invariant.so_far ∙ ap (λ (l : List OwnedField). map Defined values ++ l) none ∙ append-nil (map Defined values))
