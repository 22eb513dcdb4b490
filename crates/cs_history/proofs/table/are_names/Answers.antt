-- `table::are_names`: what it ensures.
use Rattle.std.proofs.Common.{◌≡◌, ◌≤◌, ◌<◌, Bool, true, false, not, List, [], ◌∷◌, length, map, string_bytes, refl, sym, ap, ◌∙◌, arith}
use Rattle.std.specs.Prelude.{get_or}
use Rattle.std.specs.Cmp.Lexicographic.{same_text}
use Rattle.std.specs.Prelude.{codes}
use Rattle.cs_history.specs.Stored.{history_schema}
use Rattle.cs_history.proofs.table.are_names.Goals as goal

-- a list of three has these items
three_items : {X : Type 0} (xs : List X) (a b c : X) → 3 ≤ length xs → length xs < 4 → a ≡ get_or xs 0 a → b ≡ get_or xs 1 b → c ≡ get_or xs 2 c → xs ≡ a ∷ b ∷ c ∷ []
three_items [] a b c least below is_a is_b is_c = absurd (omega arith)
three_items (x ∷ []) a b c least below is_a is_b is_c = absurd (omega arith)
three_items (x ∷ y ∷ []) a b c least below is_a is_b is_c = absurd (omega arith)
three_items (x ∷ y ∷ z ∷ []) a b c least below is_a is_b is_c = λ i. sym is_a i ∷ sym is_b i ∷ sym is_c i ∷ []
three_items (x ∷ y ∷ z ∷ w ∷ xs) a b c least below is_a is_b is_c = absurd (omega arith)

not_false : (b : Bool) → not b ≡ false → b ≡ true
not_false true is = refl
not_false false is = sym is

pub returns : goal.returns
returns c = (
  λ is.
      let items = three_items c.args.columns.now c.action-item.result c.label-item.result c.changeset-item.result c.in-len3.len_at_least c.in-len3.len_below c.action-item.is c.label-item.is c.changeset-item.is in
      let one = sym c.as_str.ensures.value ∙ same_text c.as_str.result.now _ (sym (not_false _ (sym c.ne.ensures ∙ c.if-ne.false))) in
      let two = sym c.as_str-2.ensures.value ∙ same_text c.as_str-2.result.now _ (sym (not_false _ (sym c.ne-2.ensures ∙ c.if-ne-2.false))) in
      let three = sym c.as_str-3.ensures.value ∙ same_text c.as_str-3.result.now _ (sym is ∙ c.eq.ensures) in
      ap (map string_bytes) items ∙ (λ i. one i ∷ two i ∷ three i ∷ []),
  λ same.
      let items = three_items c.args.columns.now c.action-item.result c.label-item.result c.changeset-item.result c.in-len3.len_at_least c.in-len3.len_below c.action-item.is c.label-item.is c.changeset-item.is in
      let texts : string_bytes c.action-item.result ∷ string_bytes c.label-item.result ∷ string_bytes c.changeset-item.result ∷ [] ≡ history_schema.columns = sym (ap (map string_bytes) items) ∙ same in
      let third : string_bytes c.changeset-item.result ≡ codes "changeset" = cc in
      c.eq.ensures ∙ rw (c.as_str-3.ensures.value ∙ third) refl,
)
