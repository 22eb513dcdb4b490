-- The comparison of two lists, element by element.
use Rattle.std.proofs.Common.{◌≡◌, ℕ, ◌+◌, ◌<◌, ◌≤◌, List, [], ◌∷◌, length, get_or, drop, refl, sym, ap, ◌∙◌, arith}
use Rattle.std.proofs.lemmas.List.{drop_all, drop_more, length-drop}
use Rattle.std.specs.Cmp.{nat_cmp_is}
use Rattle.std.specs.Cmp.Lexicographic.{slice_cmp}
use Rattle.std.specs.Ordering.{nat_cmp, ordering_then}
use Rattle.std.specs.declared.cmp.Ordering.{Ordering}
use Rattle.std.specs.declared.cmp.Ordering.TheVariants.{Less, Equal, Greater}

module _ {X : Type 0} (R : X → X → Ordering) (xs ys : List X) (i : ℕ) where
  -- the second list is a prefix of the first
  pub cmp_longer : (x : X) → i < length xs → length ys ≤ i → slice_cmp R (drop i xs) (drop i ys) ≡ Greater
  cmp_longer x lt le = ap (λ (l : List X). slice_cmp R l (drop i ys)) (drop_more xs i x lt) ∙ ap (λ (l : List X). slice_cmp R (get_or xs i x ∷ drop (i + 1) xs) l) (drop_all i ys le)

  -- one element further on
  pub cmp_next : (x y : X) → i < length xs → i < length ys → x ≡ get_or xs i x → y ≡ get_or ys i y
      → slice_cmp R (drop i xs) (drop i ys) ≡ ordering_then (R x y) (slice_cmp R (drop (i + 1) xs) (drop (i + 1) ys))
  cmp_next x y lt within x_is y_is =
      ap (λ (l : List X). slice_cmp R l (drop i ys)) (drop_more xs i x lt ∙ ap (λ (z : X). z ∷ drop (i + 1) xs) (sym x_is))
      ∙ ap (λ (l : List X). slice_cmp R (x ∷ drop (i + 1) xs) l) (drop_more ys i y within ∙ ap (λ (z : X). z ∷ drop (i + 1) ys) (sym y_is))

  -- the first list is a prefix of the second
  pub cmp_rest : i ≡ length xs → i ≤ length ys → slice_cmp R (drop i xs) (drop i ys) ≡ nat_cmp (length xs) (length ys)
  cmp_rest whole le = ap (λ (l : List X). slice_cmp R l (drop i ys)) (drop_all i xs (omega arith)) ∙ rest (drop i ys) refl
    where
      rest : (zs : List X) → zs ≡ drop i ys → slice_cmp R [] zs ≡ nat_cmp (length xs) (length ys)
      rest [] e = nat_cmp_is (length xs) (length ys) Equal (omega (arith, ap length e, length-drop i ys))
      rest (z ∷ zs) e = nat_cmp_is (length xs) (length ys) Less (omega (arith, ap length e, length-drop i ys))
