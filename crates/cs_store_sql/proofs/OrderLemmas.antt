-- Orders of rows: what rises strictly, and texts and blobs in the order of their bytes.
use Rattle.std.proofs.Common.{◌≡◌, ◌≢◌, ℕ, false, List, [], ◌∷◌, refl, ap, ◌∙◌}
use Rattle.std.specs.List.{AllByRecursion}
use Rattle.std.specs.Cmp.{IsTotalOrder}
use Rattle.std.specs.Cmp.Lexicographic.{slice_cmp, texts_ties}
use Rattle.std.specs.Ordering.{nat_cmp, is_lt, is_eq, ordering_then, ordering_reverse}
use Rattle.std.specs.declared.cmp.Ordering.{Ordering}
use Rattle.std.specs.declared.cmp.Ordering.TheVariants.{Less, Equal, Greater}
use Rattle.sqlite_trees.specs.Tree.{IsAscending}
use Rattle.cs_store_sql.proofs.RowLemmas.{same_is}

-- bytes that tie are the same
pub tied_bytes : (s t : List ℕ) → slice_cmp nat_cmp s t ≡ Equal → s ≡ t
tied_bytes s t h = same_is s t (texts_ties s t ∙ ap is_eq h)

-- both of two orders tie where their join does
pub both_tied : (p q : Ordering) → ordering_then p q ≡ Equal → (p ≡ Equal) × (q ≡ Equal)
both_tied Less q h = absurd cc
both_tied Equal q h = (refl, h)
both_tied Greater q h = absurd cc

-- what is not above and does not tie is below
pub below_from : {X : Type 0} (cmp : X → X → Ordering) → IsTotalOrder cmp → (x y : X) → is_lt (cmp y x) ≡ false → cmp x y ≢ Equal → cmp x y ≡ Less
below_from cmp total x y not_above apart = of_order (cmp x y) refl
  where
    of_order : (o : Ordering) → cmp x y ≡ o → o ≡ Less
    of_order Less is = refl
    of_order Equal is = absurd (apart is)
    of_order Greater is = absurd (let above = ap is_lt (total.antisymm y x ∙ ap ordering_reverse is) in cc)

-- two facts of each element and each later one
pub ascending_both : {X : Type 0} (R S : X → X → Type 0) (xs : List X) → IsAscending R xs → IsAscending S xs → IsAscending (λ a b. R a b × S a b) xs
ascending_both R S [] p q = tt
ascending_both {X} R S (x ∷ xs) p q = (pairs xs p.0 q.0, ascending_both R S xs p.1 q.1)
  where
    pairs : (ys : List X) → AllByRecursion (R x) ys → AllByRecursion (S x) ys → AllByRecursion (λ y. R x y × S x y) ys
    pairs [] h k = tt
    pairs (y ∷ ys) h k = ((h.0, k.0), pairs ys h.1 k.1)
