-- Two lists that are compared element by element.
use Rattle.std.proofs.Common.{◌≡◌, ℕ, ◌<◌, List, length, map, get_or, sym, ap, ◌∙◌}
use Rattle.std.proofs.lemmas.List.{get_or-map}

-- where what is made of each element is the same, so it is at each index
pub same_at : {X Y Z : Type 0} (f : X → Z) (g : Y → Z) (xs : List X) (ys : List Y) (i : ℕ) (d : X) (e : Y) → i < length xs → i < length ys
    → map f xs ≡ map g ys → f (get_or xs i d) ≡ g (get_or ys i e)
same_at f g xs ys i d e in_xs in_ys same =
    sym (get_or-map f xs i d (f d) in_xs) ∙ ap (λ zs. get_or zs i (f d)) same ∙ get_or-map g ys i e (f d) in_ys
