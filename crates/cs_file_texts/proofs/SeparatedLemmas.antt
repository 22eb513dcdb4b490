-- Lemmas on lists of texts with something between each two.
use Rattle.std.proofs.Common.{◌≡◌, ℕ, List, [], ◌∷◌, ◌++◌, refl, sym, ap, ◌∙◌, append_assoc, append-nil, map, take, drop, ◌+◌, ◌<◌, ◌≤◌, length, get_or, length-append, arith}
use Rattle.std.specs.List.{flat_map}
use Rattle.std.proofs.lemmas.List.{map-append, map_more}
use Rattle.std.proofs.lemmas.Grind.{flat_map-append}
use Rattle.cs_value.proofs.ListLemmas.{map_split}
use Rattle.cs_file_texts.specs.Texts.{separated}

-- what comes before a piece after these
abbrev pub lead_of : List ℕ → List (List ℕ) → List ℕ
lead_of between [] = []
lead_of between (piece ∷ pieces) = between

-- pieces after others
abbrev pub behind : List ℕ → List (List ℕ) → List ℕ
behind between pieces = flat_map (λ piece. between ++ piece) pieces

separated-first : (between piece : List ℕ) (pieces : List (List ℕ)) → separated between (piece ∷ pieces) ≡ piece ++ behind between pieces
unfolding separated
separated-first between piece [] = sym (append-nil piece)
separated-first between piece (next ∷ pieces) =
    ap (λ l. (piece ++ between) ++ l) (separated-first between next pieces) ∙ append_assoc piece between (next ++ behind between pieces)
    ∙ ap (λ l. piece ++ l) (sym (append_assoc between next (behind between pieces)))

-- a piece, those before it and those after it
pub separated-at : (between : List ℕ) (before : List (List ℕ)) (piece : List ℕ) (after : List (List ℕ))
    → separated between (before ++ piece ∷ after) ≡ separated between before ++ ((lead_of between before ++ piece) ++ behind between after)
unfolding separated
separated-at between [] piece after = separated-first between piece after
separated-at between (first ∷ before) piece after =
    separated-first between first (before ++ piece ∷ after) ∙ ap (λ l. first ++ l) (flat_map-append (λ p. between ++ p) before (piece ∷ after))
    ∙ sym (append_assoc first (behind between before) ((between ++ piece) ++ behind between after))
    ∙ ap (λ l. l ++ ((between ++ piece) ++ behind between after)) (sym (separated-first between first before))

-- one piece more
pub separated-more : (between : List ℕ) (before : List (List ℕ)) (piece : List ℕ)
    → separated between (before ++ piece ∷ []) ≡ separated between before ++ (lead_of between before ++ piece)
separated-more between before piece = separated-at between before piece [] ∙ ap (λ l. separated between before ++ l) (append-nil (lead_of between before ++ piece))

-- a piece after others leaves the separator for the next
pub lead_of-more : (between : List ℕ) (before : List (List ℕ)) (piece : List ℕ) → lead_of between (before ++ piece ∷ []) ≡ between
lead_of-more between [] piece = refl
lead_of-more between (first ∷ before) piece = refl

-- one element more of a list of texts, after what leads to it
pub separated_step : {X : Type 0} (between : List ℕ) (f : X → List ℕ) (xs : List X) (i : ℕ) (e : X) (lead : List ℕ) → i < length xs → e ≡ get_or xs i e
    → lead ≡ lead_of between (map f (take i xs)) → separated between (map f (take (i + 1) xs)) ≡ separated between (map f (take i xs)) ++ (lead ++ f e)
separated_step between f xs i e lead within is leads =
    let before = map f (take i xs) in
    ap (separated between) (map_more f xs i e within) ∙ separated-more between before (f (get_or xs i e))
    ∙ ap (λ d. separated between before ++ (lead_of between before ++ f d)) (sym is) ∙ ap (λ l. separated between before ++ (l ++ f e)) (sym leads)

-- and all that follows
pub separated_rest : {X : Type 0} (between : List ℕ) (f : X → List ℕ) (xs : List X) (i : ℕ) (e : X) (lead : List ℕ) → i < length xs → e ≡ get_or xs i e
    → lead ≡ lead_of between (map f (take i xs))
    → separated between (map f xs) ≡ separated between (map f (take i xs)) ++ ((lead ++ f e) ++ behind between (map f (drop (i + 1) xs)))
separated_rest between f xs i e lead within is leads =
    let before = map f (take i xs) in
    let after = behind between (map f (drop (i + 1) xs)) in
    ap (separated between) (map_split xs i e within f) ∙ separated-at between before (f (get_or xs i e)) (map f (drop (i + 1) xs))
    ∙ ap (λ d. separated between before ++ ((lead_of between before ++ f d) ++ after)) (sym is)
    ∙ ap (λ l. separated between before ++ ((l ++ f e) ++ after)) (sym leads)

-- what leads to the next element
pub lead_step : {X : Type 0} (between : List ℕ) (f : X → List ℕ) (xs : List X) (i : ℕ) (e : X) → i < length xs → between ≡ lead_of between (map f (take (i + 1) xs))
lead_step between f xs i e within = sym (ap (lead_of between) (map_more f xs i e within) ∙ lead_of-more between (map f (take i xs)) (f (get_or xs i e)))

-- elements that come one after another: those before, one, and those after it
module _ {X : Type 0} (between : List ℕ) (f : X → List ℕ) (before : List X) (e : X) (lead : List ℕ) (leads : lead ≡ lead_of between (map f before)) where
  -- the text with one more
  pub separated_push : separated between (map f (before ++ e ∷ [])) ≡ separated between (map f before) ++ (lead ++ f e)
  separated_push =
      ap (separated between) (map-append f before (e ∷ [])) ∙ separated-more between (map f before) (f e)
      ∙ ap (λ l. separated between (map f before) ++ (l ++ f e)) (sym leads)

  -- and with all that follows
  pub separated_around : (all left after : List X) → all ≡ before ++ left → left ≡ e ∷ after
      → separated between (map f all) ≡ separated between (map f before) ++ ((lead ++ f e) ++ behind between (map f after))
  separated_around all left after whole next =
      ap (λ l. separated between (map f l)) (whole ∙ ap (λ l. before ++ l) next) ∙ ap (separated between) (map-append f before (e ∷ after))
      ∙ separated-at between (map f before) (f e) (map f after)
      ∙ ap (λ l. separated between (map f before) ++ ((l ++ f e) ++ behind between (map f after))) (sym leads)

-- what leads to the next element
pub lead_push : {X : Type 0} (between : List ℕ) (f : X → List ℕ) (before : List X) (e : X) → between ≡ lead_of between (map f (before ++ e ∷ []))
lead_push between f before e = sym (ap (lead_of between) (map-append f before (e ∷ [])) ∙ lead_of-more between (map f before) (f e))

-- one of those that are left is passed
pub passed_one : {X : Type 0} (all before left after : List X) (e : X) → all ≡ before ++ left → left ≡ e ∷ after → all ≡ (before ++ e ∷ []) ++ after
passed_one all before left after e whole next = whole ∙ ap (λ l. before ++ l) next ∙ sym (append_assoc before (e ∷ []) after)

-- and then none is left
pub passed_all : {X : Type 0} (all before left : List X) → all ≡ before ++ left → left ≡ [] → all ≡ before
passed_all all before left whole none = whole ∙ ap (λ l. before ++ l) none ∙ append-nil before

-- none is left where as many were passed as there are
pub none_left : {X : Type 0} (all before left : List X) → all ≡ before ++ left → length all ≤ length before → left ≡ []
none_left all before [] whole within = refl
none_left all before (x ∷ left) whole within = absurd (omega (arith, ap length whole, length-append before (x ∷ left)))
