-- What is found of a text in what two lists make together.
use Rattle.std.proofs.Common.{◌≡◌, ◌≢◌, ℕ, nat_eq, Bool, true, false, cond, List, [], ◌∷◌, Option, Some, None, All, refl, sym, ap, ◌∙◌, subst}
use Rattle.std.specs.Prelude.{IfSome, is_none, filter, filter_map}
use Rattle.std.specs.List.{cons_option}
use Rattle.std.specs.Option.{option_and_then, option_or}
use Rattle.std.specs.Cmp.Lexicographic.{pointwise, same_text}
use Rattle.std.proofs.lemmas.List.Elements.{All-head, All-tail}
use Rattle.std.proofs.lemmas.List.Folds.{find-append}
use Rattle.cs_value.proofs.ListLemmas.{AllPairs-head, AllPairs-tail}
use Rattle.cs_group.specs.Joining.{with_text, is_new, outcome, joined_by}
use Rattle.cs_group.proofs.TextLemmas.{Once, with_text-none, with_text-found}

-- what a thing that is found, or none, makes with another that is found, or none
abbrev pub joined_found : {X : Type 0} → (X → Option X → Option X) → Option X → Option X → Option X
joined_found join None other = other
joined_found join (Some x) other = join x other

-- the second, where the first is not there
abbrev unless_found : {X : Type 0} → Option X → Option X → Option X
unless_found None other = other
unless_found (Some x) other = None

module _ {X : Type 0} (text_of : X → List ℕ) (t : List ℕ) where
  abbrev found : List X → Option X
  found xs = with_text text_of xs t

  abbrev is_it : X → Bool
  is_it x = pointwise nat_eq (text_of x) t

  -- things of one text are it alike
  is_it_as : (x z : X) → text_of z ≡ text_of x → is_it z ≡ is_it x
  is_it_as x z same = ap (λ (s : List ℕ). pointwise nat_eq s t) same

  -- of things that are made each of one of the same text, that of the thing of the text
  module _ (made : X → Option X) where
    abbrev Keeps : X → Type 0
    Keeps x = IfSome (made x) (λ z. text_of z ≡ text_of x)

    found_made : (xs : List X) → All Keeps xs → Once text_of xs → found (filter_map made xs) ≡ option_and_then made (found xs)
    found_made [] keeps once = refl
    found_made (x ∷ xs) keeps once =
        at (is_it x) refl (made x) refl (All-head Keeps x xs keeps) (found_made xs (All-tail Keeps x xs keeps) (AllPairs-tail (λ x y. text_of x ≢ text_of y) x xs once))
      where
        others : is_it x ≡ true → found xs ≡ None
        others is = with_text-none text_of xs t (λ k d lt same. AllPairs-head (λ x y. text_of x ≢ text_of y) x xs once k d lt (same_text (text_of x) t (sym is) ∙ sym same))

        at : (b : Bool) → is_it x ≡ b → (o : Option X) → made x ≡ o → IfSome o (λ z. text_of z ≡ text_of x) → found (filter_map made xs) ≡ option_and_then made (found xs)
            → found (cons_option o (filter_map made xs)) ≡ option_and_then made (cond b (Some x) (found xs))
        at true is None made_is same rest = rest ∙ ap (option_and_then made) (others is) ∙ sym made_is
        at true is (Some z) made_is same rest = rw (is_it_as x z same ∙ is) (sym made_is)
        at false is None made_is same rest = rest
        at false is (Some z) made_is same rest = rw (is_it_as x z same ∙ is) rest

  -- of the things whose text another list has not
  found_new : (first second : List X) → found (filter (is_new text_of first) second) ≡ unless_found (found first) (found second)
  found_new first [] = none (found first)
    where
      none : (o : Option X) → None ≡ unless_found o None
      none None = refl
      none (Some x) = refl
  found_new first (y ∷ ys) = at (is_it y) refl (found_new first ys)
    where
      rest : List X
      rest = filter (is_new text_of first) ys

      here : (o : Option X) → is_it y ≡ true → found rest ≡ unless_found o (found ys) → found (cond (is_none o) (y ∷ rest) rest) ≡ unless_found o (Some y)
      here None is others = rw is refl
      here (Some x) is others = others

      behind : (b : Bool) → is_it y ≡ false → found rest ≡ unless_found (found first) (found ys) → found (cond b (y ∷ rest) rest) ≡ unless_found (found first) (found ys)
      behind true is others = rw is others
      behind false is others = others

      at : (b : Bool) → is_it y ≡ b → found rest ≡ unless_found (found first) (found ys)
          → found (cond (is_new text_of first y) (y ∷ rest) rest) ≡ unless_found (found first) (cond b (Some y) (found ys))
      at true is others = rw (same_text (text_of y) t (sym is)) (here (found first) is others)
      at false is others = behind (is_new text_of first y) is others

  -- what is found has the text
  found_has_text : (xs : List X) (x : X) → found xs ≡ Some x → text_of x ≡ t
  found_has_text xs x is =
      let h : IfSome (found xs) (λ z. Unit {0} × (text_of z ≡ t)) = with_text-found text_of (λ z. Unit {0}) xs t (λ k d lt. tt) in
      (subst (λ (o : Option X). IfSome o (λ z. Unit {0} × (text_of z ≡ t))) is h).1

  -- what is found in what two lists make is made of what is found in each
  module _ (join : X → Option X → Option X) (first second : List X) where
    or_none : (o : Option X) → option_or o None ≡ o
    or_none None = refl
    or_none (Some x) = refl

    by_first : (o : Option X) → found first ≡ o → option_or (option_and_then (outcome text_of join second) o) (unless_found o (found second)) ≡ joined_found join o (found second)
    by_first None is = refl
    by_first (Some x) is = rw (found_has_text first x is) (or_none (join x (found second)))

    pub found_joined : All (λ x. IfSome (outcome text_of join second x) (λ z. text_of z ≡ text_of x)) first → Once text_of first
        → found (joined_by text_of join first second) ≡ joined_found join (found first) (found second)
    found_joined keeps once =
        find-append is_it (filter_map (outcome text_of join second) first) (filter (is_new text_of first) second)
        ∙ rw (found_made (outcome text_of join second) first keeps once, found_new first second) (by_first (found first) refl)
