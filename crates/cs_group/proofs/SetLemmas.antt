-- Texts in a set, each at the place of the thing that has it.
use Rattle.std.proofs.Common.{◌≡◌, ◌≢◌, ◌+◌, ◌<◌, ℕ, Bool, true, false, ◌||◌, List, [], ◌∷◌, ◌++◌, length, get_or, map, take, drop, All, Option, None, Some, refl, sym, ap, ◌∙◌, true≢false, arith}
use Rattle.std.specs.Prelude.{◌↔◌, nat_eq, is_none, is_some, IfSome, IsTrue, position}
use Rattle.std.specs.List.{list_any}
use Rattle.std.specs.Cmp.Lexicographic.{pointwise, same_text, other_text}
use Rattle.std.proofs.lemmas.List.{get_or-map, get_or-take, get_or_default, length-map, length-take-le, map-append, length-drop, drop_more}
use Rattle.std.proofs.lemmas.List.Elements.{All-nil, All-cons, All-head, All-tail}
use Rattle.std.proofs.lemmas.List.Quantifiers.{position-Some}
use Rattle.std.proofs.lemmas.Option.{none-some}
use Rattle.indexmap.specs.IndexSet.{insert_key}
use Rattle.cs_value.proofs.ListLemmas.{take_more_at}
use Rattle.cs_wire.specs.Views.{IsIndexWhere}
use Rattle.cs_group.proofs.TextLemmas.{Once}

-- ---- whether a list has a text

module _ (name : List ℕ) where
  any_mapped : {X : Type 0} (f : X → List ℕ) (xs : List X) → list_any (λ x. pointwise nat_eq name (f x)) xs ≡ list_any (pointwise nat_eq name) (map f xs)
  any_mapped f [] = refl
  any_mapped f (x ∷ xs) = ap (λ (b : Bool). pointwise nat_eq name (f x) || b) (any_mapped f xs)

  module _ {X : Type 0} (text_of : X → List ℕ) where
    -- no thing has a text that is not found
    not_any : (xs : List X) → list_any (pointwise nat_eq name) (map text_of xs) ≡ false → All (λ x. text_of x ≢ name) xs
    not_any [] e = All-nil (λ x. text_of x ≢ name)
    not_any (x ∷ xs) e = at (pointwise nat_eq name (text_of x)) refl e (not_any xs)
      where
        at : (b : Bool) → pointwise nat_eq name (text_of x) ≡ b → (b || list_any (pointwise nat_eq name) (map text_of xs)) ≡ false
            → (list_any (pointwise nat_eq name) (map text_of xs) ≡ false → All (λ x. text_of x ≢ name) xs) → All (λ x. text_of x ≢ name) (x ∷ xs)
        at true same e next = absurd (true≢false e)
        at false same e next = All-cons (λ x. text_of x ≢ name) x xs (λ is. other_text name (text_of x) (sym same) (sym is)) (next e)

    -- a text that none of them has is not found
    none_any : (xs : List X) → All (λ x. text_of x ≢ name) xs → list_any (pointwise nat_eq name) (map text_of xs) ≡ false
    none_any [] apart = refl
    none_any (x ∷ xs) apart = at (pointwise nat_eq name (text_of x)) refl (none_any xs (All-tail (λ x. text_of x ≢ name) x xs apart))
      where
        at : (b : Bool) → pointwise nat_eq name (text_of x) ≡ b → list_any (pointwise nat_eq name) (map text_of xs) ≡ false → (b || list_any (pointwise nat_eq name) (map text_of xs)) ≡ false
        at true same next = absurd (All-head (λ x. text_of x ≢ name) x xs apart (sym (same_text name (text_of x) (sym same))))
        at false same next = next

-- ---- the place of a text

module _ {K X : Type 0} (text : K → List ℕ) (text_of : X → List ℕ) (keys : List K) (xs : List X) (named : map text keys ≡ map text_of xs) (name : List ℕ) where
  abbrev tests : K → Bool
  tests key = pointwise nat_eq name (text key)

  any_named : list_any tests keys ≡ list_any (pointwise nat_eq name) (map text_of xs)
  any_named = any_mapped name text keys ∙ ap (list_any (pointwise nat_eq name)) named

  -- the place of a text is that of the thing that has it
  stands_at : (i : ℕ) (k : K) → i < length keys → tests (get_or keys i k) ≡ true → IsIndexWhere (λ x. text_of x ≡ name) xs i
  stands_at i k within same =
      let long : length keys ≡ length xs = sym (length-map keys text) ∙ ap (λ (l : List (List ℕ)). length l) named ∙ length-map xs text_of in
      let inside : i < length xs = rw (← long) within in record {
        within = inside;
        holds = λ d. sym (get_or-map text_of xs i d (text k) inside) ∙ ap (λ (l : List (List ℕ)). get_or l i (text k)) (sym named) ∙ get_or-map text keys i k (text k) within
            ∙ sym (same_text name (text (get_or keys i k)) (sym same));
      }

  pub place_found : (place : Option ℕ) → place ≡ position tests keys → IfSome place (IsIndexWhere (λ x. text_of x ≡ name) xs)
  place_found None e = tt
  place_found (Some i) e = at keys refl
    where
      at : (ks : List K) → ks ≡ keys → IsIndexWhere (λ x. text_of x ≡ name) xs i
      at [] none = absurd (none-some i (ap (position tests) none ∙ sym e))
      at (k ∷ ks) is = let found = position-Some tests keys i k (sym e) in stands_at i k found.0 found.1

  -- and one that none has is not found
  pub place_absent : (place : Option ℕ) → is_some place ≡ list_any tests keys → IsTrue (is_none place) ↔ All (λ x. text_of x ≢ name) xs
  place_absent None e = (λ h. not_any name text_of xs (sym any_named ∙ sym e), λ h. refl)
  place_absent (Some i) e = (λ h. absurd (true≢false (sym h)), λ h. absurd (true≢false (e ∙ any_named ∙ none_any name text_of xs h)))

-- ---- texts that are listed one after another

module _ {K X : Type 0} (text : K → List ℕ) (text_of : X → List ℕ) (xs : List X) (once : Once text_of xs) (i : ℕ) (x : X) (within : i < length xs) (is : x ≡ get_or xs i x) where
  -- none before it has its text
  before_apart : All (λ y. text_of y ≢ text_of x) (take i xs)
  before_apart k d lt same =
      let small : k < i = omega (arith, lt, length-take-le i xs (omega (arith, within))) in
      once k i d small within (ap text_of (sym (get_or-take i xs k d small)) ∙ same ∙ ap text_of is ∙ ap text_of (get_or_default xs i x d within))

  pub text_listed : (keys new : List K) (key : K) → map text keys ≡ map text_of (take i xs) → text key ≡ text_of x → new ≡ insert_key (λ a b. pointwise nat_eq (text a) (text b)) keys key
      → map text new ≡ map text_of (take (i + 1) xs)
  text_listed keys new key named key_is grown =
      let none = none_any (text_of x) text_of (take i xs) before_apart in
      let absent : list_any (λ k. pointwise nat_eq (text key) (text k)) keys ≡ false = rw key_is (any_named text text_of keys (take i xs) named (text_of x) ∙ none) in
      let grew : new ≡ keys ++ key ∷ [] = rw absent at grown in
      let more : map text_of (take (i + 1) xs) ≡ map text_of (take i xs) ++ text_of x ∷ [] = ap (map text_of) (take_more_at xs i x within is) ∙ map-append text_of (take i xs) (x ∷ []) in
      ap (map text) grew ∙ map-append text keys (key ∷ []) ∙ cc (named, key_is) ∙ sym more

-- ---- the rest of a list after an index

module _ {X : Type 0} (xs : List X) (place : ℕ) (x : X) (others : List X) (is : drop place xs ≡ x ∷ others) where
  pub left_within : place < length xs
  left_within = omega (arith, ap length is, length-drop place xs)

  left_both : get_or xs place x ∷ drop (place + 1) xs ≡ x ∷ others
  left_both = sym (drop_more xs place x left_within) ∙ is

  pub left_first : x ≡ get_or xs place x
  left_first = ap (λ l. get_or l 0 x) (sym left_both)

  pub left_others : others ≡ drop (place + 1) xs
  left_others = ap (λ l. drop 1 l) (sym left_both)
