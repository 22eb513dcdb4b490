-- Things that are known by a text, no two by one.
use Rattle.std.proofs.Common.{◌≡◌, ◌≢◌, ℕ, zero, suc, ◌<◌, nat_eq, Bool, true, false, true≢false, cond, List, [], ◌∷◌, ◌++◌, length, get_or, Option, Some, None, All, AllPairs, refl, sym, ap, ◌∙◌, arith}
use Rattle.std.specs.Prelude.{IfSome, is_none, filter, filter_map}
use Rattle.std.specs.List.{cons_option}
use Rattle.std.specs.Cmp.Lexicographic.{pointwise, same_text, other_text, nat_list_eq_equiv}
use Rattle.std.proofs.lemmas.List.Elements.{All-nil, All-cons, All-head, All-tail, All-append, All-filter, filter_passes}
use Rattle.std.proofs.lemmas.List.Kept.{AllPairs-cons, AllPairs-filter}
use Rattle.std.proofs.lemmas.Option.{none-some}
use Rattle.cs_value.proofs.ListLemmas.{AllPairs-head, AllPairs-tail}
use Rattle.cs_wire.specs.Views.{IsIndexWhere}
use Rattle.cs_group.specs.Joining.{with_text, is_new, outcome, joined_by}

-- ---- lists

AllPairs-append : {X : Type 0} (R : X → X → Type 0) (xs ys : List X) → AllPairs R xs → AllPairs R ys → All (λ x. All (R x) ys) xs → AllPairs R (xs ++ ys)
AllPairs-append R [] ys p q across = q
AllPairs-append R (x ∷ xs) ys p q across =
    AllPairs-cons R x (xs ++ ys) (All-append (R x) xs ys (AllPairs-head R x xs p) (All-head (λ x. All (R x) ys) x xs across))
    (AllPairs-append R xs ys (AllPairs-tail R x xs p) q (All-tail (λ x. All (R x) ys) x xs across))

filter_map-each : {X Y : Type 0} (h : X → Option Y) (P : Y → Type 0) (xs : List X) → All (λ x. IfSome (h x) P) xs → All P (filter_map h xs)
filter_map-each h P [] each = All-nil P
filter_map-each {X} {Y} h P (x ∷ xs) each = kept (h x) (All-head (λ x. IfSome (h x) P) x xs each) (filter_map-each h P xs (All-tail (λ x. IfSome (h x) P) x xs each))
  where
    kept : (o : Option Y) → IfSome o P → All P (filter_map h xs) → All P (cons_option o (filter_map h xs))
    kept None p others = others
    kept (Some y) p others = All-cons P y (filter_map h xs) p others

-- ---- looking for a text

abbrev same : List ℕ → List ℕ → Bool
same s t = pointwise nat_eq s t

pub not_same : (s t : List ℕ) (b : Bool) → b ≡ same s t → s ≢ t → b ≡ false
not_same s t true e h = absurd (h (same_text s t e))
not_same s t false e h = refl

module _ {X : Type 0} (text_of : X → List ℕ) where
  -- things of one text are one
  abbrev pub Once : List X → Type 0
  Once xs = AllPairs (λ x y. text_of x ≢ text_of y) xs

  pub with_text-none : (xs : List X) (text : List ℕ) → All (λ x. text_of x ≢ text) xs → with_text text_of xs text ≡ None
  with_text-none [] text h = refl
  with_text-none (x ∷ xs) text h =
      let no = not_same (text_of x) text (same (text_of x) text) refl (All-head (λ x. text_of x ≢ text) x xs h) in
      rw no (with_text-none xs text (All-tail (λ x. text_of x ≢ text) x xs h))

  pub with_text-at : (xs : List X) (text : List ℕ) (index : ℕ) (d : X) → Once xs → index < length xs → text_of (get_or xs index d) ≡ text → with_text text_of xs text ≡ Some (get_or xs index d)
  with_text-at [] text index d once lt is = absurd (omega arith)
  with_text-at (x ∷ xs) text zero d once lt is =
      let yes : same (text_of x) text ≡ true = rw (← is) (nat_list_eq_equiv.refl (text_of x)) in
      rw yes refl
  with_text-at (x ∷ xs) text (suc index) d once lt is =
      let other : text_of x ≢ text = λ same. AllPairs-head (λ x y. text_of x ≢ text_of y) x xs once index d (omega arith) (same ∙ sym is) in
      let no = not_same (text_of x) text (same (text_of x) text) refl other in
      rw no (with_text-at xs text index d (AllPairs-tail (λ x y. text_of x ≢ text_of y) x xs once) (omega arith) is)

  -- the element at the index of the text is found
  pub with_text-index : (xs : List X) (text : List ℕ) (index : ℕ) (x : X) → Once xs → IsIndexWhere (λ y. text_of y ≡ text) xs index → x ≡ get_or xs index x → Some x ≡ with_text text_of xs text
  with_text-index xs text index x once at is = ap Some is ∙ sym (with_text-at xs text index x once at.within (at.holds x))

  -- no thing has the text where none is found
  pub with_text-new : (xs : List X) (text : List ℕ) → with_text text_of xs text ≡ None → All (λ x. text_of x ≢ text) xs
  with_text-new [] text e = All-nil (λ x. text_of x ≢ text)
  with_text-new (x ∷ xs) text e = at (same (text_of x) text) refl e (with_text-new xs text)
    where
      at : (b : Bool) → b ≡ same (text_of x) text → cond b (Some x) (with_text text_of xs text) ≡ None → (with_text text_of xs text ≡ None → All (λ x. text_of x ≢ text) xs) → All (λ x. text_of x ≢ text) (x ∷ xs)
      at true is e others = absurd (none-some x (sym e))
      at false is e others = All-cons (λ x. text_of x ≢ text) x xs (other_text (text_of x) text is) (others e)

  -- what is found has the text, and what all have
  pub with_text-found : (P : X → Type 0) (xs : List X) (text : List ℕ) → All P xs → IfSome (with_text text_of xs text) (λ x. P x × (text_of x ≡ text))
  with_text-found P [] text each = tt
  with_text-found P (x ∷ xs) text each = at (same (text_of x) text) refl (with_text-found P xs text (All-tail P x xs each))
    where
      at : (b : Bool) → b ≡ same (text_of x) text → IfSome (with_text text_of xs text) (λ x. P x × (text_of x ≡ text)) → IfSome (cond b (Some x) (with_text text_of xs text)) (λ x. P x × (text_of x ≡ text))
      at true is others = (All-head P x xs each, same_text (text_of x) text is)
      at false is others = others

  pub with_text-same : (other_of : X → List ℕ) → ((x : X) → text_of x ≡ other_of x) → (xs : List X) (text : List ℕ) → with_text text_of xs text ≡ with_text other_of xs text
  with_text-same other_of h [] text = refl
  with_text-same other_of h (x ∷ xs) text = rw (h x, with_text-same other_of h xs text) refl

  -- ---- joining by texts

  module _ (join : X → Option X → Option X) (first second : List X) where
    abbrev becomes : X → Option X
    becomes = outcome text_of join second

    keeps_text : (y : X) (t : List ℕ) (xs : List X) → All (λ x. IfSome (becomes x) (λ z. text_of z ≡ text_of x)) xs → All (λ x. t ≢ text_of x) xs → All (λ z. t ≢ text_of z) (filter_map becomes xs)
    keeps_text y t xs keeps other = filter_map-each becomes (λ z. t ≢ text_of z) xs (λ k d lt. turned (becomes (get_or xs k d)) (text_of (get_or xs k d)) (keeps k d lt) (other k d lt))
      where
        turned : (o : Option X) (s : List ℕ) → IfSome o (λ z. text_of z ≡ s) → t ≢ s → IfSome o (λ z. t ≢ text_of z)
        turned None s p q = tt
        turned (Some z) s p q = λ e. q (e ∙ p)

    filter_map-once : (xs : List X) → All (λ x. IfSome (becomes x) (λ z. text_of z ≡ text_of x)) xs → Once xs → Once (filter_map becomes xs)
    filter_map-once [] keeps once = once
    filter_map-once (x ∷ xs) keeps once =
        at (becomes x) (All-head (λ x. IfSome (becomes x) (λ z. text_of z ≡ text_of x)) x xs keeps)
        (filter_map-once xs (All-tail (λ x. IfSome (becomes x) (λ z. text_of z ≡ text_of x)) x xs keeps) (AllPairs-tail (λ x y. text_of x ≢ text_of y) x xs once))
      where
        at : (o : Option X) → IfSome o (λ z. text_of z ≡ text_of x) → Once (filter_map becomes xs) → Once (cons_option o (filter_map becomes xs))
        at None p others = others
        at (Some y) p others =
            let head : All (λ z. text_of y ≢ text_of z) xs = λ k d lt e. AllPairs-head (λ x y. text_of x ≢ text_of y) x xs once k d lt (sym p ∙ e) in
            AllPairs-cons (λ x y. text_of x ≢ text_of y) y (filter_map becomes xs)
            (keeps_text y (text_of y) xs (All-tail (λ x. IfSome (becomes x) (λ z. text_of z ≡ text_of x)) x xs keeps) head) others

    none_found : (o : Option X) → is_none o ≡ true → o ≡ None
    none_found None e = refl
    none_found (Some x) e = absurd (true≢false (sym e))

    -- no two of what is joined have one text
    pub joined-once : All (λ x. IfSome (becomes x) (λ z. text_of z ≡ text_of x)) first → Once first → Once second → Once (joined_by text_of join first second)
    joined-once keeps p q =
        AllPairs-append (λ x y. text_of x ≢ text_of y) (filter_map becomes first) (filter (is_new text_of first) second)
        (filter_map-once first keeps p) (AllPairs-filter (λ x y. text_of x ≢ text_of y) (is_new text_of first) second q)
        (λ k d lt j e j_lt.
        let z = get_or (filter (is_new text_of first) second) j e in
        let new : All (λ x. text_of x ≢ text_of z) first = with_text-new first (text_of z) (none_found (with_text text_of first (text_of z)) (filter_passes (is_new text_of first) second j e j_lt)) in
        let apart = keeps_text z (text_of z) first keeps (λ i f i_lt same. new i f i_lt (sym same)) in
        λ same. apart k d lt (sym same))

    -- what holds of each
    pub joined-each : (P : X → Type 0) → All (λ x. IfSome (becomes x) P) first → All P second → All P (joined_by text_of join first second)
    joined-each P p q = All-append P (filter_map becomes first) (filter (is_new text_of first) second) (filter_map-each becomes P first p) (All-filter (is_new text_of first) P second q)
