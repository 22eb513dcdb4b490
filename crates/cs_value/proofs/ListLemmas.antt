-- Lemmas on lists and options that std does not have: what holds of each element of a list, or of each two; a list that
-- a loop goes through, one element further on; and a list that is written over.
use Rattle.std.proofs.Common.{◌≡◌, ℕ, zero, suc, ◌+◌, ◌<◌, ◌≤◌, Bool, true, false, cond, if◌then◌else◌, List, [], ◌∷◌, ◌++◌, length, get_or, take, drop, map, filter, filter_map, All, AllPairs, Any, Option, Some, None, option_map, refl, sym, ap, ◌∙◌, subst, append_assoc, arith}
use Rattle.std.specs.Prelude.{IfSome, option_to_list}
use Rattle.std.specs.List.{AllByRecursion, cons_option, flat_map}
use Rattle.std.proofs.lemmas.List.{append-nil, take_all, take_more, drop_all, drop_more, map_more, map-append, take-append-drop, take-map, get_or-map, get_or_at, length-map, length-take}
use Rattle.std.proofs.lemmas.List.Elements.{recursion_from_All, All-from_recursion, All-push, filter_map-append, filter_more}
use Rattle.std.proofs.lemmas.List.Concat.{flat_map-append}
use Rattle.std.proofs.lemmas.List.Kept.{AllPairs-cons}

-- ---- what holds of each element

module _ {X : Type 0} (P : X → Type 0) where
  pub AllByRecursion-push : (xs : List X) (x : X) → AllByRecursion P xs → P x → AllByRecursion P (xs ++ x ∷ [])
  AllByRecursion-push [] x each one = (one, tt)
  AllByRecursion-push (y ∷ xs) x each one = (each.0, AllByRecursion-push xs x each.1 one)

  pub AllByRecursion-append : (xs ys : List X) → AllByRecursion P xs → AllByRecursion P ys → AllByRecursion P (xs ++ ys)
  AllByRecursion-append [] ys each others = others
  AllByRecursion-append (x ∷ xs) ys each others = (each.0, AllByRecursion-append xs ys each.1 others)

  pub AllByRecursion-append_left : (xs ys : List X) → AllByRecursion P (xs ++ ys) → AllByRecursion P xs
  AllByRecursion-append_left [] ys each = tt
  AllByRecursion-append_left (x ∷ xs) ys each = (each.0, AllByRecursion-append_left xs ys each.1)

  pub AllByRecursion-append_right : (xs ys : List X) → AllByRecursion P (xs ++ ys) → AllByRecursion P ys
  AllByRecursion-append_right [] ys each = each
  AllByRecursion-append_right (x ∷ xs) ys each = AllByRecursion-append_right xs ys each.1

  pub AllByRecursion-weaker : (Q : X → Type 0) → ((x : X) → P x → Q x) → (xs : List X) → AllByRecursion P xs → AllByRecursion Q xs
  AllByRecursion-weaker Q f [] each = tt
  AllByRecursion-weaker Q f (x ∷ xs) each = (f x each.0, AllByRecursion-weaker Q f xs each.1)

  pub AllByRecursion-map : {Y : Type 0} (f : Y → X) (ys : List Y) → AllByRecursion (λ y. P (f y)) ys → AllByRecursion P (map f ys)
  AllByRecursion-map f [] each = tt
  AllByRecursion-map f (y ∷ ys) each = (each.0, AllByRecursion-map f ys each.1)

  -- an element, as a loop reads it
  pub AllByRecursion-at : (xs : List X) (i : ℕ) (x : X) → i < length xs → x ≡ get_or xs i x → AllByRecursion P xs → P x
  AllByRecursion-at [] i x lt is each = absurd (omega arith)
  AllByRecursion-at (y ∷ xs) zero x lt is each = subst P (sym is) each.0
  AllByRecursion-at (y ∷ xs) (suc i) x lt is each = AllByRecursion-at xs i x (omega arith) is each.1

  pub AllByRecursion-cons_option : (o : Option X) (xs : List X) → IfSome o P → AllByRecursion P xs → AllByRecursion P (cons_option o xs)
  AllByRecursion-cons_option None xs one each = each
  AllByRecursion-cons_option (Some x) xs one each = (one, each)

-- ---- what holds of each two

-- AllPairs, by recursion
abbrev pub PairsByRecursion : {X : Type 0} → (X → X → Type 0) → List X → Type 0
PairsByRecursion R [] = Unit {0}
PairsByRecursion R (x ∷ xs) = AllByRecursion (R x) xs × PairsByRecursion R xs

module _ {X : Type 0} (R : X → X → Type 0) where
  pub AllPairs-head : (x : X) (xs : List X) → AllPairs R (x ∷ xs) → All (R x) xs
  AllPairs-head x xs each k d lt = each zero (suc k) d (omega arith) (omega arith)

  pub AllPairs-tail : (x : X) (xs : List X) → AllPairs R (x ∷ xs) → AllPairs R xs
  AllPairs-tail x xs each i j d lt within = each (suc i) (suc j) d (omega arith) (omega arith)

  -- those before an element that a loop reads
  pub AllPairs-before : (xs : List X) (i : ℕ) (x : X) → AllPairs R xs → i < length xs → x ≡ get_or xs i x → AllByRecursion (λ y. R y x) (take i xs)
  AllPairs-before [] i x each lt is = absurd (omega arith)
  AllPairs-before (y ∷ xs) zero x each lt is = tt
  AllPairs-before (y ∷ xs) (suc i) x each lt is =
      (subst (R y) (sym is) (each zero (suc i) x (omega arith) lt), AllPairs-before xs i x (AllPairs-tail y xs each) (omega arith) is)

  pub recursion_from_AllPairs : (xs : List X) → AllPairs R xs → PairsByRecursion R xs
  recursion_from_AllPairs [] each = tt
  recursion_from_AllPairs (x ∷ xs) each = (recursion_from_All (R x) xs (AllPairs-head x xs each), recursion_from_AllPairs xs (AllPairs-tail x xs each))

  pub AllPairs-from_recursion : (xs : List X) → PairsByRecursion R xs → AllPairs R xs
  AllPairs-from_recursion [] each = λ i j d lt within. absurd (omega arith)
  AllPairs-from_recursion (x ∷ xs) each = AllPairs-cons R x xs (All-from_recursion (R x) xs each.0) (AllPairs-from_recursion xs each.1)

-- ---- one element more

pub cons_option-nil : {X : Type 0} (o : Option X) → cons_option o [] ≡ option_to_list o
cons_option-nil None = refl
cons_option-nil (Some x) = refl

module _ {X : Type 0} (xs : List X) (i : ℕ) (d : X) (lt : i < length xs) where
  pub map_split : {Y : Type 0} (f : X → Y) → map f xs ≡ map f (take i xs) ++ f (get_or xs i d) ∷ map f (drop (i + 1) xs)
  map_split f = ap (map f) (sym (take-append-drop i xs)) ∙ map-append f (take i xs) (drop i xs) ∙ ap (λ l. map f (take i xs) ++ map f l) (drop_more xs i d lt)

  pub flat_map_take_more : {Y : Type 0} (f : X → List Y) → flat_map f (take (i + 1) xs) ≡ flat_map f (take i xs) ++ f (get_or xs i d)
  flat_map_take_more f =
      ap (flat_map f) (take_more xs i d lt) ∙ flat_map-append f (take i xs) (get_or xs i d ∷ []) ∙ ap (λ l. flat_map f (take i xs) ++ l) (append-nil (f (get_or xs i d)))

  pub flat_map_split : {Y : Type 0} (f : X → List Y) → flat_map f xs ≡ flat_map f (take i xs) ++ (f (get_or xs i d) ++ flat_map f (drop (i + 1) xs))
  flat_map_split f =
      ap (flat_map f) (sym (take-append-drop i xs)) ∙ flat_map-append f (take i xs) (drop i xs)
      ∙ ap (λ l. flat_map f (take i xs) ++ l) (ap (flat_map f) (drop_more xs i d lt))

-- the same of an element, as a loop reads it
module _ {X : Type 0} (xs : List X) (i : ℕ) (x : X) (lt : i < length xs) (is : x ≡ get_or xs i x) where
  pub take_more_at : take (i + 1) xs ≡ take i xs ++ x ∷ []
  take_more_at = take_more xs i x lt ∙ ap (λ (y : X). take i xs ++ y ∷ []) (sym is)

  pub AllByRecursion-more : (P : X → Type 0) → AllByRecursion P (take i xs) → P x → AllByRecursion P (take (i + 1) xs)
  AllByRecursion-more P each one = rw take_more_at (AllByRecursion-push P (take i xs) x each one)

  pub flat_map_take_more_at : {Y : Type 0} (f : X → List Y) → flat_map f (take (i + 1) xs) ≡ flat_map f (take i xs) ++ f x
  flat_map_take_more_at f = flat_map_take_more xs i x lt f ∙ ap (λ y. flat_map f (take i xs) ++ f y) (sym is)

  pub flat_map_split_at : {Y : Type 0} (f : X → List Y) → flat_map f xs ≡ flat_map f (take i xs) ++ (f x ++ flat_map f (drop (i + 1) xs))
  flat_map_split_at f = flat_map_split xs i x lt f ∙ ap (λ y. flat_map f (take i xs) ++ (f y ++ flat_map f (drop (i + 1) xs))) (sym is)

  pub filter_map_more : {Y : Type 0} (h : X → Option Y) → filter_map h (take i xs) ++ option_to_list (h x) ≡ filter_map h (take (i + 1) xs)
  filter_map_more h =
      ap (λ l. filter_map h (take i xs) ++ l) (sym (cons_option-nil (h x)))
      ∙ sym (ap (filter_map h) take_more_at ∙ filter_map-append h (take i xs) (x ∷ []))

  filter_more_at : (p : X → Bool) → filter p (take i xs) ++ option_to_list (if p x then Some x else None) ≡ filter p (take (i + 1) xs)
  filter_more_at p = sym (filter_more p xs i x lt ∙ ap (λ (y : X). filter p (take i xs) ++ cond (p y) (y ∷ []) []) (sym is) ∙ one (p x))
    where
      one : (b : Bool) → filter p (take i xs) ++ cond b (x ∷ []) [] ≡ filter p (take i xs) ++ option_to_list (if b then Some x else None)
      one true = refl
      one false = refl

  -- after other elements
  pub filter_more_behind : (p : X → Bool) (start now new : List X) (o : Option X) → now ≡ start ++ filter p (take i xs) → o ≡ (if p x then Some x else None)
      → new ≡ now ++ option_to_list o → new ≡ start ++ filter p (take (i + 1) xs)
  filter_more_behind p start now new o so o_is grown =
      grown ∙ cc (so, o_is) ∙ append_assoc start (filter p (take i xs)) (option_to_list (if p x then Some x else None)) ∙ ap (λ (l : List X). start ++ l) (filter_more_at p)

  -- and of what a function makes of the elements
  module _ {Y : Type 0} (f : X → Y) where
    pub map_more_at : map f (take (i + 1) xs) ≡ map f (take i xs) ++ f x ∷ []
    map_more_at = map_more f xs i x lt ∙ ap (λ (y : X). map f (take i xs) ++ f y ∷ []) (sym is)

    pub take_map_more_at : take (i + 1) (map f xs) ≡ take i (map f xs) ++ f x ∷ []
    take_map_more_at = take-map f (i + 1) xs ∙ map_more_at ∙ ap (λ (l : List Y). l ++ f x ∷ []) (sym (take-map f i xs))

    within : i < length (map f xs)
    within = omega (arith, length-map xs f)

    pub get_or_map_at : get_or (map f xs) i (f x) ≡ f x
    get_or_map_at = get_or-map f xs i x (f x) lt ∙ ap f (sym is)

    pub All-map_more_at : (P : Y → Type 0) → All P (map f (take i xs)) → P (f x) → All P (map f (take (i + 1) xs))
    All-map_more_at P each one = rw map_more_at (All-push P (map f (take i xs)) (f x) each one)

    pub All-map_at : (P : Y → Type 0) → All P (map f xs) → P (f x)
    All-map_at P each = subst P get_or_map_at (each i (f x) within)

    pub Any-map_at : (P : Y → Type 0) → P (f x) → Any P (map f xs)
    Any-map_at P one = (i, f x, within, get_or_map_at, one)

    pub AllPairs-map_before : (R : Y → Y → Type 0) → AllPairs R (map f xs) → All (λ y. R y (f x)) (map f (take i xs))
    AllPairs-map_before R each = All-from_recursion (λ y. R y (f x)) (map f (take i xs))
        (subst (AllByRecursion (λ y. R y (f x))) (take-map f i xs) (AllPairs-before R (map f xs) i (f x) each within (sym get_or_map_at)))

    pub filter_map-map_more : {Z : Type 0} (h : Y → Option Z) (o : Option Z) (zs : List Z) → o ≡ h (f x) → zs ≡ filter_map h (map f (take i xs))
        → zs ++ option_to_list o ≡ filter_map h (map f (take (i + 1) xs))
    filter_map-map_more h o zs one so =
        sym (ap (filter_map h) map_more_at ∙ filter_map-append h (map f (take i xs)) (f x ∷ []) ∙ rw (so, one) (ap (λ l. filter_map h (map f (take i xs)) ++ l) (cons_option-nil (h (f x)))))

-- ---- lists that begin alike

-- equal lists that begin with as many elements begin with the same
pub same_from_append : {X : Type 0} (xs ys zs ws : List X) → length xs ≡ length ys → xs ++ zs ≡ ys ++ ws → (xs ≡ ys) × (zs ≡ ws)
same_from_append [] [] zs ws long e = (refl, e)
same_from_append [] (y ∷ ys) zs ws long e = absurd (omega arith)
same_from_append (x ∷ xs) [] zs ws long e = absurd (omega arith)
same_from_append (x ∷ xs) (y ∷ ys) zs ws long e =
    let others = same_from_append xs ys zs ws (omega arith) (cc) in
    (cc (others.0), others.1)

-- ---- a list that is written over, element by element

module _ {X : Type 0} (f : X → X) (xs ys : List X) (i : ℕ) (so : ys ≡ map f (take i xs) ++ drop i xs) where
  -- what is not yet written over is as it was
  pub map_over_at : (x : X) → i < length xs → x ≡ get_or ys i x → x ≡ get_or xs i x
  map_over_at x lt is =
      let front = map f (take i xs) in
      let long : length front ≡ i = length-map (take i xs) f ∙ omega (arith, length-take i xs) in
      is ∙ ap (λ (l : List _). get_or l i x) (so ∙ ap (λ (l : List _). front ++ l) (drop_more xs i x lt)) ∙ get_or_at front _ _ x i long

  pub map_over_all : length xs ≤ i → ys ≡ map f xs
  map_over_all past = so ∙ cc (take_all i xs past, drop_all i xs past, append-nil (map f xs))

-- what is written back into a vector is all of it
pub written_whole : {X : Type 0} (items new : List X) (len : ℕ) → len ≡ length items → length new ≡ length items → take len (new ++ drop (length new) items) ≡ new
written_whole items new len all same =
    let none : drop (length new) items ≡ [] = drop_all (length new) items (omega (arith, same)) in
    ap (λ (l : List _). take len (new ++ l)) none ∙ ap (take len) (append-nil new) ∙ take_all len new (omega (arith, all, same))

-- ---- what is there, or not

pub IfSome-from_each : {X : Type 0} (P : X → Type 0) (o : Option X) → ((x : X) → o ≡ Some x → P x) → IfSome o P
IfSome-from_each P None each = tt
IfSome-from_each P (Some x) each = each x refl

module _ {X Y : Type 0} (f : X → Y) (P : Y → Type 0) (o : Option X) (p : Option Y) (is : option_map f o ≡ p) where
  pub IfSome-mapped : IfSome o (λ x. P (f x)) → IfSome p P
  IfSome-mapped = at o is
    where
      at : (o : Option X) → option_map f o ≡ p → IfSome o (λ x. P (f x)) → IfSome p P
      at None e h = subst (λ (q : Option _). IfSome q P) e tt
      at (Some x) e h = subst (λ (q : Option _). IfSome q P) e h

  pub IfSome-from_mapped : IfSome p P → IfSome o (λ x. P (f x))
  IfSome-from_mapped = at o is
    where
      at : (o : Option X) → option_map f o ≡ p → IfSome p P → IfSome o (λ x. P (f x))
      at None e h = tt
      at (Some x) e h = subst (λ (q : Option _). IfSome q P) (sym e) h
