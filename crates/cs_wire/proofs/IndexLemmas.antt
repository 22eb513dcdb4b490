-- Indexes: where each of some texts is.
use Rattle.std.proofs.Common.{◌≡◌, ◌≢◌, ℕ, ◌+◌, ◌<◌, List, [], ◌∷◌, ◌++◌, length, map, Bool, true, false, cond, Option, Some, None, All, get_or, take, refl, sym, ap, ◌∙◌, subst, append_assoc, append-nil, ◌≤◌, arith}
use Rattle.std.specs.Prelude.{◌↔◌, is_none, is_some, IfSome, IsTrue, slice_get}
use Rattle.std.specs.Ordering.{nat_cmp, eq_by_cmp}
use Rattle.std.specs.Cmp.{Equal-is}
use Rattle.std.specs.Cmp.Lexicographic.{slice_cmp, nat_list_cmp_total}
use Rattle.std.specs.FinMap.{get, insert, empty, get-empty, get-insert, slice_cmp-IsAntisymmetric, nat_cmp-IsAntisymmetric}
use Rattle.std.proofs.lemmas.Cmp.{eq_by_cmp_equiv}
use Rattle.std.proofs.lemmas.List.Elements.{All-push, All-nil, All-map}
use Rattle.std.proofs.lemmas.List.{map-append, take_more, length-take-le, get_or-map, get_or_at, get_or_append_left, length-map, length-append}
use Rattle.std.proofs.lemmas.Option.{none-some, same_Some, slice_get_within, slice_get-get_or, get_or_from_slice_get}
use Rattle.cs_value.specs.Maps.{ByBytes}
use Rattle.cs_wire_entries.specs.Views.{IsIndexWhere, IsIndex}
use Rattle.cs_wire.specs.Walk.{Knows}

-- whether two texts are one
abbrev same : List ℕ → List ℕ → Bool
same s t = eq_by_cmp (slice_cmp nat_cmp) s t

same_is : (s t : List ℕ) → same s t ≡ true → s ≡ t
same_is s t e = slice_cmp-IsAntisymmetric nat_cmp-IsAntisymmetric s t ((Equal-is (slice_cmp nat_cmp s t)).0 e)

not_same : (s t : List ℕ) → same s t ≡ false → t ≢ s
not_same s t e is =
    let yes : same s s ≡ true = (eq_by_cmp_equiv nat_list_cmp_total).refl s in
    let no : same s s ≡ false = ap (same s) (sym is) ∙ e in
    cc

-- no text has an index
pub IsIndex-none : IsIndex empty []
IsIndex-none = record {
  found = λ text index e. absurd (none-some index (sym (get-empty (slice_cmp nat_cmp) text) ∙ e));
  absent = λ text e. All-nil (λ t. t ≢ text);
}

slice_get_left : (texts : List (List ℕ)) (last text : List ℕ) (index : ℕ) → slice_get texts index ≡ Some text → slice_get (texts ++ last ∷ []) index ≡ Some text
slice_get_left texts last text index e =
    let within = slice_get_within texts index text e in
    slice_get-get_or (texts ++ last ∷ []) index [] (omega (arith, length-append texts (last ∷ [])))
    ∙ ap Some (get_or_append_left texts (last ∷ []) [] index within ∙ get_or_from_slice_get texts index text [] e)

slice_get_last : (texts : List (List ℕ)) (last : List ℕ) → slice_get (texts ++ last ∷ []) (length texts) ≡ Some last
slice_get_last texts last =
    slice_get-get_or (texts ++ last ∷ []) (length texts) [] (omega (arith, length-append texts (last ∷ [])))
    ∙ ap Some (get_or_at texts last [] [] (length texts) refl)

-- one more text has the next index, also where it is there
pub IsIndex-push : (indices : ByBytes ℕ) (texts : List (List ℕ)) (last : List ℕ) → IsIndex indices texts → IsIndex (insert indices last (length texts)) (texts ++ last ∷ [])
IsIndex-push indices texts last held = record {
  found = λ text index e. found_by text index (same text last) refl (sym (got text) ∙ e);
  absent = λ text e. absent_by text (same text last) refl (sym (got text) ∙ e);
}
  where
    got : (text : List ℕ) → get (insert indices last (length texts)) text ≡ cond (same text last) (Some (length texts)) (get indices text)
    got text = get-insert nat_list_cmp_total indices last (length texts) text

    found_by : (text : List ℕ) (index : ℕ) (b : Bool) → same text last ≡ b → cond b (Some (length texts)) (get indices text) ≡ Some index
        → slice_get (texts ++ last ∷ []) index ≡ Some text
    found_by text index true is e =
        let at : length texts ≡ index = same_Some (length texts) index e in
        subst (λ (p : ℕ). slice_get (texts ++ last ∷ []) p ≡ Some text) at (slice_get_last texts last ∙ ap Some (sym (same_is text last is)))
    found_by text index false is e = slice_get_left texts last text index (held.found text index e)

    absent_by : (text : List ℕ) (b : Bool) → same text last ≡ b → cond b (Some (length texts)) (get indices text) ≡ None → All (λ t. t ≢ text) (texts ++ last ∷ [])
    absent_by text true is e = absurd (none-some (length texts) (sym e))
    absent_by text false is e = All-push (λ (t : List ℕ). t ≢ text) texts last (held.absent text e) (not_same text last is)

-- what is found among things that are known by a text
module _ {X : Type 0} (text_of : X → List ℕ) (indices : ByBytes ℕ) (xs : List X) (text : List ℕ) (held : IsIndex indices (map text_of xs)) where
  at_place : (index : ℕ) → slice_get (map text_of xs) index ≡ Some text → IsIndexWhere (λ x. text_of x ≡ text) xs index
  at_place index e = record {
    within = omega (arith, slice_get_within (map text_of xs) index text e, length-map xs text_of);
    holds = λ d.
        let within : index < length xs = omega (arith, slice_get_within (map text_of xs) index text e, length-map xs text_of) in
        sym (get_or-map text_of xs index d [] within) ∙ get_or_from_slice_get (map text_of xs) index text [] e;
  }

  is_known : (ys : List X) (index : ℕ) → IsIndexWhere (λ x. text_of x ≡ text) ys index → All (λ x. text_of x ≢ text) ys → ⊥
  is_known [] index at new = absurd (omega (arith, at.within))
  is_known (y ∷ ys) index at new = new index y at.within (at.holds y)

  pub is_found : (found : Option ℕ) → found ≡ get indices text → IfSome found (IsIndexWhere (λ x. text_of x ≡ text) xs)
  is_found None e = tt
  is_found (Some index) e = at_place index (held.found text index (sym e))

  -- nothing is found just where the text is new
  pub is_new : (found : Option ℕ) → found ≡ get indices text → IsTrue (is_none found) ↔ All (λ x. text_of x ≢ text) xs
  is_new None e =
      let none = held.absent text (sym e) in
      (λ h k d lt known. none k [] (omega (arith, length-map xs text_of)) (get_or-map text_of xs k d [] lt ∙ known), λ h. refl)
  is_new (Some index) e = (λ h. absurd cc, λ h. absurd (is_known xs index (at_place index (held.found text index (sym e))) h))

-- one more thing has the next index
pub IsIndex-grown : {X : Type 0} (text_of : X → List ℕ) (indices new : ByBytes ℕ) (xs : List X) (x : X) (text : List ℕ) (index : ℕ)
    → IsIndex indices (map text_of xs) → text_of x ≡ text → index ≡ length xs → new ≡ insert indices text index
    → IsIndex new (map text_of (xs ++ x ∷ []))
IsIndex-grown text_of indices new xs x text index held is at grown =
    let pushed = IsIndex-push indices (map text_of xs) text held in
    let texts : map text_of (xs ++ x ∷ []) ≡ map text_of xs ++ text ∷ [] = map-append text_of xs (x ∷ []) ∙ ap (λ (t : List ℕ). map text_of xs ++ t ∷ []) is in
    let after : new ≡ insert indices text (length (map text_of xs)) = grown ∙ ap (insert indices text) (at ∙ sym (length-map xs text_of)) in
    rw (texts, after) pushed

-- the first things of a list, and one more
pub IsIndex-more : {X : Type 0} (text_of : X → List ℕ) (indices new : ByBytes ℕ) (xs : List X) (x : X) (i : ℕ)
    → i < length xs → x ≡ get_or xs i x → IsIndex indices (map text_of (take i xs)) → new ≡ insert indices (text_of x) i → IsIndex new (map text_of (take (i + 1) xs))
IsIndex-more text_of indices new xs x i lt is held grown =
    let count : length (take i xs) ≡ i = length-take-le i xs (omega arith) in
    rw (take_more xs i x lt, ← is) (IsIndex-grown text_of indices new (take i xs) x (text_of x) i held refl (sym count) grown)

-- what is found is not new
pub found_or_new : (found : Option ℕ) → is_some found ≡ true → IsTrue (is_none found) → ⊥
found_or_new None some none = cc
found_or_new (Some index) some none = cc

-- ---- texts that are known

-- what adding a text does to those that were met
abbrev pub Adds : List ℕ → List (List ℕ) → List (List ℕ) → Type 0
Adds text seen grown = (t : List ℕ) → All (λ s. s ≢ t) grown ↔ ((text ≢ t) × All (λ s. s ≢ t) seen)

pub Knows-none : Knows [] []
Knows-none = λ text. (λ h. h, λ h. h)

-- one more text is known
pub Knows-push : (seen grown texts : List (List ℕ)) (last : List ℕ) → Knows seen texts → Adds last seen grown → Knows grown (texts ++ last ∷ [])
Knows-push seen grown texts last so adds = λ text. (
  λ new.
      let parts = (adds text).0 new in
      All-push (λ (t : List ℕ). t ≢ text) texts last ((so text).0 parts.1) parts.0,
  λ new.
      let before : All (λ t. t ≢ text) texts = λ k d lt here. new k d (omega (arith, lt, length-append texts (last ∷ []))) (get_or_append_left texts (last ∷ []) d k lt ∙ here) in
      (adds text).1 ((λ here. new (length texts) last (omega (arith, length-append texts (last ∷ []))) (get_or_at texts last [] last (length texts) refl ∙ here)), (so text).1 before),
)

-- one that was known already is known no more than before
pub Knows-again : (seen grown texts : List (List ℕ)) (text : List ℕ) → Knows seen texts → Adds text seen grown → (All (λ t. t ≢ text) seen → ⊥) → Knows grown texts
Knows-again seen grown texts text so adds known = λ t. (
  λ new. (so t).0 ((adds t).0 new).1,
  λ new.
      let before = (so t).1 new in
      (adds t).1 ((λ same. known (subst (λ (x : List ℕ). All (λ s. s ≢ x) seen) (sym same) before)), before),
)

-- what is new among things that are known by a text
module _ {X : Type 0} (text_of : X → List ℕ) (seen : List (List ℕ)) (xs : List X) (text : List ℕ) (so : Knows seen (map text_of xs)) where
  pub Knows-is : (All (λ t. t ≢ text) seen → ⊥) → All (λ x. text_of x ≢ text) xs → ⊥
  Knows-is there new = there ((so text).1 (All-map (λ (t : List ℕ). t ≢ text) text_of xs new))

  pub Knows-new : All (λ t. t ≢ text) seen → All (λ x. text_of x ≢ text) xs
  Knows-new none = λ k d lt known. (so text).0 none k [] (omega (arith, length-map xs text_of, lt)) (get_or-map text_of xs k d [] lt ∙ known)

-- ---- texts that are given indices one after another

-- of these texts so many have their indices, and the others are left
pub record IsIndexed (texts left : List (List ℕ)) (indices : ByBytes ℕ) (index : ℕ) : Type 0 where
  pub before : List (List ℕ)
  pub whole : texts ≡ before ++ left
  pub count : index ≡ length before
  pub held : IsIndex indices before

pub IsIndexed-none : (texts left : List (List ℕ)) (indices : ByBytes ℕ) → left ≡ texts → indices ≡ empty → IsIndexed texts left indices 0
IsIndexed-none texts left indices all none = record { before = []; whole = sym all; count = refl; held = rw none IsIndex-none }

pub IsIndexed-next : (texts left others : List (List ℕ)) (indices new : ByBytes ℕ) (index : ℕ) (text : List ℕ) → IsIndexed texts left indices index → left ≡ text ∷ others
    → new ≡ insert indices text index → IsIndexed texts others new (index + 1)
IsIndexed-next texts left others indices new index text so is grown = record {
  before = so.before ++ text ∷ [];
  whole = so.whole ∙ ap (λ (l : List (List ℕ)). so.before ++ l) is ∙ sym (append_assoc so.before (text ∷ []) others);
  count = omega (arith, so.count, length-append so.before (text ∷ []));
  held = rw (grown, so.count) (IsIndex-push indices so.before text so.held);
}

pub IsIndexed-all : (texts left : List (List ℕ)) (indices : ByBytes ℕ) (index : ℕ) → IsIndexed texts left indices index → left ≡ [] → IsIndex indices texts
IsIndexed-all texts left indices index so none = rw (so.whole ∙ ap (λ (l : List (List ℕ)). so.before ++ l) none ∙ append-nil so.before) so.held

-- no more texts have indices than there are
pub IsIndexed-within : (texts left : List (List ℕ)) (indices : ByBytes ℕ) (index : ℕ) → IsIndexed texts left indices index → index ≤ length texts
IsIndexed-within texts left indices index so = omega (arith, so.count, ap length so.whole, length-append so.before left)
