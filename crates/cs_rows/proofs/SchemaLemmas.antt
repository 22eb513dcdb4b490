-- Columns' names that are looked through in turn, and what a schema has.
use Rattle.std.proofs.Common.{◌≡◌, ◌≢◌, ℕ, ◌+◌, ◌<◌, List, [], ◌∷◌, ◌++◌, length, get_or, take, map, Bool, true, false, cond, Bor, refl, sym, ap, subst, ◌∙◌, true≢false, inl, inr, arith, String, Global, not}
use Rattle.std.specs.Bool.{Decides}
use Rattle.std.specs.List.{AllPairs, AllByRecursion, Contains}
use Rattle.std.specs.BTreeSet.{BTreeSet, contains, Updates}
use Rattle.std.specs.Cmp.Lexicographic.{slice_cmp}
use Rattle.std.specs.Ordering.{nat_cmp, is_eq}
use Rattle.std.specs.declared.cmp.Ordering.{Ordering}
use Rattle.std.specs.String.{string_bytes}
use Rattle.std.proofs.lemmas.List.{take_more, get_or-take, length-take, get_or-map, map_more}
use Rattle.std.proofs.lemmas.List.Elements.{Contains-push, Contains-append_left, Contains-push_cases, Contains-get_or, All-from_recursion}
use Rattle.std.proofs.lemmas.List.Quantifiers.{all_pairs_push}
use Rattle.std.proofs.lemmas.Map.Text.{is_eq-slice_cmp}
use Rattle.std.proofs.lemmas.Slice.Eq.{bytes_eq-Decides}
use Rattle.cs_value.proofs.ListLemmas.{AllByRecursion-push}

-- the order of borrowed names
abbrev pub name_cmp : Bor (List ℕ) → Bor (List ℕ) → Ordering
name_cmp x y = slice_cmp nat_cmp x.now y.now

-- the names so far are apart, and the set has these
pub record NamesSoFar (names : List (List ℕ)) (i : ℕ) (seen : BTreeSet (Bor (List ℕ))) : Type 0 where
  pub apart : AllPairs ◌≢◌ (take i names)
  pub has : (q : Bor (List ℕ)) → Decides (contains name_cmp seen q) (Contains (take i names) q.now)

pub NamesSoFar-none : (names : List (List ℕ)) (seen : BTreeSet (Bor (List ℕ))) → seen.keys ≡ [] → NamesSoFar names 0 seen
NamesSoFar-none names seen none = record {
  apart = λ i j d lt below. absurd (omega arith);
  has = λ q. rw none (λ e. absurd (true≢false (sym e)), λ h. absurd (omega (arith, h.1)));
}

-- a borrowed name is the one at its index
pub name_here : (columns : List (String Global)) (i : ℕ) (column : String Global) (d : List ℕ) → i < length columns → column ≡ get_or columns i column → get_or (map string_bytes columns) i d ≡ string_bytes column
name_here columns i column d within is = get_or-map string_bytes columns i column d within ∙ ap string_bytes (sym is)

pub not_false : (b : Bool) → not b ≡ false → b ≡ true
not_false true e = refl
not_false false e = absurd (true≢false e)

pub not_true : (b : Bool) → not b ≡ true → b ≡ false
not_true true e = absurd (true≢false (sym e))
not_true false e = refl

module _ (names : List (List ℕ)) (i : ℕ) (seen : BTreeSet (Bor (List ℕ))) (name : Bor (List ℕ)) (within : i < length names) (here : get_or names i name.now ≡ name.now) (so : NamesSoFar names i seen) where
  -- a name that the set has is repeated
  pub repeated : contains name_cmp seen name ≡ true → AllPairs ◌≢◌ names → ⊥
  repeated found apart =
      let place = (so.has name).0 found in
      let below : place.0 < i = omega (arith, place.1, length-take {A = List ℕ}) in
      apart place.0 i name.now below within (sym (get_or-take i names place.0 name.now below) ∙ place.2 ∙ sym here)

  -- one more name
  pub NamesSoFar-more : (next : BTreeSet (Bor (List ℕ))) → contains name_cmp seen name ≡ false → Updates name_cmp seen next name true → NamesSoFar names (i + 1) next
  NamesSoFar-more next new added =
      let before = take i names in
      let more : take (i + 1) names ≡ before ++ name.now ∷ [] = take_more names i name.now within ∙ ap (λ x. before ++ x ∷ []) here in
      record {
        apart = rw more (all_pairs_push ◌≢◌ before name.now so.apart (λ k d lt e. true≢false (sym ((so.has name).1 (subst (Contains before) e (Contains-get_or before k d lt))) ∙ new)));
        has = λ q. rw more (subst (λ b. Decides b (Contains (before ++ name.now ∷ []) q.now)) (sym (added.0 q)) (at q (is_eq (slice_cmp nat_cmp name.now q.now)) refl));
      }
    where
      at : (q : Bor (List ℕ)) (b : Bool) → is_eq (slice_cmp nat_cmp name.now q.now) ≡ b → Decides (cond b true (contains name_cmp seen q)) (Contains (take i names ++ name.now ∷ []) q.now)
      at q true is = (
        λ _. subst (Contains (take i names ++ name.now ∷ [])) ((bytes_eq-Decides name.now q.now).0 (sym (is_eq-slice_cmp name.now q.now) ∙ is)) (Contains-push (take i names) name.now),
        λ _. refl,
      )
      at q false is = (
        λ e. Contains-append_left (take i names) (name.now ∷ []) q.now ((so.has q).0 e),
        λ h. elim (Contains-push_cases (take i names) name.now q.now h) [
          | inl there ↦ (so.has q).1 there
          | inr same ↦ absurd (true≢false (sym ((bytes_eq-Decides name.now q.now).1 same) ∙ sym (is_eq-slice_cmp name.now q.now) ∙ is))
        ],
      )

-- what holds of all names holds of each
pub name_all : (P : List ℕ → Type 0) (names : List (List ℕ)) (i : ℕ) (d : List ℕ) → i < length names → AllByRecursion P names → P (get_or names i d)
name_all P names i d within h = All-from_recursion P names h i d within

-- it holds of one more name
pub names_more : (P : List ℕ → Type 0) (columns : List (String Global)) (i : ℕ) (d : String Global) → i < length columns → AllByRecursion P (map string_bytes (take i columns)) → P (string_bytes (get_or columns i d)) → AllByRecursion P (map string_bytes (take (i + 1) columns))
names_more P columns i d within so here = rw (map_more string_bytes columns i d within) (AllByRecursion-push P (map string_bytes (take i columns)) (string_bytes (get_or columns i d)) so here)
