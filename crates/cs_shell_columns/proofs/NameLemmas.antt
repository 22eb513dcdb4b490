-- Names that are looked up in sets.
use Rattle.std.proofs.Common.{bytes_eq, ◌≡◌, ℕ, ◌+◌, ◌<◌, List, [], ◌∷◌, ◌++◌, length, get_or, take, map, Bool, true, false, cond, ◌||◌, Bor, refl, sym, ap, ◌∙◌}
use Rattle.std.specs.List.{list_any, Contains}
use Rattle.std.specs.BTreeSet.{BTreeSet, Updates, UpdatesBy}
use Rattle.std.specs.Cmp.Lexicographic.{slice_cmp}
use Rattle.std.specs.Ordering.{nat_cmp, is_eq}
use Rattle.std.specs.declared.cmp.Ordering.{Ordering}
use Rattle.std.proofs.lemmas.Cmp.{nat_list_eq_equiv}
use Rattle.std.proofs.lemmas.List.{map_more, map-append}
use Rattle.std.proofs.lemmas.List.Folds.{list_any-append}
use Rattle.std.proofs.lemmas.Map.Text.{is_eq-slice_cmp}
use Rattle.std.proofs.lemmas.Map.Views.{Contains-from_any, list_any-from_Contains}
use Rattle.std.proofs.lemmas.Slice.Eq.{bytes_eq-Decides}
use Rattle.cs_shell_columns.specs.Names.{texts_of, has_name}

-- the order of borrowed names
abbrev pub name_cmp : Bor (List ℕ) → Bor (List ℕ) → Ordering
name_cmp x y = slice_cmp nat_cmp x.now y.now

-- a name, as it is borrowed
abbrev pub lent : List ℕ → Bor (List ℕ)
lent name = record { ref_ptr = (0, 0); now = name }

-- ---- lists of names

pub one_name : (x y : List ℕ) → bytes_eq x y ≡ true → x ≡ y
one_name x y = (bytes_eq-Decides x y).0

pub same_name : (x y : List ℕ) → x ≡ y → bytes_eq x y ≡ true
same_name x y = (bytes_eq-Decides x y).1

pub Contains-found : (names : List (List ℕ)) (name : List ℕ) → list_any (bytes_eq name) names ≡ true → Contains names name
Contains-found names name = Contains-from_any one_name name names

pub found-Contains : (names : List (List ℕ)) (name : List ℕ) → Contains names name → list_any (bytes_eq name) names ≡ true
found-Contains names name = list_any-from_Contains nat_list_eq_equiv name names

-- a test of one element more
any_more : (b : Bool) (before : Bool) → (before || (b || false)) ≡ cond b true before
any_more true true = refl
any_more true false = refl
any_more false true = refl
any_more false false = refl

pub found_more : (before : List (List ℕ)) (name q : List ℕ) → list_any (bytes_eq q) (before ++ name ∷ []) ≡ cond (bytes_eq q name) true (list_any (bytes_eq q) before)
found_more before name q = list_any-append (bytes_eq q) before (name ∷ []) ∙ any_more (bytes_eq q name) (list_any (bytes_eq q) before)

-- ---- sets of names

-- what a set has once a name is put in or taken out
pub has_after : (old new : BTreeSet (Bor (List ℕ))) (name : Bor (List ℕ)) (b : Bool) → UpdatesBy name_cmp (λ text. slice_cmp nat_cmp name.now text.now) old new b
    → (q : List ℕ) → has_name new q ≡ cond (bytes_eq q name.now) b (has_name old q)
has_after old new name b updates q =
    updates.0 (lent q) ∙ ap (λ t. cond t b (has_name old q)) (is_eq-slice_cmp name.now q ∙ nat_list_eq_equiv.symm name.now q)

-- a set has its first name
pub has_first : (set : BTreeSet (Bor (List ℕ))) (first : Bor (List ℕ)) (others : List (Bor (List ℕ))) → set.keys ≡ first ∷ others → has_name set first.now ≡ true
has_first set first others is =
    ap (λ keys. list_any (λ (text : Bor (List ℕ)). is_eq (slice_cmp nat_cmp first.now text.now)) keys) is
    ∙ ap (λ t. t || list_any (λ (text : Bor (List ℕ)). is_eq (slice_cmp nat_cmp first.now text.now)) others) (is_eq-slice_cmp first.now first.now ∙ same_name first.now first.now refl)

-- ---- names as a loop reads them

module _ (names : List (Bor (List ℕ))) (i : ℕ) (d : Bor (List ℕ)) (within : i < length names) where
  -- one name more in a set
  pub set_more : (old new : BTreeSet (Bor (List ℕ))) → Updates name_cmp old new (get_or names i d) true
      → ((q : List ℕ) → has_name old q ≡ list_any (bytes_eq q) (texts_of (take i names)))
      → (q : List ℕ) → has_name new q ≡ list_any (bytes_eq q) (texts_of (take (i + 1) names))
  set_more old new updates so q =
      let name : List ℕ = (get_or names i d).now in
      has_after old new (get_or names i d) true updates q
      ∙ ap (λ b. cond (bytes_eq q name) true b) (so q)
      ∙ sym (found_more (texts_of (take i names)) name q)
      ∙ ap (list_any (bytes_eq q)) (sym (map_more (λ text. text.now) names i d within))

  -- one mark more
  pub mark_more : (f : List ℕ → Bool) (mark : Bool) (old new : List Bool) → mark ≡ f (get_or names i d).now → new ≡ old ++ mark ∷ []
      → old ≡ map f (texts_of (take i names)) → new ≡ map f (texts_of (take (i + 1) names))
  mark_more f mark old new is grown so =
      grown
      ∙ cc (so, is)
      ∙ sym (ap (map f) (map_more (λ text. text.now) names i d within) ∙ map-append f (texts_of (take i names)) ((get_or names i d).now ∷ []))
