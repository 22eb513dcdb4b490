-- Columns that are named, one name after the other.
use Rattle.std.proofs.Common.{bytes_eq, ◌≡◌, ◌≢◌, ℕ, ◌+◌, ◌<◌, List, [], ◌∷◌, ◌++◌, length, get_or, take, map, Bool, true, false, cond, not, ◌&&◌, ◌||◌, Bor, refl, sym, ap, subst, ◌∙◌, true≢false, arith}
use Rattle.std.specs.List.{list_any, All, Any, Contains}
use Rattle.std.specs.BTreeSet.{BTreeSet, UpdatesBy}
use Rattle.std.specs.Cmp.Lexicographic.{slice_cmp}
use Rattle.std.specs.Ordering.{nat_cmp}
use Rattle.std.proofs.lemmas.Cmp.{nat_list_eq_equiv}
use Rattle.std.proofs.lemmas.List.{take_more, get_or-take, length-take}
use Rattle.std.proofs.lemmas.List.Elements.{All-push, Contains-get_or, recursion_from_All}
use Rattle.std.proofs.lemmas.List.Folds.{Any-from_list_any, list_any-from_Any}
use Rattle.std.proofs.lemmas.List.Quantifiers.{all_pairs_push}
use Rattle.std.proofs.lemmas.Map.Views.{All-from_any}
use Rattle.std.specs.List.{AllByRecursion}
use Rattle.cs_value.specs.State.{SchemaData}
use Rattle.cs_shell_grammar.specs.Commands.{AssignmentData}
use Rattle.cs_shell_columns.specs.Columns.{AreColumns, NamesKey, columns_of, key_names, marks_of}
use Rattle.cs_shell_columns.specs.Names.{has_name, HasOthers}
use Rattle.cs_shell_columns.proofs.NameLemmas.{name_cmp, one_name, same_name, Contains-found, found-Contains, found_more, has_after, has_first}

-- ---- lists of names

pub Any-Contains : (names : List (List ℕ)) (name : List ℕ) → Contains names name → Any (λ n. n ≡ name) names
Any-Contains names name there = (there.0, name, there.1, there.2, refl)

pub Contains-Any : (names : List (List ℕ)) (name : List ℕ) → Any (λ n. n ≡ name) names → Contains names name
Contains-Any names name any = (any.0, any.2, subst (λ n. get_or names any.0 n ≡ n) any.4 any.3)

pub list_any-map : {X Y : Type 0} (p : Y → Bool) (f : X → Y) (xs : List X) → list_any p (map f xs) ≡ list_any (λ x. p (f x)) xs
list_any-map p f [] = refl
list_any-map p f (x ∷ xs) = ap (λ b. p (f x) || b) (list_any-map p f xs)

-- ---- a set from which the names so far are taken

pub HasOthers-none : (columns : List (List ℕ)) (set : BTreeSet (Bor (List ℕ))) → ((name : List ℕ) → has_name set name ≡ list_any (bytes_eq name) columns) → HasOthers columns [] set
HasOthers-none columns set has = record { each = λ name. has name ∙ alone (list_any (bytes_eq name) columns) }
  where
    alone : (b : Bool) → b ≡ (b && not false)
    alone true = refl
    alone false = refl

AreColumns-none : (columns : List (List ℕ)) → AreColumns columns []
AreColumns-none columns = record {
  known = λ k d lt. absurd (omega arith);
  once = λ i j d lt below. absurd (omega arith);
}

-- the names so far are columns, and the set has the others
pub record TakenSoFar (columns names : List (List ℕ)) (i : ℕ) (set : BTreeSet (Bor (List ℕ))) : Type 0 where
  pub known : AreColumns columns (take i names)
  pub others : HasOthers columns (take i names) set

pub TakenSoFar-none : (columns names : List (List ℕ)) (set : BTreeSet (Bor (List ℕ))) → ((name : List ℕ) → has_name set name ≡ list_any (bytes_eq name) columns) → TakenSoFar columns names 0 set
TakenSoFar-none columns names set has = record { known = AreColumns-none columns; others = HasOthers-none columns set has }

-- a column that is none of the names
both : (a b : Bool) → (a && not b) ≡ true → (a ≡ true) × (b ≡ false)
both true true e = absurd (true≢false (sym e))
both true false e = (refl, refl)
both false b e = absurd (true≢false (sym e))

either : (a b : Bool) → (a && not b) ≡ false → a ≡ true → b ≡ true
either true true e h = refl
either true false e h = absurd (true≢false e)
either false b e h = absurd (true≢false (sym h))

taken : (s c b : Bool) → cond s false (c && not b) ≡ (c && not (cond s true b))
taken true true b = refl
taken true false b = refl
taken false c b = refl

module _ (columns names : List (List ℕ)) (i : ℕ) (set : BTreeSet (Bor (List ℕ))) (name : Bor (List ℕ)) (within : i < length names) (here : get_or names i name.now ≡ name.now) (so : TakenSoFar columns names i set) where
  -- a name that the set does not have is no column, or came before
  pub misnamed : has_name set name.now ≡ false → AreColumns columns names → ⊥
  misnamed none fit =
      let is_column : Any (λ column. column ≡ name.now) columns = subst (λ n. Any (λ column. column ≡ n) columns) here (fit.known i name.now within) in
      let stood = Contains-found (take i names) name.now (either _ _ (sym (so.others.each name.now) ∙ none) (found-Contains columns name.now (Contains-Any columns name.now is_column))) in
      let below : stood.0 < i = omega (arith, stood.1, length-take {A = List ℕ}) in
      fit.once stood.0 i name.now below within (sym (get_or-take i names stood.0 name.now below) ∙ stood.2 ∙ sym here)

  -- one name more
  pub TakenSoFar-more : (next : BTreeSet (Bor (List ℕ))) → has_name set name.now ≡ true → UpdatesBy name_cmp (λ text. slice_cmp nat_cmp name.now text.now) set next false → TakenSoFar columns names (i + 1) next
  TakenSoFar-more next had updates =
      let parts = both _ _ (sym (so.others.each name.now) ∙ had) in
      let more : take (i + 1) names ≡ take i names ++ name.now ∷ [] = take_more names i name.now within ∙ ap (λ x. take i names ++ x ∷ []) here in
      record {
        known = record {
          known = rw more (All-push (λ n. Any (λ column. column ≡ n) columns) (take i names) name.now so.known.known (Any-Contains columns name.now (Contains-found columns name.now parts.0)));
          once = rw more (all_pairs_push ◌≢◌ (take i names) name.now so.known.once (λ k d lt e.
              true≢false (sym (found-Contains (take i names) name.now (subst (Contains (take i names)) e (Contains-get_or (take i names) k d lt))) ∙ parts.1)));
        };
        others = record {
          each = λ q. rw more (
              has_after set next name false updates q
              ∙ ap (λ b. cond (bytes_eq q name.now) false b) (so.others.each q)
              ∙ taken (bytes_eq q name.now) (list_any (bytes_eq q) columns) (list_any (bytes_eq q) (take i names))
              ∙ ap (λ b. list_any (bytes_eq q) columns && not b) (sym (found_more (take i names) name.now q)));
        };
      }

-- ---- marks

twice : (a b c : Bool) → c ≡ (a && not b) → a ≡ true → not c ≡ b
twice true true c e h = ap not e
twice true false c e h = ap not e
twice false b c e h = absurd (true≢false (sym h))

map_same : {X Y : Type 0} (f g : X → Y) (xs : List X) → AllByRecursion (λ x. f x ≡ g x) xs → map f xs ≡ map g xs
map_same f g [] each = refl
map_same f g (x ∷ xs) each = cc (each.0, map_same f g xs each.1)

-- the columns that the set does not have are those of the key
pub marked : (columns keys : List (List ℕ)) (set : BTreeSet (Bor (List ℕ))) → HasOthers columns keys set → map (λ name. not (has_name set name)) columns ≡ marks_of columns keys
marked columns keys set others =
    let same : List ℕ → Type 0 = λ name. not (has_name set name) ≡ list_any (bytes_eq name) keys in
    map_same (λ name. not (has_name set name)) (λ name. list_any (bytes_eq name) keys) columns
    (recursion_from_All same columns (All-from_any nat_list_eq_equiv same columns (λ name found.
    twice (list_any (bytes_eq name) columns) (list_any (bytes_eq name) keys) (has_name set name) (others.each name) found)))

-- the same of lists that are these columns and names
pub marked_as : (columns keys listed named all : List (List ℕ)) (set : BTreeSet (Bor (List ℕ))) → HasOthers listed named set → listed ≡ columns → named ≡ keys → all ≡ columns
    → map (λ name. not (has_name set name)) all ≡ marks_of columns keys
marked_as columns keys listed named all set others is_listed is_named is_all =
    ap (map (λ name. not (has_name set name))) (is_all ∙ sym is_listed) ∙ marked listed named set others ∙ cc (is_listed, is_named)

-- ---- conditions

nothing_found : (p : Bor (List ℕ) → Bool) (keys : List (Bor (List ℕ))) → length keys ≡ 0 → list_any p keys ≡ false
nothing_found p [] empty = refl
nothing_found p (key ∷ keys) empty = absurd (omega arith)

module _ (schema : SchemaData) (conditions : List AssignmentData) (set : BTreeSet (Bor (List ℕ))) (others : HasOthers (key_names schema) (columns_of conditions) set) where
  -- where the set has nothing, each column of the key is named
  pub each_named : length set.keys ≡ 0 → All (λ name. Any (λ a. a.column ≡ name) conditions) (key_names schema)
  each_named empty = All-from_any nat_list_eq_equiv (λ name. Any (λ a. a.column ≡ name) conditions) (key_names schema) (λ name found.
      let named : list_any (bytes_eq name) (columns_of conditions) ≡ true = either _ _ (sym (others.each name) ∙ nothing_found _ set.keys empty) found in
      let one = Any-from_list_any (λ (a : AssignmentData). bytes_eq name a.column) conditions (sym (list_any-map (bytes_eq name) (λ a. a.column) conditions) ∙ named) in
      (one.0, one.1, one.2, one.3, sym (one_name name one.1.column one.4)))

  -- where it has something, a column of the key is not
  pub one_left : (length set.keys ≡ 0 → ⊥) → NamesKey schema conditions → ⊥
  one_left some names = at set.keys refl some
    where
      at : (keys : List (Bor (List ℕ))) → set.keys ≡ keys → (length keys ≡ 0 → ⊥) → ⊥
      at [] is some = some refl
      at (first ∷ keys) is some =
          let parts = both _ _ (sym (others.each first.now) ∙ has_first set first keys is) in
          let place = Contains-found (key_names schema) first.now parts.0 in
          let one = subst (λ n. Any (λ a. a.column ≡ n) conditions) place.2 (names.each place.0 first.now place.1) in
          let named = list_any-from_Any (λ (a : AssignmentData). bytes_eq first.now a.column) conditions (one.0, one.1, one.2, one.3, same_name first.now one.1.column (sym one.4)) in
          true≢false (sym (list_any-map (bytes_eq first.now) (λ a. a.column) conditions ∙ named) ∙ parts.1)

-- the same of lists that are the key's columns and the conditions'
module _ (schema : SchemaData) (conditions : List AssignmentData) (listed named : List (List ℕ)) (set : BTreeSet (Bor (List ℕ))) (is_listed : listed ≡ key_names schema) (is_named : named ≡ columns_of conditions) (others : HasOthers listed named set) where
  theirs : HasOthers (key_names schema) (columns_of conditions) set
  theirs = rw (← is_listed, ← is_named) others

  pub names_key : AreColumns listed named → length set.keys ≡ 0 → NamesKey schema conditions
  names_key fit empty = record {
    columns = rw (← is_listed, ← is_named) fit;
    each = each_named schema conditions set theirs empty;
  }

  pub names_no_key : (length set.keys ≡ 0 → ⊥) → NamesKey schema conditions → ⊥
  names_no_key some = one_left schema conditions set theirs some
