-- What a query over one table shows: the rows that pass, each shown, in the order that is asked for.
use Rattle.std.proofs.Common.{◌≡◌, ℕ, ◌-◌, ◌^◌, nat_le, Bool, true, false, cond, List, [], ◌∷◌, map, filter, slice_get, None, unwrap_or, inl, inr, refl, ap, subst, ◌∙◌, arith}
use Rattle.std.specs.List.{list_all, flat_map}
use Rattle.std.specs.List.Sorted.{IsPermutation, IsSorted}
use Rattle.std.specs.Ordering.{is_lt}
use Rattle.std.specs.declared.cmp.Ordering.{Ordering}
use Rattle.std.specs.Cmp.{IsTotalOrder}
use Rattle.std.proofs.lemmas.Bool.{cases_Bool}
use Rattle.std.proofs.lemmas.List.Sorted.{IsPermutation-refl, IsPermutation-cons, IsPermutation-middle, IsPermutation-trans, sorted_far}
use Rattle.std.proofs.lemmas.List.MinMax.{ranks_by}
use Rattle.sqlite_value.specs.Order.{Row}
use Rattle.sqlite_value.specs.declared.value.Value.TheVariants.{Null}
use Rattle.sqlite_value.specs.declared.keys.Key.{Key}
use Rattle.sqlite_trees.specs.Tree.{Trees, IsAscending}
use Rattle.sqlite_trees.proofs.ListLemmas.{map-map, along_permutation, ascending_from_map}
use Rattle.sqlite_sql.specs.Term.{Term, eval, eval_all, holds}
use Rattle.sqlite_sql.specs.Query.{Query, IsAnswer, output, output_cmp, key_cmp, Output, as_count, limited}
use Rattle.sqlite_sql.specs.Program.{overlay}
use Rattle.sqlite_schema.specs.declared.command.Command.TheVariants.{Select}
use Rattle.sqlite_sql.proofs.QueryLemmas.{output_cmp_total}
use Rattle.sqlite.specs.State.{State, Shown}
use Rattle.sqlite.proofs.Callers.{reads_as}
use Rattle.cs_store_sql.specs.Statements.{limited_query, alone, IsSelect}
use Rattle.cs_store_sql.proofs.QueryTexts.{unlisted, plainly, commands}
use Rattle.cs_store_sql.proofs.RowLemmas.{ascending_from_pairs}

-- ---- an order of what was made of elements is an order of the elements

module _ {A B : Type 0} (f : A → B) where
  -- each list that the first was made of has an order that the second was made of
  abbrev Made : List B → List B → Type 0
  Made us vs = (xs : List A) → us ≡ map f xs → (ys : List A) × IsPermutation xs ys × (vs ≡ map f ys)

  -- the same under one more element, over an exchange of the first two, and for all orders
  made_skip : (b : B) (us vs : List B) → Made us vs → Made (b ∷ us) (b ∷ vs)
  made_skip b us vs h [] is = absurd cc
  made_skip b us vs h (x ∷ xs) is =
      let first : b ≡ f x = cc in
      let rest : us ≡ map f xs = cc in
      let found = h xs rest in
      let shown = found.2 in
      (x ∷ found.0, IsPermutation-cons x xs found.0 found.1, cc)

  made_turn : (a b : B) (us : List B) → Made (a ∷ b ∷ us) (b ∷ a ∷ us)
  made_turn a b us [] is = absurd cc
  made_turn a b us (x ∷ []) is = absurd cc
  made_turn a b us (x ∷ y ∷ xs) is =
      let first : a ≡ f x = cc in
      let second : b ≡ f y = cc in
      let rest : us ≡ map f xs = cc in
      (y ∷ x ∷ xs, IsPermutation-middle (x ∷ []) y xs, cc)

  -- so an order of what was made of elements was made of an order of them
  pub of_made : (xs : List A) (vs : List B) → IsPermutation (map f xs) vs → (ys : List A) × IsPermutation xs ys × (vs ≡ map f ys)
  of_made xs vs same =
      along_permutation Made (λ us zs is. (zs, IsPermutation-refl zs, is)) made_skip made_turn
      (λ us vs ws p q zs is. let one = p zs is in let two = q one.0 one.2 in (two.0, IsPermutation-trans zs one.0 two.0 one.1 two.1, two.2))
      (map f xs) vs same xs refl

-- ---- the rows that pass

-- to keep an environment for each row that passes is to make one of each that is kept
pub chosen_matches : {X : Type 0} (p : Row → Bool) (f : Row → X) (rows : List Row) → flat_map (λ r. cond (p r) (f r ∷ []) []) rows ≡ map f (filter p rows)
chosen_matches p f [] = refl
chosen_matches p f (r ∷ rows) = elim (cases_Bool (p r)) [
  | inl passes ↦ rw passes (ap (λ xs. f r ∷ xs) (chosen_matches p f rows))
  | inr fails ↦ rw fails (chosen_matches p f rows)
]

-- a row passes the terms of WHERE, what it shows, and what it is sorted by
abbrev pub passes_where : Query → Row → Row → Bool
passes_where q params row = list_all (holds (params ∷ row ∷ [])) q.filter

abbrev pub shown_of : Query → Row → Row → Row
shown_of q params row = eval_all q.project (params ∷ row ∷ [])

abbrev pub sorts : Query → Row → Row → Row → Ordering
sorts q params a b = key_cmp 0 (map (λ k. k.1) q.order) (eval_all (map (λ k. k.0) q.order) (params ∷ a ∷ [])) (eval_all (map (λ k. k.0) q.order) (params ∷ b ∷ []))

-- the rows that pass, in the order that is asked for, and as many as are asked for
pub record ShowsChosen (q : Query) (rows : List Row) (params : Row) (shown : List Row) : Type 0 where
  pub chosen : List Row
  pub same : IsPermutation (filter (passes_where q params) rows) chosen
  pub rising : IsAscending (λ a b. is_lt (sorts q params b a) ≡ false) chosen
  pub is : shown ≡ limited (as_count (eval q.limit (params ∷ []))) (map (shown_of q params) chosen)

-- what was made of elements is in order, and so are they
rising_of : {A B : Type 0} (f : A → B) (cmp : B → B → Ordering) → IsTotalOrder cmp → (xs : List A) → IsSorted cmp (map f xs) → IsAscending (λ a b. is_lt (cmp (f b) (f a)) ≡ false) xs
rising_of f cmp total xs sorted =
    ascending_from_map (λ a b. is_lt (cmp b a) ≡ false) f xs
    (ascending_from_pairs (λ a b. is_lt (cmp b a) ≡ false) (map f xs) (λ i j d below low. sorted_far (λ x y. is_lt (cmp x y)) (ranks_by total (λ x. x)) (map f xs) sorted i j d (omega arith) low))

-- the answer of a query over one table shows the rows that pass, in the order that is asked for
pub answer_chosen : (tree : ℕ) (terms project : List Term) (order : List (Term × Key)) (limit : Term) (db : Trees) (params : Row) (rows : List Row) → IsAnswer (limited_query tree terms project order limit) db params rows
    → ShowsChosen (limited_query tree terms project order limit) (db tree) params rows
answer_chosen tree terms project order limit db params rows a =
    let q = limited_query tree terms project order limit in
    let most = as_count (eval limit (params ∷ [])) in
    let made : Row → Output = λ r. output q (params ∷ r ∷ []) in
    let passing = filter (passes_where q params) (db tree) in
    let staged : a.staged ≡ map (λ r. params ∷ r ∷ []) passing = a.grouped ∙ chosen_matches (passes_where q params) (λ r. params ∷ r ∷ []) (db tree) in
    let kept : a.kept ≡ map made passing = a.distinct ∙ ap (map (output q)) staged ∙ map-map (output q) (λ r. params ∷ r ∷ []) passing in
    let found = of_made made passing a.ordered (subst (λ k. IsPermutation k a.ordered) kept a.same) in
    let sorted : IsSorted (output_cmp q) (map made found.0) = subst (IsSorted (output_cmp q)) found.2 a.sorted in
    record {
      chosen = found.0;
      same = found.1;
      rising = rising_of made (output_cmp q) (output_cmp_total q) found.0 sorted;
      is = a.shown ∙ ap (λ os. limited most (map (λ (o : Output). o.1) os)) found.2 ∙ ap (limited most) (map-map (λ (o : Output). o.1) made found.0);
    }

-- where a statement computes no table, it reads those of the database
pub overlay_none : (db : Trees) (tree : ℕ) → overlay db [] tree ≡ db tree
overlay_none db tree =
    let none : List (List Row) = [] in
    elim (nat_le (2 ^ 31) tree) as (λ b. unwrap_or (cond b (slice_get none (tree - 2 ^ 31)) None) (db tree) ≡ db tree) [ true ↦ refl | false ↦ refl ]

-- a text that is that query shows it
pub shows_chosen : {count : ℕ} (sql : List ℕ) (tree : ℕ) (terms project : List Term) (order : List (Term × Key)) (limit : Term) (params : Row) (old new : State) (rows : List Row)
    → IsSelect old.now.schema sql count (limited_query tree terms project order limit) → Shown sql params old new rows
    → ShowsChosen (limited_query tree terms project order limit) (old.now.trees tree) params rows
shows_chosen sql tree terms project order limit params old new rows asks shown =
    let q = limited_query tree terms project order limit in
    let it = asks.0 in
    let is = commands old.now.schema sql it asks.1 ∙ asks.2.1 in
    let reads = reads_as sql params old new old.now.schema refl (Select (alone q) asks.2.0) is (plainly old.now.schema sql it asks.1) (unlisted old.now.schema sql it asks.1.is) rows shown in
    subst (λ l. ShowsChosen q l params rows) (overlay_none old.now.trees tree) (answer_chosen tree terms project order limit (overlay old.now.trees []) params rows (reads.answer Null))
