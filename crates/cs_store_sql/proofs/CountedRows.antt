-- What the query that counts the records under a name shows: one row with their number.
use Rattle.std.proofs.Common.{◌≡◌, ℕ, true, false, List, [], ◌∷◌, length, map, filter, Some, inl, inr, refl, sym, ap, subst, ◌∙◌}
use Rattle.std.specs.List.{AllByRecursion, AllZip, list_all}
use Rattle.std.specs.List.Sorted.{IsPermutation}
use Rattle.std.specs.Cmp.{IsTotalOrder}
use Rattle.std.specs.Ordering.{is_lt, ordering_reverse}
use Rattle.std.specs.declared.cmp.Ordering.{Ordering}
use Rattle.std.specs.declared.cmp.Ordering.TheVariants.{Less, Equal, Greater}
use Rattle.std.proofs.lemmas.Bool.{cases_Bool, false_from_ne_true}
use Rattle.std.proofs.lemmas.Cmp.{nat_list_cmp_total, on_total}
use Rattle.std.proofs.lemmas.List.{length-map}
use Rattle.std.proofs.lemmas.List.Sorted.{IsPermutation-refl, IsPermutation-cons, IsPermutation-middle, IsPermutation-trans, length_permutation}
use Rattle.sqlite_value.specs.declared.value.Value.TheVariants.{Null, Text}
use Rattle.sqlite_value.specs.Order.{Row, column}
use Rattle.sqlite_trees.specs.Tree.{Trees, IsAscending}
use Rattle.sqlite_trees.proofs.ListLemmas.{all-permutation, all_weaker, filter_same}
use Rattle.sqlite_sql.specs.Term.{Term, Env, holds, lit, eval}
use Rattle.sqlite_sql.specs.Aggregate.{count}
use Rattle.sqlite_sql.specs.Group.{IsSummary, value_over}
use Rattle.sqlite_sql.specs.Query.{IsAnswer, Output, output}
use Rattle.sqlite_sql.specs.Program.{overlay}
use Rattle.sqlite_schema.specs.declared.command.Command.TheVariants.{Select}
use Rattle.sqlite.specs.State.{State, Shown}
use Rattle.sqlite.proofs.Callers.{one_permutation, reads_as}
use Rattle.cs_store_sql.specs.Records.{records_tree, record_rows, HoldsRecords, Counts, content, records_in}
use Rattle.cs_store_sql.specs.Statements.{all_rows, counting_query, count_text, count_query, alone, IsSelect}
use Rattle.cs_store_sql.proofs.QueryTexts.{unlisted, plainly, commands}
use Rattle.cs_store_sql.proofs.RowLemmas.{IsRecordRow, are_records}
use Rattle.cs_store_sql.proofs.AnswerLemmas.{passes_where, chosen_matches, overlay_none}
use Rattle.cs_store_sql.proofs.ListedRows.{keyed_of, has_name, by_key, list_passes, lists_chosen}

-- ---- one group

one_value : (order : List Env) (values : Row) → AllZip (λ a v. value_over order a ≡ Some v) all_rows.aggregates values → values ≡ count (length order) ∷ []
one_value order [] h = absurd h
one_value order (v ∷ []) h =
    let is : count (length (map (eval (lit Null)) order)) ≡ v = (let e = h.0 in cc) in
    ap (λ v. v ∷ []) (sym is ∙ ap count (length-map order (eval (lit Null))))
one_value order (v ∷ w ∷ values) h = absurd h.1

-- all rows are one group, and its row is their number
one_summary : (order : List Env) (rows : List Row) → AllZip (IsSummary all_rows) (order ∷ []) rows → rows ≡ (count (length order) ∷ []) ∷ []
one_summary order [] h = absurd h
one_summary order (row ∷ []) h = ap (λ (r : Row). r ∷ []) (h.0.2 ∙ one_value order h.0.0 h.0.1)
one_summary order (row ∷ other ∷ rows) h = absurd h.1

counted_answer : (tree : ℕ) (terms : List Term) (db : Trees) (params : Row) (rows : List Row) → IsAnswer (counting_query tree terms) db params rows
    → rows ≡ (count (length (filter (passes_where (counting_query tree terms) params) (db tree))) ∷ []) ∷ []
counted_answer tree terms db params rows a =
    let q = counting_query tree terms in
    let passing = filter (passes_where q params) (db tree) in
    let g = a.grouped in
    let order = g.grouping.0 in
    let long : length order ≡ length passing =
    length_permutation _ order g.grouping.1 ∙ ap length (chosen_matches (passes_where q params) (λ r. params ∷ r ∷ []) (db tree)) ∙ length-map passing (λ (r : Row). params ∷ r ∷ []) in
    let summary : g.rows ≡ (count (length order) ∷ []) ∷ [] = one_summary order g.rows (subst (λ groups. AllZip (IsSummary all_rows) groups g.rows) g.grouping.2 g.summaries) in
    let staged = g.having ∙ ap (λ (rs : List Row). filter (λ env. list_all (holds env) []) (map (λ r. params ∷ r ∷ []) rs)) summary in
    let kept : a.kept ≡ ([], count (length order) ∷ []) ∷ [] = a.distinct ∙ ap (map (output q)) staged in
    let ordered = one_permutation ([], count (length order) ∷ []) a.ordered (subst (λ k. IsPermutation k a.ordered) kept a.same) in
    a.shown ∙ ap (map (λ (o : Output). o.1)) ordered ∙ ap (λ n. (count n ∷ []) ∷ []) long

-- a text that is that query shows their number
shows_count : {count_of : ℕ} (sql : List ℕ) (tree : ℕ) (terms : List Term) (params : Row) (old new : State) (rows : List Row)
    → IsSelect old.now.schema sql count_of (counting_query tree terms) → Shown sql params old new rows
    → rows ≡ (count (length (filter (passes_where (counting_query tree terms) params) (old.now.trees tree))) ∷ []) ∷ []
shows_count sql tree terms params old new rows asks shown =
    let q = counting_query tree terms in
    let it = asks.0 in
    let is = commands old.now.schema sql it asks.1 ∙ asks.2.1 in
    let reads = reads_as sql params old new old.now.schema refl (Select (alone q) asks.2.0) is (plainly old.now.schema sql it asks.1) (unlisted old.now.schema sql it asks.1.is) rows shown in
    subst (λ l. rows ≡ (count (length (filter (passes_where q params) l)) ∷ []) ∷ []) (overlay_none old.now.trees tree) (counted_answer tree terms (overlay old.now.trees []) params rows (reads.answer Null))

-- ---- each list has an order that rises

module _ {X : Type 0} (cmp : X → X → Ordering) (total : IsTotalOrder cmp) where
  abbrev NotAbove : X → X → Type 0
  NotAbove a b = is_lt (cmp b a) ≡ false

  back : (a b : X) (o : Ordering) → cmp a b ≡ o → cmp b a ≡ ordering_reverse o
  back a b o is = total.antisymm b a ∙ ap ordering_reverse is

  less_is : (o : Ordering) → is_lt o ≡ true → o ≡ Less
  less_is Less h = refl
  less_is Equal h = absurd cc
  less_is Greater h = absurd cc

  not_both : (o : Ordering) → o ≡ Less → is_lt o ≡ false → ⊥
  not_both Less p q = let e : true ≡ false = q in cc
  not_both Equal p q = let e = ap is_lt p in (let none : false ≡ true = e in cc)
  not_both Greater p q = let e = ap is_lt p in (let none : false ≡ true = e in cc)

  through : (a b c : X) → NotAbove a b → NotAbove b c → NotAbove a c
  through a b c p q = false_from_ne_true _ (λ low. by (cmp a b) refl (less_is _ low))
    where
      by : (o : Ordering) → cmp a b ≡ o → cmp c a ≡ Less → ⊥
      by Less is below = not_both _ (total.trans c a b below is) q
      by Equal is below = not_both _ (back b c Greater (sym (total.congr a b c is) ∙ back c a Less below)) q
      by Greater is below = not_both _ (back a b Greater is) p

  all_through : (a b : X) (ys : List X) → NotAbove a b → AllByRecursion (NotAbove b) ys → AllByRecursion (NotAbove a) ys
  all_through a b [] p h = tt
  all_through a b (y ∷ ys) p h = (through a b y p h.0, all_through a b ys p h.1)

  put : (x : X) (ys : List X) → IsAscending NotAbove ys → (zs : List X) × IsPermutation (x ∷ ys) zs × IsAscending NotAbove zs
  put x [] up = (x ∷ [], IsPermutation-refl (x ∷ []), (tt, tt))
  put x (y ∷ ys) up = elim (cases_Bool (is_lt (cmp y x))) [
    | inl above ↦
        let more = put x ys up.1 in
        let own : NotAbove y x = ap is_lt (back y x Less (less_is _ above)) in
        (y ∷ more.0, IsPermutation-trans _ _ _ (IsPermutation-middle (x ∷ []) y ys) (IsPermutation-cons y (x ∷ ys) more.0 more.1), (all-permutation (NotAbove y) (x ∷ ys) more.0 more.1 (own, up.0), more.2))
    | inr below ↦ (x ∷ y ∷ ys, IsPermutation-refl (x ∷ y ∷ ys), ((below, all_through x y ys below up.0), up))
  ]

  pub in_order : (xs : List X) → (ys : List X) × IsPermutation xs ys × IsAscending NotAbove ys
  in_order [] = ([], IsPermutation-refl [], tt)
  in_order (x ∷ xs) =
      let more = in_order xs in
      let all = put x more.0 more.2 in
      (all.0, IsPermutation-trans _ _ _ (IsPermutation-cons x xs more.0 more.1) all.1, all.2)

-- the query counts the records under a name
pub counts_table : (tab : List ℕ) (old new : State) (rows : List Row) → HoldsRecords old.now → Shown count_text (Text tab ∷ []) old new rows
    → (n : ℕ) × Counts (records_in old.now) tab n × (rows ≡ (count n ∷ []) ∷ [])
counts_table tab old new rows h shown =
    let all = record_rows old.now in
    let tree = records_tree old.now.schema in
    let records = are_records old.now h in
    let named = filter (has_name tab) all in
    let passing : filter (passes_where (count_query tree) (Text tab ∷ [])) all ≡ named =
    filter_same (passes_where (count_query tree) (Text tab ∷ [])) (has_name tab) all (all_weaker IsRecordRow _ (list_passes tree tab) all records.each) in
    let listed = in_order by_key (on_total (λ r. content (column r 2)) nat_list_cmp_total) named in (
      length named,
      (map keyed_of listed.0, lists_chosen tab old.now by_key (λ a b x y. refl) listed.0 h listed.1 listed.2, sym (length_permutation named listed.0 listed.1) ∙ sym (length-map listed.0 keyed_of)),
      shows_count count_text tree _ (Text tab ∷ []) old new rows h.declares.statements.counts shown ∙ ap (λ (l : List Row). (count (length l) ∷ []) ∷ []) passing,
    )
