-- What the query for the records under a name shows: those of that name, by their key.
use Rattle.std.proofs.Common.{bytes_eq, ◌≡◌, ℕ, ◌&&◌, Bool, true, false, cond, List, [], ◌∷◌, map, filter, find, option_map, Option, Some, IsTrue, inl, inr, refl, sym, ap, subst, ◌∙◌}
use Rattle.std.specs.List.{AllByRecursion}
use Rattle.std.specs.List.Sorted.{IsPermutation}
use Rattle.std.specs.Cmp.{IsTotalOrder, tied_itself}
use Rattle.std.specs.Cmp.Lexicographic.{slice_cmp, texts_ties}
use Rattle.std.specs.Ordering.{nat_cmp, is_lt, is_eq, ordering_reverse}
use Rattle.std.specs.declared.cmp.Ordering.{Ordering}
use Rattle.std.specs.declared.cmp.Ordering.TheVariants.{Less, Equal, Greater}
use Rattle.std.specs.FinMap.{is_sorted, find as find_entry}
use Rattle.std.specs.FinMap.Entries.{below_all}
use Rattle.std.proofs.Math.Bool.{and-true}
use Rattle.std.proofs.lemmas.Bool.{and_from, and_parts, cases_Bool}
use Rattle.std.proofs.lemmas.List.Sorted.{IsPermutation-sym}
use Rattle.std.proofs.lemmas.Cmp.{nat_list_cmp_total, nat_list_eq_equiv, on_total}
use Rattle.sqlite_value.specs.declared.value.Value.TheVariants.{Text}
use Rattle.sqlite_value.specs.Order.{Row, column}
use Rattle.sqlite_value.proofs.OrderLemmas.{value_cmp-Blob, then-Equal}
use Rattle.sqlite_trees.specs.Tree.{IsAscending}
use Rattle.sqlite_trees.proofs.ListLemmas.{map-map, filter_same, all_weaker, ascending-map}
use Rattle.sqlite_rules.specs.Lists.{Has}
use Rattle.sqlite_rules.proofs.ListLemmas.{all_has, all_from, has_filtered}
use Rattle.sqlite.specs.Effect.{Database}
use Rattle.sqlite.specs.State.{State, Shown}
use Rattle.cs_store_sql.specs.Records.{records_tree, record_rows, record_of, Records, HoldsRecords, ListsTable, is_under, content, records_of, records_in, shown_keyed}
use Rattle.cs_store_sql.proofs.RowLemmas.{IsRecordRow, AreRecords, HaveOneKey, IsUnder, same_is, under_is, under_from, records_under, records_in_is, are_records, records_filtered, records_permuted, records_of-permutation, records_of-filter, ascending_of_members, has_permuted}
use Rattle.cs_store_sql.proofs.OrderLemmas.{tied_bytes, below_from, ascending_both}
use Rattle.cs_store_sql.specs.Statements.{list_text, list_query}
use Rattle.cs_store_sql.proofs.AnswerLemmas.{passes_where, sorts, shows_chosen}
use Rattle.cs_store_sql.proofs.FoundRows.{name_passes}

-- rows of records that are in order rise, where rows that tie in that order have one key
pub rise : (by cmp : Row → Row → Ordering) → IsTotalOrder cmp → ((a b : Row) → IsRecordRow a → IsRecordRow b → by a b ≡ cmp a b)
    → (rows : List Row) → ((a b : Row) → Has rows a → Has rows b → cmp a b ≡ Equal → HaveOneKey a b) → AreRecords rows → IsAscending (λ a b. is_lt (by b a) ≡ false) rows
    → IsAscending (λ a b. cmp a b ≡ Less) rows
rise by cmp total same rows one h up =
    ascending_of_members (λ a b. (is_lt (by b a) ≡ false) × (¬ HaveOneKey a b)) (λ a b. cmp a b ≡ Less) rows
    (λ a b p q both.
    let not_above = subst (λ o. is_lt o ≡ false) (same b a (all_has IsRecordRow rows b h.each q) (all_has IsRecordRow rows a h.each p)) both.0 in
    below_from cmp total a b not_above (λ tied. both.1 (one a b p q tied)))
    (ascending_both (λ a b. is_lt (by b a) ≡ false) (λ a b. ¬ HaveOneKey a b) rows up h.apart)

-- ---- the records under a name

-- what a row shows, the test for a name and the order by keys, on the bytes of its values
abbrev pub keyed_of : Row → List ℕ × List ℕ
keyed_of row = (content (column row 2), content (column row 3))

abbrev pub has_name : List ℕ → Row → Bool
has_name tab row = bytes_eq (content (column row 1)) tab

abbrev pub by_key : Row → Row → Ordering
by_key a b = slice_cmp nat_cmp (content (column a 2)) (content (column b 2))

-- on rows of records the query tests and sorts by these
pub list_passes : (tree : ℕ) (tab : List ℕ) (row : Row) → IsRecordRow row → passes_where (list_query tree) (Text tab ∷ []) row ≡ has_name tab row
list_passes tree tab row r = rw (name_passes row tab r, and-true)

list_sorts : (tree : ℕ) (tab : List ℕ) (a b : Row) → IsRecordRow a → IsRecordRow b → sorts (list_query tree) (Text tab ∷ []) a b ≡ by_key a b
list_sorts tree tab a b x y = then-Equal _ ∙ rw (x.is, y.is) (value_cmp-Blob x.key y.key)

-- entries that rise are sorted
below_entries : {X : Type 0} (key : List ℕ) (entries : List (List ℕ × X)) → AllByRecursion (λ e. slice_cmp nat_cmp key e.0 ≡ Less) entries → IsTrue (below_all (slice_cmp nat_cmp) key entries)
below_entries key [] h = refl
below_entries key (e ∷ entries) h = and_from _ _ (ap is_lt h.0) (below_entries key entries h.1)

pub sorted_entries : {X : Type 0} (entries : List (List ℕ × X)) → IsAscending (λ a b. slice_cmp nat_cmp a.0 b.0 ≡ Less) entries → IsTrue (is_sorted (slice_cmp nat_cmp) entries)
sorted_entries [] up = refl
sorted_entries (e ∷ entries) up = and_from _ _ (below_entries e.0 entries up.0) (sorted_entries entries up.1)

-- one step of a search among entries and of the same among rows
found_step : {X Y : Type 0} (f : X → Y) (t n s : Bool) (x : X) (e : Option Y) (o : Option X) → t ≡ s → n ≡ true → e ≡ option_map f o
    → cond t (Some (f x)) e ≡ option_map f (cond (n && s) (Some x) o)
found_step f t false s x e o same named rest = absurd cc
found_step f true true true x e o same named rest = refl
found_step f true true false x e o same named rest = absurd cc
found_step f false true true x e o same named rest = absurd cc
found_step f false true false x e o same named rest = rest

-- among rows of one name the key finds the entry of the row
pub found_entry : (tab key : List ℕ) (rows : List Row) → AllByRecursion (λ row. has_name tab row ≡ true) rows
    → find_entry (slice_cmp nat_cmp) key (map keyed_of rows) ≡ records_of rows tab key
unfolding records_of
found_entry tab key [] named = refl
found_entry tab key (row ∷ rows) named =
    let here = content (column row 2) in
    found_step (λ r. content (column r 3)) _ (has_name tab row) (bytes_eq here key) row _ (find (is_under tab key) rows)
    (sym (texts_ties key here) ∙ nat_list_eq_equiv.symm key here) named.0 (found_entry tab key rows named.1)

-- the rows of a name, in the order of their keys, list its records
pub lists_chosen : (tab : List ℕ) (db : Database) (by : Row → Row → Ordering) → ((a b : Row) → IsRecordRow a → IsRecordRow b → by a b ≡ by_key a b) → (chosen : List Row) → HoldsRecords db
    → IsPermutation (filter (has_name tab) (record_rows db)) chosen → IsAscending (λ a b. is_lt (by b a) ≡ false) chosen → ListsTable (records_in db) tab (map keyed_of chosen)
lists_chosen tab db by so chosen h same up =
    let all = record_rows db in
    let records = are_records db h in
    let named_records = records_filtered (has_name tab) all records in
    let chosen_records = records_permuted _ chosen same named_records in
    let named : AllByRecursion (λ row. has_name tab row ≡ true) chosen =
    all_from (λ row. has_name tab row ≡ true) chosen (λ row has. (has_filtered (has_name tab) all row (has_permuted chosen _ row (IsPermutation-sym _ _ same) has)).1) in
    let one : (a b : Row) → Has chosen a → Has chosen b → by_key a b ≡ Equal → HaveOneKey a b = λ a b p q tied. record {
      tab = same_is _ tab (all_has (λ row. has_name tab row ≡ true) chosen a named p) ∙ sym (same_is _ tab (all_has (λ row. has_name tab row ≡ true) chosen b named q));
      key = tied_bytes _ _ tied;
    } in
    record {
      rising = sorted_entries (map keyed_of chosen) (ascending-map (λ a b. slice_cmp nat_cmp a.0 b.0 ≡ Less) keyed_of chosen
          (rise by by_key (on_total (λ r. content (column r 2)) nat_list_cmp_total) so chosen one chosen_records up));
      each = λ key. found_entry tab key chosen named ∙ records_of-permutation _ chosen tab key named_records same ∙ records_of-filter (has_name tab) all tab key (λ row has fails. rw fails);
    }

-- the query lists the records under a name
pub lists_table : (tab : List ℕ) (old new : State) (rows : List Row) → HoldsRecords old.now → Shown list_text (Text tab ∷ []) old new rows
    → ListsTable (records_in old.now) tab (map shown_keyed rows)
lists_table tab old new rows h shown =
    let all = record_rows old.now in
    let tree = records_tree old.now.schema in
    let records = are_records old.now h in
    let s = shows_chosen list_text tree _ _ _ _ (Text tab ∷ []) old new rows h.declares.statements.lists shown in
    let passing : filter (passes_where (list_query tree) (Text tab ∷ [])) all ≡ filter (has_name tab) all =
    filter_same (passes_where (list_query tree) (Text tab ∷ [])) (has_name tab) all (all_weaker IsRecordRow _ (list_passes tree tab) all records.each) in
    let same : IsPermutation (filter (has_name tab) all) s.chosen = subst (λ l. IsPermutation l s.chosen) passing s.same in
    let listed : map shown_keyed rows ≡ map keyed_of s.chosen = ap (map shown_keyed) s.is ∙ map-map shown_keyed _ s.chosen in
    subst (ListsTable (records_in old.now) tab) (sym listed) (lists_chosen tab old.now (sorts (list_query tree) (Text tab ∷ [])) (list_sorts tree tab) s.chosen h same s.rising)

-- ---- what is listed, and what is there

-- the test for what is below
less_is : (o : Ordering) → is_lt o ≡ true → o ≡ Less
less_is Less h = refl
less_is Equal h = absurd cc
less_is Greater h = absurd cc

-- a key below others is below each of them
below_each : {X : Type 0} (key : List ℕ) (entries : List (List ℕ × X)) (e : List ℕ × X) → IsTrue (below_all (slice_cmp nat_cmp) key entries) → Has entries e → slice_cmp nat_cmp key e.0 ≡ Less
below_each key [] e below has = absurd has
below_each key (x ∷ entries) e below has =
    let parts = and_parts _ _ below in
    elim has [ inl same ↦ ap (λ (f : List ℕ × _). slice_cmp nat_cmp key f.0) same ∙ less_is _ parts.0 | inr later ↦ below_each key entries e parts.1 later ]

-- an entry is found by its key where the keys rise
pub find_own : {X : Type 0} (entries : List (List ℕ × X)) (e : List ℕ × X) → IsTrue (is_sorted (slice_cmp nat_cmp) entries) → Has entries e → find_entry (slice_cmp nat_cmp) e.0 entries ≡ Some e.1
find_own [] e rising has = absurd has
find_own (x ∷ entries) e rising has =
    let parts = and_parts _ _ rising in
    elim has [
      | inl same ↦ ap (λ (f : List ℕ × _). find_entry (slice_cmp nat_cmp) e.0 (f ∷ entries)) (sym same) ∙ ap (λ o. cond (is_eq o) (Some e.1) (find_entry (slice_cmp nat_cmp) e.0 entries)) (tied_itself nat_list_cmp_total e.0)
      | inr later ↦
          let above : slice_cmp nat_cmp e.0 x.0 ≡ Greater = nat_list_cmp_total.antisymm e.0 x.0 ∙ ap ordering_reverse (below_each x.0 entries e parts.0 later) in
          ap (λ o. cond (is_eq o) (Some x.1) (find_entry (slice_cmp nat_cmp) e.0 entries)) above ∙ find_own entries e parts.1 later
    ]

-- and what is found is an entry
found_has : {X : Type 0} (key : List ℕ) (entries : List (List ℕ × X)) (value : X) → find_entry (slice_cmp nat_cmp) key entries ≡ Some value → Has entries (key, value)
found_has key [] value found = absurd cc
found_has key (e ∷ entries) value found = elim (cases_Bool (is_eq (slice_cmp nat_cmp key e.0))) [
  | inl tied ↦
      let own : key ≡ e.0 = same_is key e.0 (texts_ties key e.0 ∙ tied) in
      let same : e.1 ≡ value = (let it = ap (λ b. cond b (Some e.1) (find_entry (slice_cmp nat_cmp) key entries)) (sym tied) ∙ found in cc) in
      inl (ap (λ (k : List ℕ). (k, value)) own ∙ ap (λ v. (e.0, v)) (sym same))
  | inr apart ↦ inr (found_has key entries value (ap (λ b. cond b (Some e.1) (find_entry (slice_cmp nat_cmp) key entries)) (sym apart) ∙ found))
]

module _ (records : Records) (tab : List ℕ) (listed : List (List ℕ × List ℕ)) (all : ListsTable records tab listed) where
  -- what is listed under a name is there
  pub entry_there : (e : List ℕ × List ℕ) → Has listed e → records tab e.0 ≡ Some e.1
  entry_there e has = sym (all.each e.0) ∙ find_own listed e all.rising has

  -- and what is there is listed
  pub there_entry : (key value : List ℕ) → records tab key ≡ Some value → Has listed (key, value)
  there_entry key value is = found_has key listed value (all.each key ∙ is)

-- what is listed after an entry is above it
pub entry_after : (records : Records) (tab : List ℕ) (first : List ℕ × List ℕ) (more : List (List ℕ × List ℕ)) → ListsTable records tab (first ∷ more) → (e : List ℕ × List ℕ) → Has more e
    → slice_cmp nat_cmp first.0 e.0 ≡ Less
entry_after records tab first more all e has = below_each first.0 more e (and_parts _ _ all.rising).0 has

-- a row of the table has its record
pub row_there : (db : Database) (row : Row) → HoldsRecords db → Has (record_rows db) row → records_in db (content (column row 1)) (content (column row 2)) ≡ Some (content (column row 3))
row_there db row h has = records_in_is db _ _ _ h (row, has, under_from _ _ row refl refl, refl)

-- and each record is that of a row
pub there_row : (rows : List Row) (tab key value : List ℕ) → records_of rows tab key ≡ Some value → (row : Row) × Has rows row × (record_of row ≡ record { tab = tab; key = key; value = value })
there_row rows tab key value is =
    let under = subst (IsUnder rows tab key) is (records_under rows tab key) in
    let own = under_is tab key under.0 under.2 in
    (under.0, under.1, let tab_is = own.0 in let key_is = own.1 in let value_is = under.3 in cc)
