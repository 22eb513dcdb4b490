-- A page of the records under a name is the page of the rows that is stored.
use Rattle.std.proofs.Common.{◌≡◌, ◌≢◌, ◌<◌, ◌++◌, ℕ, zero, suc, List, [], ◌∷◌, map, take, filter, Option, Some, None, Bool, true, false, cond, T, option_map, unwrap_or, inl, inr, refl, sym, ap, subst, ◌∙◌, arith}
use Rattle.std.specs.List.{AllByRecursion, take-map}
use Rattle.std.specs.Ordering.{nat_cmp}
use Rattle.std.specs.Cmp.Lexicographic.{slice_cmp}
use Rattle.std.specs.FinMap.{empty, get, entries, entries_sorted, get-entries, values, find}
use Rattle.std.specs.FinMap.Entries.{find-where_key, is_sorted-where_key}
use Rattle.std.proofs.lemmas.Bool.{cases_Bool}
use Rattle.sqlite_trees.proofs.ListLemmas.{map-map, all-map, all-filter}
use Rattle.cs_value.specs.declared.value.OwnedValue.{OwnedValue}
use Rattle.cs_value.specs.declared.value.OwnedValue.TheVariants.{Int, Text, Blob, Null}
use Rattle.sqlite_rules.specs.Lists.{Has}
use Rattle.sqlite_rules.proofs.ListLemmas.{any_has}
use Rattle.cs_value.specs.Key.{row_key}
use Rattle.cs_value.specs.Table.{IsKeyedRow}
use Rattle.cs_value.specs.Spelling.{value_bytes, row_bytes}
use Rattle.cs_value.specs.State.{SchemaData, RowMap, TableData, State, IsState, schema_at, rows_at, row_at}
use Rattle.cs_store_sql.specs.Records.{Records, ListsAfter, ListsPage, is_above}
use Rattle.cs_store_sql.proofs.OrderLemmas.{tied_bytes}
use Rattle.cs_store_encoding.specs.Stored.{Stores}
use Rattle.cs_rows.specs.Rows.{IsRowIn}
use Rattle.cs_rows.proofs.MemoryLemmas.{no_values, rows_at_found}
use Rattle.cs_store_encoding.proofs.StoredLemmas.{row_stored}
use Rattle.cs_store_tables.specs.Pages.{is_after, page_in}
use Rattle.cs_store_tables.specs.Store.{AreStored}
use Rattle.cs_store_tables.proofs.ReadLemmas.{row_fits}
use Rattle.cs_store_tables.proofs.StoredLists.{Entries, same_lists, of_true, each_value, sorted_values, find_values, each_entry}

-- the entries whose keys pass a test
abbrev kept : {X : Type 0} → (List ℕ → Bool) → Entries X → Entries X
kept p es = filter (λ e. p e.0) es

-- a key that passes finds there what it finds among all, and another finds nothing
find_kept : {X : Type 0} (p : List ℕ → Bool) (q : List ℕ) (es : Entries X) → find (slice_cmp nat_cmp) q (kept p es) ≡ cond (p q) (find (slice_cmp nat_cmp) q es) None
find_kept p q = find-where_key (slice_cmp nat_cmp) p q (λ x tied. ap p (sym (tied_bytes q x tied)))

-- what holds of all holds of the first
all_first : {X : Type 0} (P : X → Type 0) (n : ℕ) (xs : List X) → AllByRecursion P xs → AllByRecursion P (take n xs)
all_first P zero xs all = tt
all_first P (suc n) [] all = tt
all_first P (suc n) (x ∷ xs) all = (all.0, all_first P n xs all.1)

-- ---- no key is empty

not_empty : (b : ℕ) (bytes : List ℕ) → b ∷ bytes ≢ []
not_empty b bytes e = cc

-- a value is spelled with a byte
some_bytes : (value : OwnedValue) (more : List ℕ) → value_bytes value ++ more ≢ []
unfolding value_bytes
some_bytes (Int z) more = not_empty _ _
some_bytes (Text t) more = not_empty _ _
some_bytes (Blob b) more = not_empty _ _
some_bytes Null more = not_empty _ _

-- so a key is
some_key : (flags : List ℕ) (row : List OwnedValue) (flag : ℕ) → Has flags flag → 0 < flag → IsKeyedRow flags row → row_key flags row ≢ []
some_key [] row flag has some keyed = absurd has
some_key (zero ∷ flags) [] flag has some keyed = absurd keyed
some_key (suc f ∷ flags) [] flag has some keyed = absurd keyed
some_key (zero ∷ flags) (value ∷ row) flag (inl same) some keyed = absurd (omega (arith, same, some))
some_key (zero ∷ flags) (value ∷ row) flag (inr later) some keyed = some_key flags row flag later some keyed
some_key (suc f ∷ flags) (value ∷ row) flag has some keyed = some_bytes value _

no_empty_key : (state : State) (name : List ℕ) → IsState state → row_at state name [] ≡ None
no_empty_key state name is = at (row_at state name []) refl
  where
    at : (o : Option (List OwnedValue)) → row_at state name [] ≡ o → row_at state name [] ≡ None
    at None none = none
    at (Some row) some =
        let fits = row_fits state name [] row is some in
        let flag = any_has (λ flag. 0 < flag) fits.table.schema.flags (is name fits.table fits.found).is_table.schema.flags.some_key in
        absurd (some_key fits.table.schema.flags row flag.0 flag.1 flag.2 fits.fit.keyed (sym fits.fit.own))

-- ---- a page

module _ (records : Records) (state : State) (name : List ℕ) (is : Stores records state) (some : name ≢ []) where
  abbrev rows : RowMap
  rows = rows_at state name

  -- what is stored after a key, or from the first one on
  stored_after : (after : Option (List ℕ)) (q : List ℕ) → cond (is_above (unwrap_or after []) q) (records name q) None ≡ option_map row_bytes (cond (is_after after q) (find (slice_cmp nat_cmp) q (entries rows)) None)
  stored_after None [] = sym (ap (option_map row_bytes) (sym (get-entries rows []) ∙ no_empty_key state name is.is_state))
  stored_after None (b ∷ q) = row_stored records state name (b ∷ q) is some ∙ ap (option_map row_bytes) (get-entries rows (b ∷ q))
  stored_after (Some last) q =
      elim (is_above last q) as (λ b. cond b (records name q) None ≡ option_map row_bytes (cond b (find (slice_cmp nat_cmp) q (entries rows)) None)) [
        | true ↦ row_stored records state name q is some ∙ ap (option_map row_bytes) (get-entries rows q)
        | false ↦ refl
      ]

  -- the records after a key spell the rows after it
  after_spelled : (after : Option (List ℕ)) (all : Entries (List ℕ)) → ListsAfter records name (unwrap_or after []) all → all ≡ map (each_value row_bytes) (kept (is_after after) (entries rows))
  after_spelled after all lists =
      let those = kept (is_after after) (entries rows) in
      same_lists all (map (each_value row_bytes) those) (of_true _ lists.rising) (subst T (sym (sorted_values row_bytes those)) (is_sorted-where_key (slice_cmp nat_cmp) (is_after after) (entries rows) (entries_sorted rows)))
      (λ q. lists.each q ∙ stored_after after q ∙ sym (find_values row_bytes q those ∙ ap (option_map row_bytes) (find_kept (is_after after) q (entries rows))))

  -- a page of them spells the page of the rows
  page_spelled : (after : Option (List ℕ)) (limit : ℕ) (listed : Entries (List ℕ)) → ListsPage records name (unwrap_or after []) limit listed → map (λ e. e.1) listed ≡ map row_bytes (page_in rows after limit)
  page_spelled after limit listed lists =
      let those = kept (is_after after) (entries rows) in
      ap (map (λ e. e.1)) (lists.2 ∙ ap (take limit) (after_spelled after lists.0 lists.1) ∙ take-map (each_value row_bytes) limit those)
      ∙ map-map (λ e. e.1) (each_value row_bytes) (take limit those)
      ∙ sym (map-map row_bytes (λ e. e.1) (take limit those))

  -- and its rows are stored as rows of the schema
  pub page_is_stored : (schema : SchemaData) (after : Option (List ℕ)) (limit : ℕ) (listed : Entries (List ℕ)) → schema_at state name ≡ Some schema → ListsPage records name (unwrap_or after []) limit listed
      → AreStored schema (map (λ e. e.1) listed) (page_in rows after limit)
  page_is_stored schema after limit listed has lists = record { spelled = page_spelled after limit listed lists; each = at (get state name) refl }
    where
      at : (o : Option TableData) → get state name ≡ o → AllByRecursion (IsRowIn schema) (page_in rows after limit)
      at None none = absurd (let e = sym has ∙ ap (option_map (λ (t : TableData). t.schema)) none in cc)
      at (Some table) found =
          let same : table.schema ≡ schema = let e = ap (option_map (λ (t : TableData). t.schema)) (sym found) ∙ has in cc in
          let fit : AllByRecursion (λ e. IsRowIn table.schema e.1) (entries table.rows) =
          each_entry (λ key row. IsRowIn table.schema row) (entries table.rows) (entries_sorted table.rows) (λ key row got.
          let fit = (is.is_state name table found).is_table.rows key row (get-entries table.rows key ∙ got) in record { values = fit.values; keyed = fit.keyed; obeys = fit.obeys }) in
          let those : Entries (List OwnedValue) = kept (is_after after) (entries table.rows) in
          let each = all-map (IsRowIn table.schema) (λ e. e.1) (take limit those) (all_first _ limit those (all-filter (λ e. IsRowIn table.schema e.1) (λ e. is_after after e.0) (entries table.rows) fit)) in
          subst (λ (r : RowMap). AllByRecursion (IsRowIn schema) (page_in r after limit)) (sym (rows_at_found state name table found))
          (subst (λ (t : SchemaData). AllByRecursion (IsRowIn t) (page_in table.rows after limit)) same each)

-- ---- the same page, of the list of the rows

-- a test of the keys is a test of the values, where each value has its key
filtered_values : {X : Type 0} (p : List ℕ → Bool) (key_of : X → List ℕ) (es : Entries X) → AllByRecursion (λ e. e.0 ≡ key_of e.1) es → map (λ e. e.1) (kept p es) ≡ filter (λ x. p (key_of x)) (map (λ e. e.1) es)
filtered_values p key_of [] own = refl
filtered_values p key_of (e ∷ es) own = elim (cases_Bool (p e.0)) [
  | inl passes ↦
      let here : p (key_of e.1) ≡ true = ap p (sym own.0) ∙ passes in
      rw (passes, here) (ap (λ xs. e.1 ∷ xs) (filtered_values p key_of es own.1))
  | inr fails ↦
      let here : p (key_of e.1) ≡ false = ap p (sym own.0) ∙ fails in
      rw (fails, here) (filtered_values p key_of es own.1)
]

-- a page has the first of the rows whose keys are after the key
pub page_of_rows : (state : State) (name : List ℕ) (schema : SchemaData) (after : Option (List ℕ)) (limit : ℕ) → IsState state → schema_at state name ≡ Some schema
    → page_in (rows_at state name) after limit ≡ take limit (filter (λ row. is_after after (row_key schema.flags row)) (values (rows_at state name)))
page_of_rows state name schema after limit is has = at (get state name) refl
  where
    at : (o : Option TableData) → get state name ≡ o → page_in (rows_at state name) after limit ≡ take limit (filter (λ row. is_after after (row_key schema.flags row)) (values (rows_at state name)))
    at None none = absurd (let e = sym has ∙ ap (option_map (λ (t : TableData). t.schema)) none in cc)
    at (Some table) found =
        let same : table.schema ≡ schema = let e = ap (option_map (λ (t : TableData). t.schema)) (sym found) ∙ has in cc in
        let own : AllByRecursion (λ e. e.0 ≡ row_key table.schema.flags e.1) (entries table.rows) =
        each_entry (λ key row. key ≡ row_key table.schema.flags row) (entries table.rows) (entries_sorted table.rows) (λ key row got. ((is name table found).is_table.rows key row (get-entries table.rows key ∙ got)).own) in
        let page : page_in table.rows after limit ≡ take limit (filter (λ row. is_after after (row_key table.schema.flags row)) (values table.rows)) =
        sym (take-map (λ e. e.1) limit (kept (is_after after) (entries table.rows))) ∙ ap (take limit) (filtered_values (is_after after) (row_key table.schema.flags) (entries table.rows) own) in
        subst (λ (r : RowMap). page_in r after limit ≡ take limit (filter (λ row. is_after after (row_key schema.flags row)) (values r))) (sym (rows_at_found state name table found))
        (subst (λ (t : SchemaData). page_in table.rows after limit ≡ take limit (filter (λ row. is_after after (row_key t.flags row)) (values table.rows))) same page)

-- a table without rows has empty pages
pub no_page : (after : Option (List ℕ)) (limit : ℕ) → page_in empty after limit ≡ []
no_page after limit = ap (λ (es : Entries (List OwnedValue)). map (λ e. e.1) (take limit (kept (is_after after) es))) (none_of (entries empty) no_values) ∙ ap (map (λ e. e.1)) (take_none limit)
  where
    none_of : (es : Entries (List OwnedValue)) → map (λ e. e.1) es ≡ [] → es ≡ []
    none_of [] none = refl
    none_of (e ∷ es) none = absurd cc

    take_none : (n : ℕ) → ◌≡◌ {A = Entries (List OwnedValue)} (take n []) []
    take_none zero = refl
    take_none (suc n) = refl
