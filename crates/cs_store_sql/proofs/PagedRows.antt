-- What the query for a page of the records under a name shows: the first of those whose keys are greater than a key.
use Rattle.std.proofs.Common.{◌≡◌, ℕ, pos, ◌&&◌, Bool, true, false, cond, List, [], ◌∷◌, map, take, filter, None, inl, inr, sym, ap, subst, ◌∙◌}
use Rattle.std.specs.List.{AllByRecursion, take-map}
use Rattle.std.specs.List.Sorted.{IsPermutation}
use Rattle.std.specs.Cmp.Lexicographic.{slice_cmp}
use Rattle.std.specs.Ordering.{nat_cmp, is_gt}
use Rattle.std.specs.declared.cmp.Ordering.TheVariants.{Less, Equal}
use Rattle.std.proofs.Math.Bool.{and-true}
use Rattle.std.proofs.lemmas.Bool.{and_from, and_parts, cases_Bool, false_from_ne_true}
use Rattle.std.proofs.lemmas.List.Sorted.{IsPermutation-sym}
use Rattle.std.proofs.lemmas.Cmp.{nat_list_cmp_total, on_total}
use Rattle.sqlite_value.specs.declared.value.Value.TheVariants.{Int, Text, Blob}
use Rattle.sqlite_value.specs.declared.keys.Collation.TheVariants.{Binary}
use Rattle.sqlite_value.specs.Order.{Row, column}
use Rattle.sqlite_value.proofs.OrderLemmas.{value_cmp-Blob, then-Equal}
use Rattle.sqlite_trees.proofs.ListLemmas.{map-map, filter_same, all_weaker, ascending-map}
use Rattle.sqlite_sql.specs.declared.ops.BinaryOp.TheVariants.{Compare}
use Rattle.sqlite_sql.specs.declared.ops.CompareOp.TheVariants.{Gt}
use Rattle.sqlite_sql.specs.Ops.{binary, is_true}
use Rattle.sqlite_rules.specs.Lists.{Has}
use Rattle.sqlite_rules.proofs.ListLemmas.{all_has, all_from, has_filtered}
use Rattle.sqlite.specs.State.{State, Shown}
use Rattle.cs_store_sql.specs.Records.{records_tree, record_rows, HoldsRecords, ListsAfter, ListsPage, is_above, is_under, content, records_of, records_in, shown_keyed}
use Rattle.cs_store_sql.specs.Statements.{page_text, page_query}
use Rattle.cs_store_sql.proofs.RowLemmas.{IsRecordRow, AreRecords, HaveOneKey, truth_is, same_is, under_is, are_records, records_filtered, records_permuted, records_is, records_of-permutation, records_of-filter, has_permuted}
use Rattle.cs_store_sql.proofs.OrderLemmas.{tied_bytes}
use Rattle.cs_store_sql.proofs.AnswerLemmas.{passes_where, sorts, shows_chosen}
use Rattle.cs_store_sql.proofs.FoundRows.{name_passes}
use Rattle.cs_store_sql.proofs.ListedRows.{rise, keyed_of, has_name, by_key, sorted_entries, found_entry}

-- ---- the test of the key

-- SQL's > on two blobs compares their bytes
above_blobs : (s t : List ℕ) → is_true (binary (Compare Gt Binary) (Blob s) (Blob t)) ≡ is_gt (slice_cmp nat_cmp s t)
unfolding binary
above_blobs s t = truth_is _ ∙ ap is_gt (value_cmp-Blob s t)

key_passes : (row : Row) (after : List ℕ) → IsRecordRow row → is_true (binary (Compare Gt Binary) (column row 2) (Blob after)) ≡ is_gt (slice_cmp nat_cmp (content (column row 2)) after)
key_passes row after r = rw r.is (above_blobs r.key after)

-- ---- the rows of a page

-- the row has the name, and a key after that one
abbrev is_in : List ℕ → List ℕ → Row → Bool
is_in tab after row = has_name tab row && is_above after (content (column row 2))

-- these are the rows that pass, in the order of their keys
module _ (tree most : ℕ) (tab after : List ℕ) where
  abbrev params : Row
  params = Text tab ∷ Blob after ∷ Int (pos most) ∷ []

  page_passes : (row : Row) → IsRecordRow row → passes_where (page_query tree) params row ≡ is_in tab after row
  page_passes row r = rw (name_passes row tab r, key_passes row after r, and-true)

  page_sorts : (a b : Row) → IsRecordRow a → IsRecordRow b → sorts (page_query tree) params a b ≡ by_key a b
  page_sorts a b x y = then-Equal _ ∙ rw (x.is, y.is) (value_cmp-Blob x.key y.key)

-- a row under a name and a key that is after another is such a row, and one under a key that is not is none
in_under : (tab key : List ℕ) (after : List ℕ) (row : Row) → is_above after key ≡ true → is_in tab after row ≡ false → is_under tab key row ≡ false
in_under tab key after row later fails = false_from_ne_true _ (λ under.
    let its = under_is tab key row under in
    let passes : is_in tab after row ≡ true = and_from _ _ (and_parts _ _ under).0 (ap (is_above after) its.1 ∙ later) in
    let none = sym passes ∙ fails in cc)

not_under : (tab key : List ℕ) (after : List ℕ) (row : Row) → is_above after key ≡ false → is_in tab after row ≡ true → is_under tab key row ≡ false
not_under tab key after row earlier passes = false_from_ne_true _ (λ under.
    let its = under_is tab key row under in
    let none = sym (and_parts _ _ passes).1 ∙ ap (is_above after) its.1 ∙ earlier in cc)

-- such rows hold the records after that key
records_after : (rows : List Row) (tab key : List ℕ) (after : List ℕ) → AreRecords rows
    → records_of (filter (is_in tab after) rows) tab key ≡ cond (is_above after key) (records_of rows tab key) None
records_after rows tab key after h = elim (cases_Bool (is_above after key)) [
  | inl later ↦ records_of-filter (is_in tab after) rows tab key (λ row has fails. in_under tab key after row later fails) ∙ ap (λ b. cond b (records_of rows tab key) None) (sym later)
  | inr earlier ↦
      records_is (filter (is_in tab after) rows) tab key None (records_filtered (is_in tab after) rows h) (λ row has. not_under tab key after row earlier (has_filtered (is_in tab after) rows row has).1)
      ∙ ap (λ b. cond b (records_of rows tab key) None) (sym earlier)
]

-- the query lists a page of the records under a name
pub lists_page : (tab after : List ℕ) (most : ℕ) (old new : State) (rows : List Row) → HoldsRecords old.now → Shown page_text (Text tab ∷ Blob after ∷ Int (pos most) ∷ []) old new rows
    → ListsPage (records_in old.now) tab after most (map shown_keyed rows)
lists_page tab after most old new rows h shown =
    let all = record_rows old.now in
    let tree = records_tree old.now.schema in
    let given : Row = Text tab ∷ Blob after ∷ Int (pos most) ∷ [] in
    let records = are_records old.now h in
    let s = shows_chosen page_text tree _ _ _ _ given old new rows h.declares.statements.pages shown in
    let passing : filter (passes_where (page_query tree) given) all ≡ filter (is_in tab after) all =
    filter_same (passes_where (page_query tree) given) (is_in tab after) all (all_weaker IsRecordRow _ (page_passes tree most tab after) all records.each) in
    let same : IsPermutation (filter (is_in tab after) all) s.chosen = subst (λ l. IsPermutation l s.chosen) passing s.same in
    let in_records = records_filtered (is_in tab after) all records in
    let chosen_records = records_permuted _ s.chosen same in_records in
    let named : AllByRecursion (λ row. has_name tab row ≡ true) s.chosen =
    all_from (λ row. has_name tab row ≡ true) s.chosen (λ row has. (and_parts _ _ (has_filtered (is_in tab after) all row (has_permuted s.chosen _ row (IsPermutation-sym _ _ same) has)).1).0) in
    let one : (a b : Row) → Has s.chosen a → Has s.chosen b → by_key a b ≡ Equal → HaveOneKey a b = λ a b p q tied. record {
      tab = same_is _ tab (all_has (λ row. has_name tab row ≡ true) s.chosen a named p) ∙ sym (same_is _ tab (all_has (λ row. has_name tab row ≡ true) s.chosen b named q));
      key = tied_bytes _ _ tied;
    } in
    let lists : ListsAfter (records_in old.now) tab after (map keyed_of s.chosen) = record {
      rising = sorted_entries (map keyed_of s.chosen) (ascending-map (λ a b. slice_cmp nat_cmp a.0 b.0 ≡ Less) keyed_of s.chosen
          (rise (sorts (page_query tree) given) by_key (on_total (λ r. content (column r 2)) nat_list_cmp_total) (page_sorts tree most tab after) s.chosen one chosen_records s.rising));
      each = λ key. found_entry tab key s.chosen named ∙ records_of-permutation _ s.chosen tab key in_records same ∙ records_after all tab key after records;
    } in (
      map keyed_of s.chosen,
      lists,
      ap (map shown_keyed) s.is ∙ sym (take-map shown_keyed most _) ∙ ap (take most) (map-map shown_keyed _ s.chosen),
    )
