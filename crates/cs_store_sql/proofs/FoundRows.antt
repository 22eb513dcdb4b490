-- What the query for one record shows: the number of its row and its value, or nothing.
use Rattle.std.proofs.Common.{bytes_eq, ◌≡◌, ℕ, ℤ, false, List, [], ◌∷◌, map, filter, Option, Some, None, IfSome, option_map, slice_get, inl, inr, refl, sym, ap, subst, subst₂, ◌∙◌, arith}
use Rattle.std.specs.List.{list_all}
use Rattle.std.proofs.Math.Bool.{and-true}
use Rattle.std.specs.List.Sorted.{IsPermutation}
use Rattle.std.proofs.lemmas.List.Sorted.{length_permutation}
use Rattle.sqlite_value.specs.declared.value.Value.TheVariants.{Int, Text, Blob}
use Rattle.sqlite_value.specs.declared.keys.Collation.TheVariants.{Binary}
use Rattle.sqlite_value.specs.Order.{Row, column}
use Rattle.sqlite_trees.proofs.ListLemmas.{filter_same, filter_none, all_weaker}
use Rattle.sqlite_trees.specs.Tree.{rowid}
use Rattle.sqlite_sql.specs.declared.ops.BinaryOp.TheVariants.{Compare}
use Rattle.sqlite_sql.specs.declared.ops.CompareOp.TheVariants.{Eq}
use Rattle.sqlite_sql.specs.Ops.{binary, is_true}
use Rattle.sqlite_sql.specs.Term.{holds}
use Rattle.sqlite_rules.specs.Lists.{Has}
use Rattle.sqlite_rules.proofs.ListLemmas.{all_from, has_filtered, has_kept}
use Rattle.sqlite.specs.Effect.{Database}
use Rattle.sqlite.specs.State.{State, Shown}
use Rattle.sqlite.proofs.Callers.{one_permutation}
use Rattle.cs_store_sql.specs.Records.{records_tree, record_rows, HoldsRecords, IsAt, is_under, content, records_in}
use Rattle.cs_store_sql.proofs.RowLemmas.{IsRecordRow, AreRecords, HaveOneKey, IsUnder, equal_texts, equal_blobs, record_row, are_records, records_filtered, under_is, records_under}
use Rattle.cs_store_sql.specs.Statements.{find_text, at_key}
use Rattle.cs_store_sql.proofs.AnswerLemmas.{shows_chosen}

-- the rows that show the number and the value of a record that may be there
abbrev pub found_rows : Option (ℤ × List ℕ) → List Row
found_rows None = []
found_rows (Some (number, value)) = (Int number ∷ Blob value ∷ []) ∷ []

-- a record's name and key, as SQL finds them
pub name_passes : (row : Row) (tab : List ℕ) → IsRecordRow row → is_true (binary (Compare Eq Binary) (column row 1) (Text tab)) ≡ bytes_eq (content (column row 1)) tab
name_passes row tab r = rw r.is (equal_texts r.tab tab)

key_passes : (row : Row) (key : List ℕ) → IsRecordRow row → is_true (binary (Compare Eq Binary) (column row 2) (Blob key)) ≡ bytes_eq (content (column row 2)) key
key_passes row key r = rw r.is (equal_blobs r.key key)

-- the test for a name and a key, whatever other parameters there are
pub at_key_passes : (tab key : List ℕ) (more row : Row) → IsRecordRow row → list_all (holds ((Text tab ∷ Blob key ∷ more) ∷ row ∷ [])) at_key ≡ is_under tab key row
at_key_passes tab key more row r = rw (name_passes row tab r, key_passes row key r, and-true)

-- the rows that pass it are those under the name and the key
pub filter-at_key : (tab key : List ℕ) (more : Row) (rows : List Row) → AreRecords rows
    → filter (λ row. list_all (holds ((Text tab ∷ Blob key ∷ more) ∷ row ∷ [])) at_key) rows ≡ filter (is_under tab key) rows
filter-at_key tab key more rows h =
    filter_same (λ row. list_all (holds ((Text tab ∷ Blob key ∷ more) ∷ row ∷ [])) at_key) (is_under tab key) rows (all_weaker IsRecordRow _ (at_key_passes tab key more) rows h.each)

-- rows that all have one key are one row
alone : (rows : List Row) (row : Row) → AreRecords rows → Has rows row → ((other : Row) → Has rows other → HaveOneKey other row) → rows ≡ row ∷ []
alone [] row h has same = absurd has
alone (x ∷ []) row h (inl is) same = ap (λ r. r ∷ []) (sym is)
alone (x ∷ []) row h (inr later) same = absurd later
alone (x ∷ y ∷ rows) row h has same =
    let one = same x (inl refl) in
    let two = same y (inr (inl refl)) in
    absurd (h.apart.0.0 (record { tab = one.tab ∙ sym two.tab; key = one.key ∙ sym two.key }))

-- no order of no rows has a row
none_left : {X : Type 0} (ys : List X) → IsPermutation [] ys → ys ≡ []
none_left [] same = refl
none_left (y ∷ ys) same = absurd (let none = length_permutation [] (y ∷ ys) same in omega (arith, none))

-- if there is no value under a name and a key, no row has them
pub filter-none : (rows : List Row) (tab key : List ℕ) → IsUnder rows tab key None → filter (is_under tab key) rows ≡ []
filter-none rows tab key under = filter_none (is_under tab key) rows (all_from (λ row. is_under tab key row ≡ false) rows under)

-- if there is a value, one row has them
pub filter-one : (rows : List Row) (tab key value : List ℕ) → AreRecords rows → (under : IsUnder rows tab key (Some value)) → filter (is_under tab key) rows ≡ under.0 ∷ []
filter-one rows tab key value h under =
    let mine = under_is tab key under.0 under.2 in
    alone (filter (is_under tab key) rows) under.0 (records_filtered (is_under tab key) rows h) (has_kept (is_under tab key) rows under.0 under.1 under.2) (λ other has.
    let its = under_is tab key other (has_filtered (is_under tab key) rows other has).1 in
    record { tab = its.0 ∙ sym mine.0; key = its.1 ∙ sym mine.1 })

-- the value of a record is a blob
value_shown : (row : Row) (value : List ℕ) → IsRecordRow row → content (column row 3) ≡ value → column row 3 ≡ Blob value
value_shown row value r is = let same : r.value ≡ value = rw r.is at is in rw r.is (ap Blob same)

-- rows that show the record under a name and a key, if one is there
pub record ShowsRecord (db : Database) (tab key : List ℕ) (rows : List Row) : Type 0 where
  pub here : Option (ℤ × List ℕ)
  pub is : rows ≡ found_rows here
  pub value : option_map (λ p. p.1) here ≡ records_in db tab key
  pub at : IfSome here (λ p. IsAt db tab key p.0)

-- what is shown of a row
abbrev shown : Row → Row
shown row = column row 0 ∷ column row 3 ∷ []

-- what the rows under a name and a key show
shown_found : (db : Database) (tab key : List ℕ) (o : Option (List ℕ)) (chosen : List Row) → HoldsRecords db → IsUnder (record_rows db) tab key o → records_in db tab key ≡ o
    → IsPermutation (filter (is_under tab key) (record_rows db)) chosen → ShowsRecord db tab key (map shown chosen)
shown_found db tab key None chosen holds under is same = record {
  here = None;
  is = ap (map shown) (none_left chosen (subst (λ l. IsPermutation l chosen) (filter-none (record_rows db) tab key under) same));
  value = sym is;
  at = tt;
}
shown_found db tab key (Some value) chosen holds under is same =
    let records = are_records db holds in
    let one = one_permutation under.0 chosen (subst (λ l. IsPermutation l chosen) (filter-one (record_rows db) tab key value records under) same) in
    let x = record_row db under.0 holds under.1 in
    let number : rowid under.0 ≡ Int x.number = ap rowid x.is in
    let number_shown : column under.0 0 ≡ Int x.number = ap (λ r. column r 0) x.is in
    record {
      here = Some (x.number, value);
      is = ap (map shown) one ∙ subst₂ (λ a b. (column under.0 0 ∷ column under.0 3 ∷ []) ∷ [] ≡ (a ∷ b ∷ []) ∷ []) number_shown (value_shown under.0 value x under.3) refl;
      value = sym is;
      at = (under.0, under.1, number, under.2);
    }

-- the query for one record shows it
pub finds : (tab key : List ℕ) (old new : State) (rows : List Row) → HoldsRecords old.now → Shown find_text (Text tab ∷ Blob key ∷ []) old new rows → ShowsRecord old.now tab key rows
finds tab key old new rows h shows =
    let all = record_rows old.now in
    let records = are_records old.now h in
    let s = shows_chosen find_text (records_tree old.now.schema) _ _ _ _ (Text tab ∷ Blob key ∷ []) old new rows h.declares.statements.finds shows in
    subst (ShowsRecord old.now tab key) (sym s.is)
    (shown_found old.now tab key _ s.chosen h (records_under all tab key) refl (subst (λ l. IsPermutation l s.chosen) (filter-at_key tab key [] all records) s.same))

-- the first row that is shown gives the number and the value, and where there is none there is no record
pub first_found : (o : Option (ℤ × List ℕ)) (rows : List Row) (row : Row) (number : ℤ) (value : List ℕ) → rows ≡ found_rows o → Some row ≡ slice_get rows 0
    → column row 0 ≡ Int number → column row 1 ≡ Blob value → Some (number, value) ≡ o
first_found None rows row number value is first first_is second_is = absurd (let none = rw is at first in cc)
first_found (Some (n, v)) rows row number value is first first_is second_is =
    let some = rw is at first in
    let same : row ≡ Int n ∷ Blob v ∷ [] = cc in
    let numbers : Int n ≡ Int number = subst (λ r. column r 0 ≡ Int number) same first_is in
    let values : Blob v ≡ Blob value = subst (λ r. column r 1 ≡ Blob value) same second_is in
    let number_is : number ≡ n = cc in
    let value_is : value ≡ v = cc in
    let made : ℤ → List ℕ → Option (ℤ × List ℕ) = λ a b. Some (a, b) in
    subst₂ (λ a b. made number value ≡ made a b) number_is value_is refl

-- that row shows a number and a blob
pub first_shown : (o : Option (ℤ × List ℕ)) (rows : List Row) (row : Row) → rows ≡ found_rows o → Some row ≡ slice_get rows 0 → (number : ℤ) × (value : List ℕ) × (row ≡ Int number ∷ Blob value ∷ [])
first_shown None rows row is first = absurd (let none = rw is at first in cc)
first_shown (Some (number, value)) rows row is first = (number, value, let some = rw is at first in cc)

pub none_found : (o : Option (ℤ × List ℕ)) (rows : List Row) → rows ≡ found_rows o → None ≡ slice_get rows 0 → None ≡ o
none_found None rows is none = refl
none_found (Some (n, v)) rows is none = absurd (let some = rw is at none in cc)
