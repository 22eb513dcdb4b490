-- A page is made of rows that are read: one more than it has, if there are others after it.
use Rattle.std.proofs.Common.{◌≡◌, ◌<◌, ℕ, zero, suc, ◌+◌, Bool, List, [], ◌∷◌, length, take, filter, nat_lt, Option, Some, None, option_map, Ok, true≢false, IsSome, refl, sym, ap, ◌∙◌, arith}
use Rattle.std.specs.FinMap as map
use Rattle.std.proofs.lemmas.Bool.{ltb_from_iff, ltb-true, lt-ltb}
use Rattle.std.proofs.lemmas.List.{take-take}
use Rattle.cs_value.specs.declared.value.OwnedValue.{OwnedValue}
use Rattle.cs_value.specs.Key.{row_key}
use Rattle.cs_value.specs.State.{SchemaData, State, TableData, IsState, schema_at, rows_at}
use Rattle.cs_rows.specs.Rows.{IsDeclared}
use Rattle.cs_store_tables.specs.Pages as stored
use Rattle.cs_store_tables.specs.Pages.{page_in}
use Rattle.cs_store_tables.proofs.PagedLists.{page_of_rows}
use Rattle.cs_calls_conversions.specs.declared.page.Page.{Page}
use Rattle.cs_calls_conversions.specs.Pages.{rows_after}
use Rattle.cs_calls_executor.specs.TableCalls.{with_schema, on_table, page_at}

-- a row more than so many is read exactly if there is one
one_read : {X : Type 0} (n : ℕ) (xs : List X) → n < length xs → n < length (take (suc n) xs)
one_read zero [] some = some
one_read zero (x ∷ xs) some = omega arith
one_read (suc n) [] some = some
one_read (suc n) (x ∷ xs) some = omega (arith, one_read n xs (omega (arith, some)))

one_there : {X : Type 0} (n : ℕ) (xs : List X) → n < length (take (suc n) xs) → n < length xs
one_there zero [] some = some
one_there zero (x ∷ xs) some = omega arith
one_there (suc n) [] some = some
one_there (suc n) (x ∷ xs) some = omega (arith, one_there n xs (omega (arith, some)))

more_read : {X : Type 0} (n : ℕ) (xs : List X) → nat_lt n (length (take (suc n) xs)) ≡ nat_lt n (length xs)
more_read n xs =
    ltb_from_iff (λ is. one_there n xs (ltb-true n (length (take (suc n) xs)) is), λ some. lt-ltb n (length (take (suc n) xs)) (one_read n xs some))

-- the rows after a key, as the store has them
same_rows_after : (flags : List ℕ) (after : Option (List ℕ)) (rows : List (List OwnedValue)) → filter (λ row. stored.is_after after (row_key flags row)) rows ≡ rows_after flags after rows
same_rows_after flags None rows = refl
same_rows_after flags (Some key) rows = refl

-- a page
unfoldable pub page : List (List OwnedValue) → Bool → Page
page rows more = record { rows = rows; more = more }

-- the rows are read, and the page has the first of them
page_is : (tables : State) (table : List ℕ) (schema : SchemaData) (after : Option (List ℕ)) (limit : ℕ) (read : List (List OwnedValue)) → IsState tables → schema_at tables table ≡ Some schema
    → read ≡ page_in (rows_at tables table) after (limit + 1) → page (take limit read) (nat_lt limit (length read)) ≡ page_at tables table schema after limit
unfolding page
page_is tables table schema after limit read is has are =
    let all = rows_after schema.flags after (map.values (rows_at tables table)) in
    let one_more : limit + 1 ≡ suc limit = omega arith in
    let is_read : read ≡ take (suc limit) all =
    are
    ∙ page_of_rows tables table schema after (limit + 1) is has
    ∙ ap (λ (l : List (List OwnedValue)). take (limit + 1) l) (same_rows_after schema.flags after (map.values (rows_at tables table)))
    ∙ ap (λ (n : ℕ). take n all) one_more in
    ap (λ (l : List (List OwnedValue)). page (take limit l) (nat_lt limit (length l))) is_read
    ∙ ap (λ (l : List (List OwnedValue)). page l (nat_lt limit (length (take (suc limit) all)))) (take-take limit (suc limit) all (omega arith))
    ∙ ap (λ (b : Bool). page (take limit all) b) (more_read limit all)

-- as the page of a table that is there
pub page_there : (tables : State) (table : List ℕ) (after : Option (List ℕ)) (limit : ℕ) (read : List (List OwnedValue)) → IsState tables → IsDeclared tables table → read ≡ page_in (rows_at tables table) after (limit + 1)
    → Ok (page (take limit read) (nat_lt limit (length read))) ≡ on_table tables table (λ schema. Ok (page_at tables table schema after limit))
page_there tables table after limit read is there are = at (map.get tables table) refl there
  where
    at : (o : Option TableData) → map.get tables table ≡ o → IsSome o → Ok (page (take limit read) (nat_lt limit (length read))) ≡ on_table tables table (λ schema. Ok (page_at tables table schema after limit))
    at None none some = absurd (true≢false (sym some))
    at (Some t) found some =
        let has : schema_at tables table ≡ Some t.schema = ap (λ (o : Option TableData). option_map (λ t. t.schema) o) found in
        ap (λ (p : Page). Ok p) (page_is tables table t.schema after limit read is has are)
        ∙ sym (ap (λ (o : Option SchemaData). with_schema table o (λ schema. Ok (page_at tables table schema after limit))) has)
