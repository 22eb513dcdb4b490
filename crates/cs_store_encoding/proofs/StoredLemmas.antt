-- What a change of the records does to the state that they store.
use Rattle.std.proofs.Common.{bytes_eq, ◌≡◌, ◌≢◌, ℕ, ◌&&◌, List, [], ◌∷◌, Option, Some, None, Bool, true, false, cond, get_or, refl, sym, ap, ◌∙◌, subst, arith}
use Rattle.std.specs.Option.{option_map, IsSome}
use Rattle.std.specs.Ordering.{nat_cmp}
use Rattle.std.specs.Cmp.Lexicographic.{slice_cmp}
use Rattle.std.specs.FinMap.{get, insert, remove, empty, get-empty}
use Rattle.cs_value.specs.declared.value.OwnedValue.{OwnedValue}
use Rattle.cs_value.specs.Table.{IsName}
use Rattle.cs_value.specs.Spelling.{row_bytes}
use Rattle.cs_value.specs.State.{SchemaData, IsSchema, RowMap, TableData, IsTable, State, IsState, rows_at, row_at, with_table, with_rows, with_row, without_row}
use Rattle.cs_value.proofs.StateLemmas.{empty_table, table_insert, table_remove, empty_state, state_insert}
use Rattle.cs_rows.specs.Rows.{IsDeclared, Fits}
use Rattle.cs_store_sql.specs.Records.{Records, changed}
use Rattle.cs_store_encoding.specs.Declaration.{declaration_bytes}
use Rattle.cs_store_encoding.specs.Stored.{version, former_version, stored_under, StoresIn, Stores}
use Rattle.cs_rows.proofs.MapLemmas.{get_put, get_taken, rows_at_put}
use Rattle.cs_rows.proofs.MemoryLemmas.{with_rows_found, rows_at_found, rows_at_absent}
use Rattle.cs_store_sql.proofs.RowLemmas.{same_is}

-- the version that stores are written in is not the former one
pub not_former : version ≢ former_version
not_former same = absurd (omega (arith, ap (λ (l : List ℕ). get_or l 0 0) same))

-- what is stored of a table
abbrev spelled : Option TableData → Option (List ℕ)
spelled o = option_map (λ t. declaration_bytes t.schema) o

-- the declarations stay where the rows of a table change
declarations_kept : (state : State) (name : List ℕ) (table : TableData) (rows : RowMap) (q : List ℕ) → get state name ≡ Some table
    → spelled (get (insert state name (record table { rows = rows })) q) ≡ spelled (get state q)
declarations_kept state name table rows q found = ap spelled (get_put state name (record table { rows = rows }) q) ∙ at (bytes_eq q name) refl
  where
    at : (b : Bool) → bytes_eq q name ≡ b → spelled (cond b (Some (record table { rows = rows })) (get state q)) ≡ spelled (get state q)
    at true is = sym (ap spelled (ap (get state) (same_is q name is) ∙ found))
    at false is = refl

-- ---- changes of rows

-- a table that is found has a name that is not empty
no_empty_name : (state : State) (table : TableData) → IsState state → get state [] ≡ Some table → ⊥
no_empty_name state table is found = let named = (is [] table found).named in omega (arith, named.some)

-- one key of the rows of a table changes
rows_change : (new records : Records) (state : State) (name key : List ℕ) (table : TableData) (rows : RowMap) (here : Option (List OwnedValue))
    → Stores records state → get state name ≡ Some table → IsTable (record table { rows = rows })
    → ((k : List ℕ) → get rows k ≡ cond (bytes_eq k key) here (get table.rows k))
    → ((t k : List ℕ) → new t k ≡ changed records name key (option_map row_bytes here) t k) → Stores new (with_rows state name rows)
rows_change new records state [] key table rows here is found fit put change = absurd (no_empty_name state table is.is_state found)
rows_change new records state (n ∷ name) key table rows here is found fit put change =
    subst (Stores new) (sym (with_rows_found state (n ∷ name) table rows found)) (record {
      is_state = state_insert state (n ∷ name) _ is.is_state (is.is_state (n ∷ name) table found).named fit;
      each = at;
      former = λ old. absurd (not_former old);
    })
  where
    rows_read : (t k : List ℕ) (b c : Bool) → bytes_eq t (n ∷ name) ≡ b → bytes_eq k key ≡ c
        → cond (b && c) (option_map row_bytes here) (option_map row_bytes (get (rows_at state t) k)) ≡ option_map row_bytes (get (cond b rows (rows_at state t)) k)
    rows_read t k true true e f = sym (ap (option_map row_bytes) (put k ∙ ap (λ c. cond c here (get table.rows k)) f))
    rows_read t k true false e f =
        ap (λ (r : RowMap). option_map row_bytes (get r k)) (ap (rows_at state) (same_is t (n ∷ name) e) ∙ rows_at_found state (n ∷ name) table found)
        ∙ sym (ap (option_map row_bytes) (put k ∙ ap (λ c. cond c here (get table.rows k)) f))
    rows_read t k false c e f = refl

    at : (t k : List ℕ) → new t k ≡ stored_under version (insert state (n ∷ name) (record table { rows = rows })) t k
    at [] [] = change [] [] ∙ is.each [] []
    at [] (b ∷ q) = change [] (b ∷ q) ∙ is.each [] (b ∷ q) ∙ sym (declarations_kept state (n ∷ name) table rows (b ∷ q) found)
    at (b ∷ q) k =
        change (b ∷ q) k
        ∙ ap (cond (bytes_eq (b ∷ q) (n ∷ name) && bytes_eq k key) (option_map row_bytes here)) (is.each (b ∷ q) k)
        ∙ rows_read (b ∷ q) k _ _ refl refl
        ∙ sym (ap (λ (r : RowMap). option_map row_bytes (get r k)) (rows_at_put state (n ∷ name) (record table { rows = rows }) (b ∷ q)))

-- the record of a row is put where the row is
pub stores_row : (new records : Records) (state : State) (name key : List ℕ) (row : List OwnedValue) → Stores records state → Fits state name key row
    → ((t k : List ℕ) → new t k ≡ changed records name key (Some (row_bytes row)) t k) → Stores new (with_row state name key row)
stores_row new records state name key row is fits change =
    let rows = rows_at_found state name fits.table fits.found in
    let fit = table_insert fits.table key row (is.is_state name fits.table fits.found).is_table fits.fit in
    subst (λ (r : RowMap). Stores new (with_rows state name (insert r key row))) (sym rows)
    (rows_change new records state name key fits.table (insert fits.table.rows key row) (Some row) is fits.found fit (get_put fits.table.rows key row) change)

-- there is no record without a row
pub stores_no_row : (new records : Records) (state : State) (name key : List ℕ) → Stores records state → IsDeclared state name
    → ((t k : List ℕ) → new t k ≡ changed records name key None t k) → Stores new (without_row state name key)
stores_no_row new records state name key is declared change = at (get state name) refl declared
  where
    at : (o : Option TableData) → get state name ≡ o → IsSome o → Stores new (without_row state name key)
    at None none h = absurd cc
    at (Some table) found h =
        let fit = table_remove table key (is.is_state name table found).is_table in
        subst (λ (r : RowMap). Stores new (with_rows state name (remove r key))) (sym (rows_at_found state name table found))
        (rows_change new records state name key table (remove table.rows key) None is found fit (get_taken table.rows key) change)

-- ---- new tables

-- the record of a declaration is put where the table is
pub stores_table : (new records : Records) (state : State) (name : List ℕ) (schema : SchemaData) → Stores records state → IsName name → IsSchema schema → get state name ≡ None
    → ((t k : List ℕ) → new t k ≡ changed records [] name (Some (declaration_bytes schema)) t k) → Stores new (with_table state name schema)
stores_table new records state [] schema is named fit absent change = absurd (omega (arith, named.some))
stores_table new records state (n ∷ name) schema is named fit absent change = record {
  is_state = state_insert state (n ∷ name) _ is.is_state named (empty_table schema fit);
  each = at;
  former = λ old. absurd (not_former old);
}
  where
    declared : (o : Option TableData) (b : Bool) → cond b (Some (declaration_bytes schema)) (spelled o) ≡ spelled (cond b (Some (record { schema = schema; rows = empty })) o)
    declared o true = refl
    declared o false = refl

    rows_read : (t : List ℕ) (b : Bool) → bytes_eq t (n ∷ name) ≡ b → rows_at state t ≡ cond b empty (rows_at state t)
    rows_read t true e = rows_at_absent state t (ap (get state) (same_is t (n ∷ name) e) ∙ absent)
    rows_read t false e = refl

    at : (t k : List ℕ) → new t k ≡ stored_under version (with_table state (n ∷ name) schema) t k
    at [] [] = change [] [] ∙ is.each [] []
    at [] (b ∷ q) =
        change [] (b ∷ q)
        ∙ ap (cond (bytes_eq (b ∷ q) (n ∷ name)) (Some (declaration_bytes schema))) (is.each [] (b ∷ q))
        ∙ declared (get state (b ∷ q)) (bytes_eq (b ∷ q) (n ∷ name))
        ∙ sym (ap spelled (get_put state (n ∷ name) (record { schema = schema; rows = empty }) (b ∷ q)))
    at (b ∷ q) k =
        change (b ∷ q) k
        ∙ is.each (b ∷ q) k
        ∙ ap (λ (r : RowMap). option_map row_bytes (get r k)) (rows_read (b ∷ q) _ refl ∙ sym (rows_at_put state (n ∷ name) (record { schema = schema; rows = empty }) (b ∷ q)))

-- only the version is stored of no tables
pub stores_nothing : (new records : Records) → ((t k : List ℕ) → records t k ≡ None) → ((t k : List ℕ) → new t k ≡ changed records [] [] (Some version) t k) → Stores new empty
stores_nothing new records nothing change = record { is_state = empty_state; each = at; former = λ old. absurd (not_former old) }
  where
    no_table : (name : List ℕ) → get (empty {X = TableData} {R = slice_cmp nat_cmp}) name ≡ None
    no_table = get-empty (slice_cmp nat_cmp)

    at : (t k : List ℕ) → new t k ≡ stored_under version empty t k
    at [] [] = change [] []
    at [] (b ∷ q) = change [] (b ∷ q) ∙ nothing [] (b ∷ q) ∙ sym (ap spelled (no_table (b ∷ q)))
    at (b ∷ q) k =
        change (b ∷ q) k
        ∙ nothing (b ∷ q) k
        ∙ sym (ap (λ (r : RowMap). option_map row_bytes (get r k)) (rows_at_absent empty (b ∷ q) (no_table (b ∷ q))) ∙ ap (option_map row_bytes) (get-empty (slice_cmp nat_cmp) k))

-- ---- what is read

-- under the empty name is the declaration of each table
pub declaration_stored : {written : List ℕ} (records : Records) (state : State) (name : List ℕ) → StoresIn written records state → name ≢ [] → records [] name ≡ option_map (λ t. declaration_bytes t.schema) (get state name)
declaration_stored records state [] is some = absurd (some refl)
declaration_stored records state (b ∷ name) is some = is.each [] (b ∷ name)

-- under the name of a table is each of its rows
pub row_stored : {written : List ℕ} (records : Records) (state : State) (name key : List ℕ) → StoresIn written records state → name ≢ [] → records name key ≡ option_map row_bytes (row_at state name key)
row_stored records state [] key is some = absurd (some refl)
row_stored records state (b ∷ name) key is some = is.each (b ∷ name) key
