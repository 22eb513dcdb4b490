-- The lists of records under a name are those of the state that is stored.
use Rattle.std.proofs.Common.{◌≡◌, ◌≢◌, ◌⊎◌, ◌&&◌, Result, Ok, Err, IfOk, IfErr, Vec, Global, String, string_bytes, ◌++◌, ◌<◌, get_or, zero, suc, ℕ, List, [], ◌∷◌, length, map, inl, inr, Option, Some, None, Bool, true, false, cond, T, option_map, refl, sym, ap, ◌∙◌, subst, arith}
use Rattle.std.specs.List.{AllByRecursion}
use Rattle.std.specs.Ordering.{nat_cmp, eq_by_cmp, is_lt}
use Rattle.std.specs.Cmp.Lexicographic.{slice_cmp, nat_list_cmp_total}
use Rattle.std.specs.FinMap.{get, entries, entries_sorted, get-entries, keys, values, is_sorted, find, slice_cmp-IsAntisymmetric, nat_cmp-IsAntisymmetric}
use Rattle.std.specs.FinMap.Entries.{below_all, same_entries}
use Rattle.std.proofs.lemmas.Bool.{and_from}
use Rattle.sqlite_trees.proofs.ListLemmas.{map-map, all-map}
use Rattle.cs_value.specs.declared.value.OwnedValue.{OwnedValue}
use Rattle.cs_value.specs.Value.{IsRow}
use Rattle.cs_value.specs.Table.{IsName}
use Rattle.cs_value.specs.Spelling.{row_bytes}
use Rattle.cs_value.specs.Maps.{ByBytes}
use Rattle.cs_value.specs.State.{SchemaData, RowMap, TableData, State, IsState, schema_at, rows_at}
use Rattle.cs_value.proofs.KeyedRows.{length-IsKeyedRow}
use Rattle.cs_value.proofs.Spellings.{row_bytes_same}
use Rattle.sqlite_rules.proofs.ListLemmas.{all_from}
use Rattle.cs_store_sql.specs.Records.{Records, Counts, ListsTable}
use Rattle.cs_store_sql.proofs.ListedRows.{find_own}
use Rattle.cs_store_encoding.specs.Declaration.{declaration_bytes}
use Rattle.cs_store_encoding.specs.Stored.{version, Stores}
use Rattle.cs_rows.specs.declared.fault.StoreError.{StoreError}
use Rattle.cs_rows.specs.declared.fault.StoreError.TheVariants.{DamagedStore}
use Rattle.cs_rows.specs.Faults.{IsResource, IsReadRefusal}
use Rattle.cs_rows.specs.Rows.{IsRowIn}
use Rattle.cs_store_tables.specs.Store.{AreNamed, AreStored, RecoversList}
use Rattle.cs_value.proofs.ListLemmas.{AllByRecursion-push}
use Rattle.std.proofs.lemmas.List.{length-map, map-append}
use Rattle.cs_rows.proofs.MemoryLemmas.{rows_at_found}
use Rattle.cs_store_encoding.proofs.StoredLemmas.{row_stored}

-- entries by lists of bytes, and whether their keys rise
abbrev pub Entries : Type 0 → Type 0
Entries X = List (List ℕ × X)

abbrev pub sorted : {X : Type 0} → Entries X → Type 0
sorted es = T (is_sorted (slice_cmp nat_cmp) es)

-- entries that are sorted and answer alike are one list
pub same_lists : {X : Type 0} (es fs : Entries X) → sorted es → sorted fs → ((q : List ℕ) → find (slice_cmp nat_cmp) q es ≡ find (slice_cmp nat_cmp) q fs) → es ≡ fs
same_lists = same_entries (slice_cmp nat_cmp) nat_list_cmp_total (slice_cmp-IsAntisymmetric nat_cmp-IsAntisymmetric)

-- a test that passes, in both forms
pub true_of : (b : Bool) → T b → b ≡ true
true_of true h = refl
true_of false h = absurd h

pub of_true : (b : Bool) → b ≡ true → T b
of_true b e = subst T (sym e) tt

-- ---- the entries of a map

-- what holds of what is found at each key holds of each entry
pub each_entry : {X : Type 0} (P : List ℕ → X → Type 0) (es : Entries X) → sorted es → ((q : List ℕ) (x : X) → find (slice_cmp nat_cmp) q es ≡ Some x → P q x) → AllByRecursion (λ e. P e.0 e.1) es
each_entry P es rising each = all_from (λ e. P e.0 e.1) es (λ e has. each e.0 e.1 (find_own es e (true_of _ rising) has))

-- ---- entries whose values are spelled

module _ {X Y : Type 0} (f : X → Y) where
  abbrev pub each_value : List ℕ × X → List ℕ × Y
  each_value e = (e.0, f e.1)

  below_values : (k : List ℕ) (es : Entries X) → below_all (slice_cmp nat_cmp) k (map each_value es) ≡ below_all (slice_cmp nat_cmp) k es
  below_values k [] = refl
  below_values k (e ∷ es) = ap (λ b. is_lt (slice_cmp nat_cmp k e.0) && b) (below_values k es)

  pub sorted_values : (es : Entries X) → is_sorted (slice_cmp nat_cmp) (map each_value es) ≡ is_sorted (slice_cmp nat_cmp) es
  sorted_values [] = refl
  sorted_values (e ∷ es) = ap (λ b. b && is_sorted (slice_cmp nat_cmp) (map each_value es)) (below_values e.0 es) ∙ ap (λ b. below_all (slice_cmp nat_cmp) e.0 es && b) (sorted_values es)

  pub find_values : (q : List ℕ) (es : Entries X) → find (slice_cmp nat_cmp) q (map each_value es) ≡ option_map f (find (slice_cmp nat_cmp) q es)
  find_values q [] = refl
  find_values q (e ∷ es) =
      elim (eq_by_cmp (slice_cmp nat_cmp) q e.0) as (λ b. cond b (Some (f e.1)) (find (slice_cmp nat_cmp) q (map each_value es)) ≡ option_map f (cond b (Some e.1) (find (slice_cmp nat_cmp) q es))) [ true ↦ refl | false ↦ find_values q es ]

  -- sorted entries that answer with the spelled values of a map are its entries with their values spelled
  listed_of : (m : ByBytes X) (listed : Entries Y) → sorted listed → ((q : List ℕ) → find (slice_cmp nat_cmp) q listed ≡ option_map f (get m q)) → listed ≡ map each_value (entries m)
  listed_of m listed rising each =
      same_lists listed (map each_value (entries m)) rising (subst T (sym (sorted_values (entries m))) (entries_sorted m)) (λ q. each q ∙ ap (option_map f) (get-entries m q) ∙ sym (find_values q (entries m)))

-- ---- the rows of a table

-- a row of as many values
abbrev pub IsRowOf : ℕ → List OwnedValue → Type 0
IsRowOf width row = IsRow row × (length row ≡ width)

-- rows of one width with equal bytes are equal
same_spelled : (width : ℕ) (rows others : List (List OwnedValue)) → AllByRecursion (IsRowOf width) rows → AllByRecursion (IsRowOf width) others → map row_bytes rows ≡ map row_bytes others → rows ≡ others
same_spelled width [] [] p q same = refl
same_spelled width [] (y ∷ others) p q same = absurd cc
same_spelled width (x ∷ rows) [] p q same = absurd cc
same_spelled width (x ∷ rows) (y ∷ others) p q same =
    let first : row_bytes x ≡ row_bytes y = cc in
    let rest : map row_bytes rows ≡ map row_bytes others = cc in
    cc (row_bytes_same x y p.0.0 q.0.0 (p.0.1 ∙ sym q.0.1) first, same_spelled width rows others p.1 q.1 rest)

-- bytes are those of one list of rows
stored_rows : (schema : SchemaData) (rows : List (List OwnedValue)) → AllByRecursion (IsRowIn schema) rows → AllByRecursion (IsRowOf (length schema.flags)) rows
stored_rows schema [] each = tt
stored_rows schema (row ∷ rows) each = ((each.0.values, sym (length-IsKeyedRow schema.flags row each.0.keyed)), stored_rows schema rows each.1)

pub stored_apart : (schema : SchemaData) (stored : List (List ℕ)) (rows others : List (List OwnedValue)) → AreStored schema stored rows → AreStored schema stored others → rows ≡ others
stored_apart schema stored rows others p q =
    same_spelled (length schema.flags) rows others (stored_rows schema rows p.each) (stored_rows schema others q.each) (sym p.spelled ∙ q.spelled)

-- one more row is stored
pub stored_push : (schema : SchemaData) (stored : List (List ℕ)) (bytes : List ℕ) (rows : List (List OwnedValue)) (row : List OwnedValue) → AreStored schema stored rows → IsRowIn schema row
    → bytes ≡ row_bytes row → AreStored schema (stored ++ bytes ∷ []) (rows ++ row ∷ [])
stored_push schema stored bytes rows row so_far is spelled = record {
  spelled = ap (λ (s : List (List ℕ)). s ++ bytes ∷ []) so_far.spelled ∙ ap (λ (b : List ℕ). map row_bytes rows ++ b ∷ []) spelled ∙ sym (map-append row_bytes rows (row ∷ []));
  each = AllByRecursion-push _ rows row so_far.each is;
}

-- each of the bytes is those of a row
pub stored_at : (schema : SchemaData) (stored : List (List ℕ)) (rows : List (List OwnedValue)) (i : ℕ) → AreStored schema stored rows → i < length stored
    → (row : List OwnedValue) × IsRowIn schema row × (get_or stored i [] ≡ row_bytes row)
stored_at schema [] rows i is lt = absurd (omega arith)
stored_at schema (b ∷ stored) [] i is lt = absurd (let e = is.spelled in cc)
stored_at schema (b ∷ stored) (row ∷ rows) zero is lt = (row, is.each.0, let e = is.spelled in cc)
stored_at schema (b ∷ stored) (row ∷ rows) (suc i) is lt =
    stored_at schema stored rows i (record { spelled = let e = is.spelled in cc; each = is.each.1 }) (omega arith)

-- the records under the name of a table spell its rows, by key
pub rows_spelled : (records : Records) (state : State) (name : List ℕ) (listed : Entries (List ℕ)) → Stores records state → name ≢ [] → ListsTable records name listed
    → map (λ e. e.1) listed ≡ map row_bytes (values (rows_at state name))
rows_spelled records state name listed is some lists =
    ap (map (λ e. e.1)) (listed_of row_bytes (rows_at state name) listed (of_true _ lists.rising) (λ key. lists.each key ∙ row_stored records state name key is some))
    ∙ map-map (λ e. e.1) (each_value row_bytes) (entries (rows_at state name))
    ∙ sym (map-map row_bytes (λ e. e.1) (entries (rows_at state name)))

-- and are as many
pub rows_counted : (records : Records) (state : State) (name : List ℕ) (n : ℕ) → Stores records state → name ≢ [] → Counts records name n → n ≡ length (values (rows_at state name))
rows_counted records state name n is some counts =
    counts.2 ∙ sym (length-map counts.0 (λ e. e.1)) ∙ ap length (rows_spelled records state name counts.0 is some counts.1) ∙ length-map (values (rows_at state name)) row_bytes

-- they are stored as rows of its schema
pub rows_are_stored : (records : Records) (state : State) (name : List ℕ) (schema : SchemaData) (listed : Entries (List ℕ)) → Stores records state → name ≢ [] → schema_at state name ≡ Some schema
    → ListsTable records name listed → AreStored schema (map (λ e. e.1) listed) (values (rows_at state name))
rows_are_stored records state name schema listed is some has lists = record { spelled = rows_spelled records state name listed is some lists; each = at (get state name) refl }
  where
    at : (o : Option TableData) → get state name ≡ o → AllByRecursion (IsRowIn schema) (values (rows_at state name))
    at None none = absurd (let e = sym has ∙ ap (option_map (λ (t : TableData). t.schema)) none in cc)
    at (Some table) found =
        let same : table.schema ≡ schema = let e = ap (option_map (λ (t : TableData). t.schema)) (sym found) ∙ has in cc in
        let each = all-map (IsRowIn table.schema) (λ e. e.1) (entries table.rows)
        (each_entry (λ key row. IsRowIn table.schema row) (entries table.rows) (entries_sorted table.rows) (λ key row got.
        let fit = (is.is_state name table found).is_table.rows key row (get-entries table.rows key ∙ got) in record { values = fit.values; keyed = fit.keyed; obeys = fit.obeys })) in
        subst (λ (r : RowMap). AllByRecursion (IsRowIn schema) (values r)) (sym (rows_at_found state name table found))
        (subst (λ (t : SchemaData). AllByRecursion (IsRowIn t) (values table.rows)) same each)

-- ---- the tables

-- names that are not empty are above the empty one
below_names : {X : Type 0} (es : Entries X) → AllByRecursion (λ e. e.0 ≢ []) es → below_all (slice_cmp nat_cmp) [] es ≡ true
below_names [] some = refl
below_names (([], x) ∷ es) some = absurd (some.0 refl)
below_names ((b ∷ name, x) ∷ es) some = below_names es some.1

-- what is stored of a table, and of all
abbrev spell : TableData → List ℕ
spell t = declaration_bytes t.schema

abbrev spelled_tables : State → Entries (List ℕ)
spelled_tables state = map (λ e. (e.0, declaration_bytes e.1.schema)) (entries state)

-- under the empty name are the version and the declarations of the tables, by their names
pub tables_listed : (records : Records) (state : State) (listed : Entries (List ℕ)) → Stores records state → ListsTable records [] listed
    → listed ≡ ([], version) ∷ map (λ e. (e.0, declaration_bytes e.1.schema)) (entries state)
tables_listed records state listed is lists = same_lists listed (([], version) ∷ spelled_tables state) (of_true _ lists.rising) (of_true _ (and_from _ _ below rising)) each
  where
    named : AllByRecursion (λ e. e.0 ≢ []) (entries state)
    named = each_entry (λ name table. name ≢ []) (entries state) (entries_sorted state) (λ name table found empty. let named = (is.is_state name table (get-entries state name ∙ found)).named in omega (arith, named.some, ap length empty))

    below : below_all (slice_cmp nat_cmp) [] (spelled_tables state) ≡ true
    below = below_values spell [] (entries state) ∙ below_names (entries state) named

    rising : is_sorted (slice_cmp nat_cmp) (spelled_tables state) ≡ true
    rising = sorted_values spell (entries state) ∙ true_of _ (entries_sorted state)

    each : (q : List ℕ) → find (slice_cmp nat_cmp) q listed ≡ find (slice_cmp nat_cmp) q (([], version) ∷ spelled_tables state)
    each [] = lists.each [] ∙ is.each [] []
    each (b ∷ name) = lists.each (b ∷ name) ∙ is.each [] (b ∷ name) ∙ ap (option_map spell) (get-entries state (b ∷ name)) ∙ sym (find_values spell (b ∷ name) (entries state))

-- so the keys there are the names of the tables, after the version's
pub names_listed : (records : Records) (state : State) (listed : Entries (List ℕ)) → Stores records state → ListsTable records [] listed → map (λ e. e.0) listed ≡ [] ∷ keys state
names_listed records state listed is lists =
    ap (map (λ e. e.0)) (tables_listed records state listed is lists) ∙ ap (λ (names : List (List ℕ)). [] ∷ names) (map-map (λ e. e.0) (λ e. (e.0, declaration_bytes e.1.schema)) (entries state))

-- each of them is a name
pub names_are : (state : State) → IsState state → AllByRecursion IsName (keys state)
names_are state is =
    all-map IsName (λ e. e.0) (entries state)
    (each_entry (λ name table. IsName name) (entries state) (entries_sorted state) (λ name table found. (is name table (get-entries state name ∙ found)).named))

-- names that are read
pub named_ok : (r : Result (Vec (String Global) Global) StoreError) (stored : List (List ℕ)) → AreNamed r stored → IfOk r (λ names. map string_bytes names.items ≡ stored)
named_ok (Ok names) stored h = h
named_ok (Err e) stored h = tt

pub named_err : (r : Result (Vec (String Global) Global) StoreError) (stored : List (List ℕ)) → AreNamed r stored → IfErr r IsResource
named_err (Ok names) stored h = tt
named_err (Err e) stored h = h

-- what a reader of rows refuses with
pub refused_named : {X : Type 0} (W : StoreError → Type 0) (r : Result X StoreError) → IfErr r (λ e. ((e ≡ DamagedStore) × W e) ⊎ IsResource e) → IfErr r IsReadRefusal
refused_named W (Ok x) h = tt
refused_named W (Err e) (inl damaged) = inl damaged.0
refused_named W (Err e) (inr resource) = inr resource

-- where rows are stored they are read, or memory is refused
pub rows_recovered : (r : Result (Vec (List OwnedValue) Global) StoreError) (schema : SchemaData) (stored : List (List ℕ)) (rows : List (List OwnedValue)) → IfOk r (λ v. AreStored schema stored v.items)
    → IfErr r (λ e. ((e ≡ DamagedStore) × ((others : List (List OwnedValue)) → ¬ (AreStored schema stored others))) ⊎ IsResource e) → AreStored schema stored rows → RecoversList r rows
rows_recovered (Ok v) schema stored rows read refused is = stored_apart schema stored v.items rows read is
rows_recovered (Err e) schema stored rows read (inl damaged) is = absurd (damaged.1 rows is)
rows_recovered (Err e) schema stored rows read (inr resource) is = resource
