-- The state that records store is read from their rows, and is the only one.
use Rattle.std.proofs.Common.{bytes_eq, ◌≡◌, ◌&&◌, ℕ, List, [], ◌∷◌, ◌++◌, length, inl, inr, Option, Some, None, Bool, true, false, cond, option_map, find, refl, sym, ap, ◌∙◌, arith}
use Rattle.std.specs.Option.{IsSome, is_some, option_and_then, option_to_list}
use Rattle.std.specs.List.{flat_map}
use Rattle.std.specs.Ordering.{nat_cmp, eq_by_cmp}
use Rattle.std.specs.Cmp.Lexicographic.{slice_cmp, nat_list_cmp_total, texts_ties}
use Rattle.std.specs.FinMap.{get, get-from_entries, find as find_entry}
use Rattle.std.proofs.lemmas.Bool.{cases_Bool}
use Rattle.std.proofs.lemmas.Cmp.{nat_list_eq_equiv}
use Rattle.sqlite_value.specs.Order.{Row, column}
use Rattle.cs_value.specs.declared.value.OwnedValue.{OwnedValue}
use Rattle.cs_value.specs.Spelling.{row_bytes}
use Rattle.cs_value.specs.State.{SchemaData, IsSchema, TableData, IsRowAt, IsTable, State, IsState}
use Rattle.cs_value.proofs.ByteMaps.{same_maps, tied_bytes}
use Rattle.cs_value.proofs.KeyedRows.{length-IsKeyedRow}
use Rattle.cs_store_sql.specs.Records.{Records, content, is_under, records_of}
use Rattle.cs_store_encoding.specs.Declaration.{declaration_bytes}
use Rattle.cs_store_encoding.specs.Stored.{StoresIn, values_at, entries_under, table_in, state_of}
use Rattle.cs_rows.proofs.MemoryLemmas.{row_at_found}
use Rattle.cs_store_sql.proofs.RowLemmas.{same_is}
use Rattle.cs_store_encoding.proofs.StoredReading.{values_again, schema_again, one_schema}

-- the first of the rows is found, or what the others hold
pub records_first : (name key : List ℕ) (row : Row) (rows : List Row) → records_of (row ∷ rows) name key ≡ cond (is_under name key row) (Some (content (column row 3))) (records_of rows name key)
unfolding records_of
records_first name key row rows =
    elim (is_under name key row) as (λ b. option_map (λ r. content (column r 3)) (cond b (Some row) (find (is_under name key) rows)) ≡ cond b (Some (content (column row 3))) (option_map (λ r. content (column r 3)) (find (is_under name key) rows)))
    [ true ↦ refl | false ↦ refl ]

module _ {X : Type 0} (read : List ℕ → List ℕ → Option X) (name : List ℕ) where
  -- the entry of a row, if it is under the name and read
  abbrev entry_of : Row → List (List ℕ × X)
  entry_of row =
      cond (bytes_eq (content (column row 1)) name) (option_to_list (option_map (λ x. (content (column row 2), x)) (read (content (column row 2)) (content (column row 3))))) []

  -- one step of a search among entries and of the same among records
  found_step : (key here value : List ℕ) (n s : Bool) (o : Option X) (es : List (List ℕ × X)) (records : Option (List ℕ)) → bytes_eq here key ≡ s → read here value ≡ o
      → ((v : List ℕ) → cond (n && s) (Some value) records ≡ Some v → IsSome (read key v))
      → (((v : List ℕ) → records ≡ Some v → IsSome (read key v)) → find_entry (slice_cmp nat_cmp) key es ≡ option_and_then (read key) records)
      → find_entry (slice_cmp nat_cmp) key (cond n (option_to_list (option_map (λ x. (here, x)) o)) [] ++ es) ≡ option_and_then (read key) (cond (n && s) (Some value) records)
  found_step key here value false s o es records same is reads later = later reads
  found_step key here value true false None es records same is reads later = later reads
  found_step key here value true false (Some x) es records same is reads later =
      ap (λ b. cond b (Some x) (find_entry (slice_cmp nat_cmp) key es)) (sym (texts_ties key here) ∙ nat_list_eq_equiv.symm key here ∙ same) ∙ later reads
  found_step key here value true true None es records same is reads later =
      absurd (let some = reads value refl in let none = sym (ap (λ k. read k value) (same_is here key same)) ∙ is in let e : false ≡ true = sym (ap is_some none) ∙ some in cc)
  found_step key here value true true (Some x) es records same is reads later =
      ap (λ b. cond b (Some x) (find_entry (slice_cmp nat_cmp) key es)) (sym (texts_ties key here) ∙ nat_list_eq_equiv.symm key here ∙ same) ∙ sym is ∙ ap (λ k. read k value) (same_is here key same)

  -- what is found among the entries is what is read of the records
  find_entries : (key : List ℕ) (rows : List Row) → ((v : List ℕ) → records_of rows name key ≡ Some v → IsSome (read key v))
      → find_entry (slice_cmp nat_cmp) key (flat_map entry_of rows) ≡ option_and_then (read key) (records_of rows name key)
  unfolding records_of
  find_entries key [] reads = refl
  find_entries key (row ∷ rows) reads =
      found_step key (content (column row 2)) (content (column row 3)) (bytes_eq (content (column row 1)) name) _ _ (flat_map entry_of rows) (records_of rows name key) refl refl
      (λ v e. reads v (records_first name key row rows ∙ e)) (find_entries key rows)
      ∙ ap (option_and_then (read key)) (sym (records_first name key row rows))

  -- what is read under a name and a key is what the records have there
  pub get_entries : (rows : List Row) (key : List ℕ) → ((v : List ℕ) → records_of rows name key ≡ Some v → IsSome (read key v))
      → get (entries_under read name rows) key ≡ option_and_then (read key) (records_of rows name key)
  get_entries rows key reads = get-from_entries nat_list_cmp_total (flat_map entry_of rows) key ∙ find_entries key rows reads

  -- a key at which nothing is read has nothing
  find_unread : (key : List ℕ) (rows : List Row) → ((v : List ℕ) → read key v ≡ None) → find_entry (slice_cmp nat_cmp) key (flat_map entry_of rows) ≡ None
  find_unread key [] unread = refl
  find_unread key (row ∷ rows) unread = at (bytes_eq (content (column row 1)) name) _ refl (find_unread key rows unread)
    where
      at : (n : Bool) (o : Option X) → read (content (column row 2)) (content (column row 3)) ≡ o
          → find_entry (slice_cmp nat_cmp) key (flat_map entry_of rows) ≡ None
          → find_entry (slice_cmp nat_cmp) key (cond n (option_to_list (option_map (λ x. (content (column row 2), x)) o)) [] ++ flat_map entry_of rows) ≡ None
      at false o is later = later
      at true None is later = later
      at true (Some x) is later = elim (cases_Bool (eq_by_cmp (slice_cmp nat_cmp) key (content (column row 2)))) [
        | inl tied ↦ absurd (let none = sym (ap (λ k. read k (content (column row 3))) (tied_bytes key (content (column row 2)) tied)) ∙ unread (content (column row 3)) in let e = sym is ∙ none in cc)
        | inr apart ↦ ap (λ b. cond b (Some x) (find_entry (slice_cmp nat_cmp) key (flat_map entry_of rows))) apart ∙ later
      ]

  -- and so has the map
  pub get_unread : (rows : List Row) (key : List ℕ) → ((v : List ℕ) → read key v ≡ None) → get (entries_under read name rows) key ≡ None
  get_unread rows key unread = get-from_entries nat_list_cmp_total (flat_map entry_of rows) key ∙ find_unread key rows unread

  -- what is spelled in the records and read back is what the map has
  pub get_spelled : (spell : X → List ℕ) (rows : List Row) (key : List ℕ) (o : Option X) → records_of rows name key ≡ option_map spell o
      → ((x : X) → o ≡ Some x → read key (spell x) ≡ Some x) → get (entries_under read name rows) key ≡ o
  get_spelled spell rows key o is reads = get_entries rows key (each o is reads) ∙ ap (option_and_then (read key)) is ∙ at o reads
    where
      each : (o : Option X) → records_of rows name key ≡ option_map spell o → ((x : X) → o ≡ Some x → read key (spell x) ≡ Some x)
          → (v : List ℕ) → records_of rows name key ≡ Some v → IsSome (read key v)
      each None is reads v found = absurd (let e = sym is ∙ found in cc)
      each (Some x) is reads v found = let same : spell x ≡ v = (let e = sym is ∙ found in cc) in ap is_some (ap (read key) (sym same) ∙ reads x refl)

      at : (o : Option X) → ((x : X) → o ≡ Some x → read key (spell x) ≡ Some x) → option_and_then (read key) (option_map spell o) ≡ o
      at None reads = refl
      at (Some x) reads = reads x refl

-- a state has no table of the empty name
no_nameless : (state : State) → IsState state → get state [] ≡ None
no_nameless state is = at (get state []) refl
  where
    at : (o : Option TableData) → get state [] ≡ o → o ≡ None
    at None e = refl
    at (Some table) e = absurd (let named = (is [] table e).named in omega (arith, named.some))

-- a row that fits a schema is read by the count of its columns
pub fitting_read : (schema : SchemaData) (key : List ℕ) (row : List OwnedValue) → IsSchema schema → IsRowAt schema key row → values_at (length schema.columns) (row_bytes row) ≡ Some row
fitting_read schema key row is fit = ap (λ n. values_at n (row_bytes row)) (is.as_many ∙ length-IsKeyedRow schema.flags row fit.keyed) ∙ values_again row fit.values

-- and so is a row of a table
row_read : (table : TableData) (key : List ℕ) (row : List OwnedValue) → IsTable table → get table.rows key ≡ Some row → values_at (length table.schema.columns) (row_bytes row) ≡ Some row
row_read table key row is found = fitting_read table.schema key row is.schema (is.rows key row found)

module _ {written : List ℕ} (rows : List Row) (state : State) (is : StoresIn written (records_of rows) state) where
  -- the rows of a table are read
  rows_are : (name : List ℕ) (table : TableData) → get state name ≡ Some table → entries_under (λ key value. values_at (length table.schema.columns) value) name rows ≡ table.rows
  rows_are [] table found = absurd (let none = sym (no_nameless state is.is_state) ∙ found in cc)
  rows_are (b ∷ name) table found =
      same_maps _ _ (λ key.
      get_spelled (λ key value. values_at (length table.schema.columns) value) (b ∷ name) row_bytes rows key (get table.rows key)
      (is.each (b ∷ name) key ∙ ap (option_map row_bytes) (row_at_found state (b ∷ name) key table found))
      (λ row e. row_read table key row (is.is_state (b ∷ name) table found).is_table e))

  -- a table is read
  table_is : (name : List ℕ) (table : TableData) → get state name ≡ Some table → table_in rows name (declaration_bytes table.schema) ≡ Some table
  table_is [] table found = absurd (let none = sym (no_nameless state is.is_state) ∙ found in cc)
  table_is (b ∷ name) table found =
      ap (option_map (λ (schema : SchemaData). let t : TableData = record { schema = schema; rows = entries_under (λ key value. values_at (length schema.columns) value) (b ∷ name) rows } in t))
      (schema_again table.schema (is.is_state (b ∷ name) table found).is_table.schema)
      ∙ ap (λ r. let t : TableData = record { schema = table.schema; rows = r } in Some t) (rows_are (b ∷ name) table found)

  -- the tables are read
  tables_are : (name : List ℕ) → get (entries_under (table_in rows) [] rows) name ≡ get state name
  tables_are [] = get_unread (table_in rows) [] rows [] (λ v. refl) ∙ sym (no_nameless state is.is_state)
  tables_are (b ∷ name) = get_spelled (table_in rows) [] (λ t. declaration_bytes t.schema) rows (b ∷ name) (get state (b ∷ name)) (is.each [] (b ∷ name)) (table_is (b ∷ name))

  -- the rows of the records of a state are read as it
  pub state_is : state_of rows ≡ state
  unfolding state_of
  state_is = same_maps _ _ tables_are

-- two values that are spelled alike, or none, are one, where they are read
one_spelled : {X : Type 0} (spell : X → List ℕ) (read : List ℕ → Option X) (a b : Option X) → ((x : X) → a ≡ Some x → read (spell x) ≡ Some x) → ((x : X) → b ≡ Some x → read (spell x) ≡ Some x)
    → option_map spell a ≡ option_map spell b → a ≡ b
one_spelled spell read None None p q same = refl
one_spelled spell read None (Some y) p q same = absurd cc
one_spelled spell read (Some x) None p q same = absurd cc
one_spelled spell read (Some x) (Some y) p q same = sym (p x refl) ∙ ap (option_and_then read) same ∙ q y refl

module _ {written other : List ℕ} (records : Records) (s t : State) (first : StoresIn written records s) (second : StoresIn other records t) where
  -- two tables with one declaration have the same rows
  same_rows : (name : List ℕ) (a b : TableData) → get s name ≡ Some a → get t name ≡ Some b → declaration_bytes a.schema ≡ declaration_bytes b.schema → a ≡ b
  same_rows [] a b in_s in_t same = absurd (let none = sym (no_nameless s first.is_state) ∙ in_s in cc)
  same_rows (n ∷ name) a b in_s in_t same =
      let x = (first.is_state (n ∷ name) a in_s).is_table in
      let y = (second.is_state (n ∷ name) b in_t).is_table in
      let schemas = one_schema a.schema b.schema x.schema y.schema same in
      let rows : a.rows ≡ b.rows = same_maps _ _ (λ key.
      one_spelled row_bytes (values_at (length a.schema.columns)) (get a.rows key) (get b.rows key) (λ row e. row_read a key row x e)
      (λ row e. ap (λ (c : SchemaData). values_at (length c.columns) (row_bytes row)) schemas ∙ row_read b key row y e)
      (ap (option_map row_bytes) (sym (row_at_found s (n ∷ name) key a in_s)) ∙ sym (first.each (n ∷ name) key) ∙ second.each (n ∷ name) key ∙ ap (option_map row_bytes) (row_at_found t (n ∷ name) key b in_t))) in
      λ i. record { schema = schemas i; rows = rows i }

  -- records store one state
  pub stored_once : s ≡ t
  stored_once = same_maps _ _ each
    where
      at : (n : ℕ) (name : List ℕ) (a b : Option TableData) → get s (n ∷ name) ≡ a → get t (n ∷ name) ≡ b
          → option_map (λ t. declaration_bytes t.schema) a ≡ option_map (λ t. declaration_bytes t.schema) b → a ≡ b
      at n name None None in_s in_t same = refl
      at n name None (Some b) in_s in_t same = absurd cc
      at n name (Some a) None in_s in_t same = absurd cc
      at n name (Some a) (Some b) in_s in_t same = ap Some (same_rows (n ∷ name) a b in_s in_t cc)

      each : (name : List ℕ) → get s name ≡ get t name
      each [] = no_nameless s first.is_state ∙ sym (no_nameless t second.is_state)
      each (n ∷ name) = at n name _ _ refl refl (sym (first.each [] (n ∷ name)) ∙ second.each [] (n ∷ name))
