-- Valid records are those of a state: the one that is read of them.
use Rattle.std.proofs.Common.{◌≡◌, ◌≢◌, ℕ, List, [], ◌∷◌, length, Option, Some, None, refl, sym, ap, ◌∙◌, subst}
use Rattle.std.specs.Option.{option_map, option_and_then, is_some}
use Rattle.std.specs.FinMap.{get}
use Rattle.sqlite_value.specs.Order.{Row}
use Rattle.cs_value.specs.declared.value.OwnedValue.{OwnedValue}
use Rattle.cs_value.specs.Spelling.{row_bytes}
use Rattle.cs_value.specs.Table.{IsName}
use Rattle.cs_value.specs.State.{SchemaData, IsSchema, TableData, IsRowAt, State, IsNamedTable, IsState, row_at}
use Rattle.cs_store_sql.specs.Records.{Records, records_of}
use Rattle.cs_store_encoding.specs.Declaration.{declaration_bytes, IsFormer}
use Rattle.cs_store_encoding.specs.Stored.{former_version, stored_under, StoresIn, StoresInSome, values_at, entries_under, table_in, state_of}
use Rattle.cs_store_encoding.specs.Valid.{IsDeclarationIn, IsStoredRow, AreValid}
use Rattle.cs_rows.proofs.MemoryLemmas.{row_at_found, row_at_absent}
use Rattle.cs_store_encoding.proofs.StateOf.{get_entries, get_unread, fitting_read}
use Rattle.cs_store_encoding.proofs.StoredLemmas.{declaration_stored, row_stored}
use Rattle.cs_store_encoding.proofs.StoredReading.{schema_again, one_schema}

-- ---- of a state

module _ {written : List ℕ} (records : Records) (state : State) (is : StoresIn written records state) where
  -- under the empty name are declarations, under names
  table_valid : (name bytes : List ℕ) → name ≢ [] → records [] name ≡ Some bytes → IsName name × IsDeclarationIn written bytes
  table_valid name bytes some found = at (get state name) refl (sym (declaration_stored records state name is some) ∙ found)
    where
      at : (o : Option TableData) → get state name ≡ o → option_map (λ t. declaration_bytes t.schema) o ≡ Some bytes → IsName name × IsDeclarationIn written bytes
      at None none e = absurd cc
      at (Some table) there e = let t = is.is_state name table there in (t.named, (table.schema, t.is_table.schema, cc, λ old. is.former old name table there))

  -- under another name are rows of its table
  row_valid : (name key value : List ℕ) → name ≢ [] → records name key ≡ Some value → IsStoredRow records name key value
  row_valid name key value some found = at (get state name) refl
    where
      of_table : (table : TableData) (o : Option (List OwnedValue)) → get state name ≡ Some table → get table.rows key ≡ o → option_map row_bytes o ≡ Some value → IsStoredRow records name key value
      of_table table None there here e = absurd cc
      of_table table (Some row) there here e =
          let t = (is.is_state name table there).is_table in
          record {
            schema = table.schema;
            is_schema = t.schema;
            declared = declaration_stored records state name is some ∙ ap (option_map (λ t. declaration_bytes t.schema)) there;
            row = row;
            fits = t.rows key row here;
            spelled = cc;
          }

      at : (o : Option TableData) → get state name ≡ o → IsStoredRow records name key value
      at None none = absurd (let e = sym found ∙ row_stored records state name key is some ∙ ap (option_map row_bytes) (row_at_absent state name key none) in cc)
      at (Some table) there =
          of_table table (get table.rows key) there refl (ap (option_map row_bytes) (sym (row_at_found state name key table there)) ∙ sym (row_stored records state name key is some) ∙ found)

-- the records of a state are valid, in each version that is read
pub stores_valid : (records : Records) (state : State) → StoresInSome records state → AreValid records
stores_valid records state (written, known, is) =
    record { written = written; is_version = known; version_is = is.each [] []; tables = table_valid records state is; rows = row_valid records state is }

-- ---- what is read

-- bytes are spelled of something of a kind, and it is read of them
record IsSpelled {X : Type 0} (P : X → Type 0) (spell : X → List ℕ) (read : List ℕ → Option X) (bytes : List ℕ) : Type 0 where
  it : X
  kind : P it
  spelled : bytes ≡ spell it
  reads : read bytes ≡ Some it

module _ {X : Type 0} (P : X → Type 0) (spell : X → List ℕ) (read : List ℕ → List ℕ → Option X) (name : List ℕ) (rows : List Row) (key : List ℕ)
    (each : (v : List ℕ) → records_of rows name key ≡ Some v → IsSpelled P spell (read key) v) where
  -- what is read under the key
  entry_read : get (entries_under read name rows) key ≡ option_and_then (read key) (records_of rows name key)
  entry_read = get_entries read name rows key (λ v e. ap is_some (each v e).reads)

  -- it is of the kind
  entry_kind : (x : X) → get (entries_under read name rows) key ≡ Some x → P x
  entry_kind x found = at (records_of rows name key) refl (sym entry_read ∙ found)
    where
      at : (o : Option (List ℕ)) → records_of rows name key ≡ o → option_and_then (read key) o ≡ Some x → P x
      at None none e = absurd cc
      at (Some v) there e = let s = each v there in let same : s.it ≡ x = (let f = sym s.reads ∙ e in cc) in subst P same s.kind

  -- and the record is spelled of it
  entry_spelled : records_of rows name key ≡ option_map spell (get (entries_under read name rows) key)
  entry_spelled = at (records_of rows name key) refl ∙ sym (ap (option_map spell) entry_read)
    where
      at : (o : Option (List ℕ)) → records_of rows name key ≡ o → o ≡ option_map spell (option_and_then (read key) o)
      at None none = refl
      at (Some v) there = let s = each v there in ap Some s.spelled ∙ sym (ap (option_map spell) s.reads)

-- ---- of valid rows

module _ (rows : List Row) (valid : AreValid (records_of rows)) where
  -- a table whose rows are spelled in the records under its name
  record IsReadTable (name : List ℕ) (table : TableData) : Type 0 where
    named : IsNamedTable name table
    former : valid.written ≡ former_version → IsFormer table.schema
    each : (key : List ℕ) → records_of rows name key ≡ option_map row_bytes (get table.rows key)

  -- under the name of a declared table are rows of its schema
  row_of : (name key value : List ℕ) (schema : SchemaData) → name ≢ [] → IsSchema schema → records_of rows [] name ≡ Some (declaration_bytes schema) → records_of rows name key ≡ Some value
      → IsSpelled (IsRowAt schema key) row_bytes (λ bytes. values_at (length schema.columns) bytes) value
  row_of name key value schema some is declared found =
      let r = valid.rows name key value some found in
      let spelled_alike : declaration_bytes r.schema ≡ declaration_bytes schema = (let e = sym r.declared ∙ declared in cc) in
      let fits = subst (λ (s : SchemaData). IsRowAt s key r.row) (one_schema r.schema schema r.is_schema is spelled_alike) r.fits in
      record { it = r.row; kind = fits; spelled = r.spelled; reads = ap (values_at (length schema.columns)) r.spelled ∙ fitting_read schema key r.row is fits }

  -- a declaration is that of the table that is read
  table_of : (b : ℕ) (name bytes : List ℕ) → records_of rows [] (b ∷ name) ≡ Some bytes → IsSpelled (IsReadTable (b ∷ name)) (λ t. declaration_bytes t.schema) (table_in rows (b ∷ name)) bytes
  table_of b name bytes found =
      let v = valid.tables (b ∷ name) bytes (λ e. cc) found in
      let schema = v.1.0 in
      let is = v.1.1 in
      let read : List ℕ → List ℕ → Option (List OwnedValue) = (λ key value. values_at (length schema.columns) value) in
      let each : (key value : List ℕ) → records_of rows (b ∷ name) key ≡ Some value → IsSpelled (IsRowAt schema key) row_bytes (read key) value = (λ key value e. row_of (b ∷ name) key value schema (λ f. cc) is (found ∙ ap Some v.1.2) e) in
      let table : TableData = record { schema = schema; rows = entries_under read (b ∷ name) rows } in
      record {
        it = table;
        kind = record {
          named = record { named = v.0; is_table = record { schema = is; rows = λ key row e. entry_kind (IsRowAt schema key) row_bytes read (b ∷ name) rows key (each key) row e } };
          former = v.1.3;
          each = λ key. entry_spelled (IsRowAt schema key) row_bytes read (b ∷ name) rows key (each key);
        };
        spelled = v.1.2;
        reads = ap (table_in rows (b ∷ name)) v.1.2
            ∙ ap (option_map (λ (s : SchemaData). let t : TableData = record { schema = s; rows = entries_under (λ key value. values_at (length s.columns) value) (b ∷ name) rows } in t)) (schema_again schema is);
      }

  -- what is read under a name is a table
  table_read : (b : ℕ) (name : List ℕ) (table : TableData) → get (state_of rows) (b ∷ name) ≡ Some table → IsReadTable (b ∷ name) table
  unfolding state_of
  table_read b name = entry_kind (IsReadTable (b ∷ name)) (λ t. declaration_bytes t.schema) (table_in rows) [] rows (b ∷ name) (table_of b name)

  -- and the declarations are of these tables
  table_declared : (b : ℕ) (name : List ℕ) → records_of rows [] (b ∷ name) ≡ option_map (λ t. declaration_bytes t.schema) (get (state_of rows) (b ∷ name))
  unfolding state_of
  table_declared b name = entry_spelled (IsReadTable (b ∷ name)) (λ t. declaration_bytes t.schema) (table_in rows) [] rows (b ∷ name) (table_of b name)

  -- no table of the empty name is read
  none_nameless : get (state_of rows) [] ≡ None
  unfolding state_of
  none_nameless = get_unread (table_in rows) [] rows [] (λ v. refl)

  -- what is read is a state
  is_state_of : IsState (state_of rows)
  is_state_of [] table found = absurd (let e = sym none_nameless ∙ found in cc)
  is_state_of (b ∷ name) table found = (table_read b name table found).named

  -- in the former version only the columns of its keys refuse NULL
  is_former : valid.written ≡ former_version → (name : List ℕ) (table : TableData) → get (state_of rows) name ≡ Some table → IsFormer table.schema
  is_former old [] table found = absurd (let e = sym none_nameless ∙ found in cc)
  is_former old (b ∷ name) table found = (table_read b name table found).former old

  -- a name without a table has no records
  no_rows : (b : ℕ) (name key : List ℕ) → get (state_of rows) (b ∷ name) ≡ None → records_of rows (b ∷ name) key ≡ None
  no_rows b name key none = at (records_of rows (b ∷ name) key) refl
    where
      at : (o : Option (List ℕ)) → records_of rows (b ∷ name) key ≡ o → o ≡ None
      at None e = refl
      at (Some value) e =
          absurd (let r = valid.rows (b ∷ name) key value (λ f. cc) e in let f = sym r.declared ∙ table_declared b name ∙ ap (option_map (λ t. declaration_bytes t.schema)) none in cc)

  -- under each name are the rows of the table that is read there
  rows_stored : (b : ℕ) (name key : List ℕ) → records_of rows (b ∷ name) key ≡ option_map row_bytes (row_at (state_of rows) (b ∷ name) key)
  rows_stored b name key = at (get (state_of rows) (b ∷ name)) refl
    where
      at : (o : Option TableData) → get (state_of rows) (b ∷ name) ≡ o → records_of rows (b ∷ name) key ≡ option_map row_bytes (row_at (state_of rows) (b ∷ name) key)
      at None none = no_rows b name key none ∙ sym (ap (option_map row_bytes) (row_at_absent (state_of rows) (b ∷ name) key none))
      at (Some table) there = (table_read b name table there).each key ∙ sym (ap (option_map row_bytes) (row_at_found (state_of rows) (b ∷ name) key table there))

  -- each record is stored of the state that is read
  each_stored : (name key : List ℕ) → records_of rows name key ≡ stored_under valid.written (state_of rows) name key
  each_stored [] [] = valid.version_is
  each_stored [] (b ∷ name) = table_declared b name
  each_stored (b ∷ name) key = rows_stored b name key

-- valid rows store the state that is read of them, in their version
pub valid_stores : (rows : List Row) (valid : AreValid (records_of rows)) → StoresIn valid.written (records_of rows) (state_of rows)
valid_stores rows valid = record { is_state = is_state_of rows valid; each = each_stored rows valid; former = is_former rows valid }
