-- A store of two tables, and stores that are damaged, worked as examples.
use Rattle.std.proofs.Common.{bytes_eq, ◌≡◌, inl, inr, ℕ, ℤ, pos, Bool, true, false, ◌&&◌, cond, List, [], ◌∷◌, length, Some, None, get_or, unwrap_or, true≢false, codes, refl, sym, ap, ◌∙◌, subst, arith}
use Rattle.std.specs.Char.{encode_utf8}
use Rattle.std.specs.Str.{chars, is_utf8}
use Rattle.std.specs.Option.{option_map}
use Rattle.std.specs.Ordering.{nat_cmp}
use Rattle.std.specs.Cmp.Lexicographic.{slice_cmp}
use Rattle.std.specs.FinMap.{get, empty, get-empty}
use Rattle.std.proofs.lemmas.Cmp.{nat_list_eq_equiv}
use Rattle.sqlite_value.specs.declared.value.Value.TheVariants as sql
use Rattle.sqlite_value.specs.Order.{Row}
use Rattle.cs_value.specs.declared.value.OwnedValue.{OwnedValue}
use Rattle.cs_value.specs.declared.value.OwnedValue.TheVariants.{Int, Text, Null}
use Rattle.cs_value.specs.Varint.{leading_digits, varint}
use Rattle.cs_value.specs.Spelling.{counted, value_bytes, row_bytes}
use Rattle.cs_value.specs.Reading.{number_from, number_at, integer_at, counted_at, text_at, blob_at, field_at}
use Rattle.cs_value.specs.State.{SchemaData, TableData, RowMap, IsRowAt, State}
use Rattle.cs_store_sql.specs.Records.{Records, records_of}
use Rattle.cs_store_encoding.specs.Declaration.{IsFormer, declaration_bytes}
use Rattle.cs_store_encoding.specs.Stored.{version, former_version, stored_under, StoresIn, StoresInSome, Stores, values_at, columns_at, schema_in, state_of}
use Rattle.cs_store_encoding.specs.Valid.{AreValid}
use Rattle.cs_rows.proofs.Examples.{two_columns, refusing_columns, table_t, table_u, row, key, held, state, state_is_state, tables_at, rows_of_tables}
use Rattle.cs_store_encoding.proofs.StateOf.{records_first, fitting_read, state_is}
use Rattle.cs_rows.proofs.MapLemmas.{get_put}
use Rattle.cs_store_encoding.proofs.StoredReading.{schema_again}
use Rattle.cs_store_encoding.proofs.ValidLemmas.{stores_valid}

-- texts, and spelling and reading, compute
texts : Unit {0}
unfolding encode_utf8 chars is_utf8
texts = tt

spelling : Unit {0}
unfolding leading_digits varint counted value_bytes declaration_bytes
spelling = tt

reading : Unit {0}
unfolding texts number_from number_at integer_at counted_at text_at blob_at field_at values_at columns_at
reading = tt

-- ---- their records

-- a row of the table of records
abbrev pub sql_row : ℤ → List ℕ → List ℕ → List ℕ → Row
sql_row number tab key value = sql.Int number ∷ sql.Text tab ∷ sql.Blob key ∷ sql.Blob value ∷ []

abbrev pub declaration : List ℕ
declaration = 0x02 ∷ 0x01 ∷ 0x01 ∷ 0x61 ∷ 0x00 ∷ 0x01 ∷ 0x62 ∷ []

abbrev pub value : List ℕ
value = 0x01 ∷ 0 ∷ 0 ∷ 0 ∷ 0 ∷ 0 ∷ 0 ∷ 0 ∷ 1 ∷ 0x03 ∷ 0x01 ∷ 0x78 ∷ []

-- the rows of the records of a version, of declarations of t and u, and of a row of t
abbrev pub version_row : List ℕ → Row
version_row bytes = sql_row (pos 1) [] [] bytes

abbrev pub declaration_row : List ℕ → Row
declaration_row bytes = sql_row (pos 2) [] (codes "t") bytes

abbrev pub other_row : Row
other_row = sql_row (pos 3) [] (codes "u") (0x01 ∷ 0x01 ∷ 0x01 ∷ 0x63 ∷ [])

abbrev pub keyed_row : List ℕ → List ℕ → Row
keyed_row key value = sql_row (pos 4) (codes "t") key value

abbrev pub rows_with : List ℕ → List ℕ → List ℕ → List ℕ → List Row
rows_with version declaration key value = version_row version ∷ declaration_row declaration ∷ other_row ∷ keyed_row key value ∷ []

-- those of the state, in a version, and in that of stores
abbrev rows_in : List ℕ → List Row
rows_in written = rows_with written declaration key value

abbrev pub rows : List Row
rows = rows_in version

-- a test of bytes may be turned
turned : {X : Type 0} (s q : List ℕ) (x y : X) → cond (bytes_eq s q) x y ≡ cond (bytes_eq q s) x y
turned s q x y = ap (λ b. cond b x y) (nat_list_eq_equiv.symm s q)

-- the declarations in the rows are those of the tables
declarations_stored : (written : List ℕ) (b : ℕ) (name : List ℕ) → records_of (rows_in written) [] (b ∷ name) ≡ stored_under written state [] (b ∷ name)
unfolding records_of spelling
declarations_stored written b name =
    let n = b ∷ name in
    records_first [] n (declaration_row declaration) (other_row ∷ keyed_row key value ∷ [])
    ∙ ap (cond (bytes_eq (codes "t") n) (Some declaration)) (records_first [] n other_row (keyed_row key value ∷ []) ∙ turned (codes "u") n _ _)
    ∙ turned (codes "t") n _ _
    ∙ at (bytes_eq n (codes "t")) (bytes_eq n (codes "u"))
    ∙ sym (ap (option_map (λ (t : TableData). declaration_bytes t.schema)) (tables_at held n))
  where
    at : (t u : Bool) → cond t (Some declaration) (cond u (Some (0x01 ∷ 0x01 ∷ 0x01 ∷ 0x63 ∷ [])) None)
        ≡ option_map (λ (t : TableData). declaration_bytes t.schema) (cond t (Some (table_t held)) (cond u (Some table_u) None))
    at true u = refl
    at false true = refl
    at false false = refl

-- and the record of the row is its own
row_stored : (written : List ℕ) (b : ℕ) (name k : List ℕ) → records_of (rows_in written) (b ∷ name) k ≡ stored_under written state (b ∷ name) k
unfolding records_of spelling
row_stored written b name k =
    let n = b ∷ name in
    records_first n k (keyed_row key value) []
    ∙ at (bytes_eq (codes "t") n) (bytes_eq key k)
    ∙ turned (codes "t") n _ _
    ∙ ap (λ o. cond (bytes_eq n (codes "t")) (option_map row_bytes o) None) (turned key k _ _ ∙ sym here)
    ∙ into (bytes_eq n (codes "t"))
    ∙ sym (ap (λ (r : RowMap). option_map row_bytes (get r k)) (rows_of_tables held n))
  where
    at : (t r : Bool) → cond (t && r) (Some value) None ≡ cond t (option_map row_bytes (cond r (Some row) None)) None
    at true true = refl
    at true false = refl
    at false r = refl

    none : get (empty {K = List ℕ} {X = List OwnedValue} {R = slice_cmp nat_cmp}) k ≡ None
    none = get-empty (slice_cmp nat_cmp) k

    here : get held k ≡ cond (bytes_eq k key) (Some row) None
    here = get_put empty key row k ∙ ap (cond (bytes_eq k key) (Some row)) none

    into : (t : Bool) → cond t (option_map row_bytes (get held k)) None ≡ option_map row_bytes (get (cond t held empty) k)
    into true = refl
    into false = sym (ap (option_map row_bytes) none)

-- the four rows store the state, in the version that they have
rows_store_in : (written : List ℕ) → StoresIn written (records_of (rows_in written)) state
unfolding records_of
rows_store_in written = record { is_state = state_is_state; each = each; former = λ old. former }
  where
    each : (name key : List ℕ) → records_of (rows_in written) name key ≡ stored_under written state name key
    each [] [] = refl
    each [] (b ∷ name) = declarations_stored written b name
    each (b ∷ name) key = row_stored written b name key

    former : (name : List ℕ) (table : TableData) → get state name ≡ Some table → IsFormer table.schema
    former name table found = at (bytes_eq name (codes "t")) (bytes_eq name (codes "u")) (sym (tables_at held name) ∙ found)
      where
        at : (t u : Bool) → cond t (Some (table_t held)) (cond u (Some table_u) None) ≡ Some table → IsFormer table.schema
        at true u is = let same : table_t held ≡ table = cc in subst (λ (t : TableData). IsFormer t.schema) same refl
        at false true is = let same : table_u ≡ table = cc in subst (λ (t : TableData). IsFormer t.schema) same refl
        at false false is = absurd cc

pub rows_store : Stores (records_of rows) state
rows_store = rows_store_in version

-- so they are valid, and those of the former version, whose byte is 1, are too
rows_are_valid : AreValid (records_of rows)
rows_are_valid = stores_valid (records_of rows) state (version, inl refl, rows_store)

former_rows_are_valid : AreValid (records_of (rows_in (0x01 ∷ [])))
former_rows_are_valid = stores_valid (records_of (rows_in former_version)) state (former_version, inr refl, rows_store_in former_version)

-- and the state is read of them, of both the same
pub rows_are_read : state_of rows ≡ state
rows_are_read = state_is rows state rows_store

former_rows_are_read : state_of (rows_in (0x01 ∷ [])) ≡ state
former_rows_are_read = state_is (rows_in former_version) state (rows_store_in former_version)

-- ---- damaged records: those of the state, but for one change

-- what is not valid stores no state
pub no_state : (records : Records) → ¬ (AreValid records) → (state : State) → ¬ (StoresInSome records state)
no_state records damaged state is = damaged (stores_valid records state is)

-- bytes under the empty name that are no declaration
unread_declaration : (records : Records) (b : ℕ) (name bytes : List ℕ) → records [] (b ∷ name) ≡ Some bytes → schema_in bytes ≡ None → ¬ (AreValid records)
unread_declaration records b name bytes found unread valid =
    let declared = (valid.tables (b ∷ name) bytes (λ e. cc) found).1 in
    let e = sym unread ∙ ap schema_in declared.2 ∙ schema_again declared.0 declared.1 in cc

-- in valid records a row under the name of a declared table is read, and fits under its key
record IsReadRow (schema : SchemaData) (key value : List ℕ) : Type 0 where
  it : List OwnedValue
  reads : values_at (length schema.columns) value ≡ Some it
  fits : IsRowAt schema key it

read_row : (records : Records) (b : ℕ) (name key value declaration : List ℕ) (schema : SchemaData) → records [] (b ∷ name) ≡ Some declaration → schema_in declaration ≡ Some schema
    → records (b ∷ name) key ≡ Some value → AreValid records → IsReadRow schema key value
read_row records b name key value declaration schema declared is found valid =
    let r = valid.rows (b ∷ name) key value (λ e. cc) found in
    let spelled : declaration ≡ declaration_bytes r.schema = (let e = sym declared ∙ r.declared in cc) in
    let read = sym is ∙ ap schema_in spelled ∙ schema_again r.schema r.is_schema in
    let same : r.schema ≡ schema = cc in
    subst (λ (s : SchemaData). IsReadRow s key value) same (record { it = r.row; reads = ap (values_at (length r.schema.columns)) r.spelled ∙ fitting_read r.schema key r.row r.is_schema r.fits; fits = r.fits })

-- a row of the table t whose bytes are not read
unread_row : (key value : List ℕ) → records_of (rows_with version declaration key value) (codes "t") key ≡ Some value → values_at 2 value ≡ None → ¬ (AreValid (records_of (rows_with version declaration key value)))
unfolding records_of reading
unread_row key value found unread valid =
    let r = read_row (records_of (rows_with version declaration key value)) 0x74 [] key value declaration two_columns refl refl found valid in
    let e = sym unread ∙ r.reads in cc

-- and one whose bytes are those of a row that does not fit there
misplaced_in : (schema : SchemaData) (declaration key value : List ℕ) (row : List OwnedValue) → schema_in declaration ≡ Some schema
    → records_of (rows_with version declaration key value) (codes "t") key ≡ Some value → values_at (length schema.columns) value ≡ Some row → ¬ (IsRowAt schema key row)
    → ¬ (AreValid (records_of (rows_with version declaration key value)))
unfolding records_of reading
misplaced_in schema declaration key value row declared found reads misplaced valid =
    let r = read_row (records_of (rows_with version declaration key value)) 0x74 [] key value declaration schema refl declared found valid in
    let same : r.it ≡ row = (let e = sym r.reads ∙ reads in cc) in
    misplaced (subst (IsRowAt schema key) same r.fits)

misplaced_row : (key value : List ℕ) (row : List OwnedValue) → records_of (rows_with version declaration key value) (codes "t") key ≡ Some value → values_at 2 value ≡ Some row → ¬ (IsRowAt two_columns key row)
    → ¬ (AreValid (records_of (rows_with version declaration key value)))
unfolding records_of reading
misplaced_row key value row found reads misplaced = misplaced_in two_columns declaration key value row refl found reads misplaced

-- the version is 3, which is not known
other_version_is_damage : ¬ (AreValid (records_of (rows_with (0x03 ∷ []) declaration key value)))
unfolding records_of
other_version_is_damage valid = elim valid.is_version [
  | inl is ↦ absurd (omega (arith, ap (λ o. get_or (unwrap_or o []) 0 0) (valid.version_is ∙ ap Some is)))
  | inr is ↦ absurd (omega (arith, ap (λ o. get_or (unwrap_or o []) 0 0) (valid.version_is ∙ ap Some is)))
]

-- the declaration of t has a byte more after its columns
long_declaration_is_damage : ¬ (AreValid (records_of (rows_with version (0x02 ∷ 0x01 ∷ 0x01 ∷ 0x61 ∷ 0x00 ∷ 0x01 ∷ 0x62 ∷ 0x00 ∷ []) key value)))
unfolding records_of reading
long_declaration_is_damage = unread_declaration _ 0x74 [] (0x02 ∷ 0x01 ∷ 0x01 ∷ 0x61 ∷ 0x00 ∷ 0x01 ∷ 0x62 ∷ 0x00 ∷ []) refl refl

-- the row of t has a value for only the first of two columns
short_row_is_damage : ¬ (AreValid (records_of (rows_with version declaration key key)))
unfolding records_of reading
short_row_is_damage = unread_row key key refl refl

-- the row (1, 'x') has the key of another
other_key_is_damage : ¬ (AreValid (records_of (rows_with version declaration (0x01 ∷ 0 ∷ 0 ∷ 0 ∷ 0 ∷ 0 ∷ 0 ∷ 0 ∷ 2 ∷ []) value)))
unfolding records_of reading spelling
other_key_is_damage = misplaced_row (0x01 ∷ 0 ∷ 0 ∷ 0 ∷ 0 ∷ 0 ∷ 0 ∷ 0 ∷ 2 ∷ []) value row refl refl (λ fits. absurd (omega (arith, ap (λ (bytes : List ℕ). get_or bytes 8 0) fits.own)))

-- the row has NULL in its key
null_key_is_damage : ¬ (AreValid (records_of (rows_with version declaration (0x05 ∷ []) (0x05 ∷ 0x03 ∷ 0x01 ∷ 0x78 ∷ []))))
unfolding records_of reading
null_key_is_damage = misplaced_row (0x05 ∷ []) (0x05 ∷ 0x03 ∷ 0x01 ∷ 0x78 ∷ []) (Null ∷ Text (codes "x") ∷ []) refl refl (λ fits. fits.keyed.0 refl)

-- the row (1, NULL) has NULL in column b, which refuses it
abbrev refusing_declaration : List ℕ
refusing_declaration = 0x02 ∷ 0x01 ∷ 0x01 ∷ 0x61 ∷ 0x02 ∷ 0x01 ∷ 0x62 ∷ []

abbrev null_value : List ℕ
null_value = 0x01 ∷ 0 ∷ 0 ∷ 0 ∷ 0 ∷ 0 ∷ 0 ∷ 0 ∷ 1 ∷ 0x05 ∷ []

refused_null_is_damage : ¬ (AreValid (records_of (rows_with version refusing_declaration key null_value)))
unfolding records_of reading
refused_null_is_damage = misplaced_in refusing_columns refusing_declaration key null_value (Int (pos 1) ∷ Null ∷ []) refl refl refl (λ fits. true≢false fits.obeys)

-- in the former version no column outside the key refuses NULL
former_rule_is_damage : ¬ (AreValid (records_of (rows_with former_version refusing_declaration key value)))
unfolding records_of reading
former_rule_is_damage valid =
    let declared = (valid.tables (codes "t") refusing_declaration (λ e. cc) refl).1 in
    let old : valid.written ≡ former_version = (let e = valid.version_is in cc) in
    let read : Some refusing_columns ≡ Some declared.0 = ap schema_in declared.2 ∙ schema_again declared.0 declared.1 in
    let same : declared.0 ≡ refusing_columns = cc in
    let marked : IsFormer refusing_columns = subst IsFormer same (declared.3 old) in
    true≢false (ap (λ (l : List Bool). get_or l 1 true) marked)

-- the row has a real, which is no value
real_is_damage : ¬ (AreValid (records_of (rows_with version declaration key (0x02 ∷ 0 ∷ 0 ∷ 0 ∷ 0 ∷ 0 ∷ 0 ∷ 0 ∷ 0 ∷ 0x03 ∷ 0x01 ∷ 0x78 ∷ []))))
unfolding records_of reading
real_is_damage = unread_row key (0x02 ∷ 0 ∷ 0 ∷ 0 ∷ 0 ∷ 0 ∷ 0 ∷ 0 ∷ 0 ∷ 0x03 ∷ 0x01 ∷ 0x78 ∷ []) refl refl

-- there is no version
no_version_is_damage : ¬ (AreValid (records_of (declaration_row declaration ∷ other_row ∷ keyed_row key value ∷ [])))
unfolding records_of
no_version_is_damage valid = let e = valid.version_is in cc

-- a row is under the name w, which no table has
no_table_is_damage : ¬ (AreValid (records_of (version_row version ∷ declaration_row declaration ∷ other_row ∷ keyed_row key value ∷ sql_row (pos 5) (codes "w") key value ∷ [])))
unfolding records_of
no_table_is_damage valid = let r = valid.rows (codes "w") key value (λ e. cc) refl in let e = r.declared in cc
