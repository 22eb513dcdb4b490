-- What the steps of an adoption find and make.
use Rattle.std.proofs.Common.{◌≡◌, ◌≢◌, ◌⊎◌, ℕ, List, [], ◌∷◌, Some, None, Result, IfErr, IsTrue, inl, inr, refl, sym, ap, subst, ◌∙◌}
use Rattle.std.specs.FinMap as map
use Rattle.sqlite_value.specs.Order.{Row}
use Rattle.sqlite_schema.specs.declared.schema.Schema.{Schema}
use Rattle.cs_value.specs.State as tables
use Rattle.sqlite.specs.Effect.{Database, IsDatabase}
use Rattle.sqlite.specs.State.{State, HasCleanDisk, IsUnchanged, Survives}
use Rattle.sqlite.proofs.StateLemmas.{survives_then}
use Rattle.cs_rows.specs.declared.fault.StoreError.{StoreError}
use Rattle.cs_rows.specs.declared.fault.StoreError.TheVariants.{DamagedStore}
use Rattle.cs_rows.specs.Faults.{IsResource}
use Rattle.cs_store_sql.specs.Records.{RecordData, record_of, HoldsRecords, AreNumbered, Pass, ListsTable, Sets, GoesOn, KeepsCrash, changed, records_of, records_in, record_rows, DeclaresRecords, LacksRecords, KeepsOthers}
use Rattle.cs_store_sql.proofs.TableLemmas.{not_lacking, not_declared, otherwise_used}
use Rattle.cs_store_sql.proofs.ContentLemmas.{crash_then}
use Rattle.cs_store_sql.proofs.TableLemmas.{others_then, others_itself}
use Rattle.cs_store_encoding.specs.Stored.{version, stored_under, StoresIn}
use Rattle.cs_store_encoding.specs.Valid.{AreValid, AreDeclared, IsGoodRow, Schemas}
use Rattle.sqlite_trees.specs.View.{doubt}
use Rattle.cs_store_tables.specs.Store.{HoldsState, HoldsNone, HoldsTables, IsDamaged, SetsUp, MemoryIsHonest, tables_in}
use Rattle.cs_store_tables.specs.Crash.{MayLeave}
use Rattle.cs_store_tables.specs.Laws.{was_clean}
use Rattle.cs_store_encoding.specs.declared.version.Version.{Version}
use Rattle.cs_store_encoding.specs.Versions.{bytes_of}
use Rattle.cs_store_encoding.proofs.CheckLemmas.{is_version, checked_valid, valid_row}
use Rattle.cs_store_sql.proofs.ListedRows.{entry_there, row_there, there_row}
use Rattle.sqlite_rules.proofs.ListLemmas.{all_has, all_from}
use Rattle.std.specs.List.{AllByRecursion}
use Rattle.cs_store_encoding.proofs.StoredLemmas.{not_former, stores_nothing}
use Rattle.cs_store_encoding.proofs.ValidLemmas.{valid_stores, stores_valid}
use Rattle.cs_store_tables.proofs.WriteLemmas.{holds_next, may_leave}

-- ---- no record

-- no rows hold no record
pub none_there : (rows : List Row) → rows ≡ [] → (tab key : List ℕ) → records_of rows tab key ≡ None
unfolding records_of
none_there rows none tab key = ap (λ (r : List Row). records_of r tab key) none

-- rows that no test lets pass are none
pub none_passes : (rows : List Row) → Pass (λ _. ⊥) rows → rows ≡ []
none_passes [] pass = refl
none_passes (row ∷ rows) pass = absurd pass.each.0

-- where there is no row, each test is passed
pub all_pass_none : (Passes : RecordData → Type 0) (rows : List Row) → AreNumbered rows → rows ≡ [] → Pass Passes rows
all_pass_none Passes rows numbered none = record { numbered = numbered; each = subst (AllByRecursion (λ row. Passes (record_of row))) (sym none) tt }

-- no rows list no record
some_there : (rows : List Row) (listed : List (List ℕ × List ℕ)) → ListsTable (records_of rows) [] listed → listed ≢ [] → rows ≢ []
some_there rows [] lists some none = some refl
some_there rows (e ∷ listed) lists some none = absurd (let here = sym (entry_there (records_of rows) [] (e ∷ listed) lists e (inl refl)) ∙ none_there rows none [] e.0 in cc)

-- a database without records holds no tables
pub vacant_holds : (db : Database) (held : tables.State) → record_rows db ≡ [] → HoldsTables db held → held ≡ map.empty
vacant_holds db held none (inl vacant) = vacant.1
vacant_holds db held none (inr stored) = absurd (let e = sym (none_there (record_rows db) none [] []) ∙ stored.1.2.each [] [] in cc)

-- only the version is written
sets_version : (old new : Database) → HoldsRecords old → record_rows old ≡ [] → Sets old new [] [] (Some version) → HoldsState new × HoldsTables old (tables_in new)
sets_version old new holds none set =
    let next = holds_next new map.empty set.holds (stores_nothing (records_in new) (records_in old) (none_there (record_rows old) none) set.change) in
    (next.0, inl (inr (holds, none), next.1))

-- valid records are those of the same tables once the version of stores is written
renews_version : (old new : Database) → HoldsRecords old → AreValid (records_in old) → Sets old new [] [] (Some version) → HoldsState new × HoldsTables old (tables_in new)
renews_version old new holds valid set =
    let stored = valid_stores (record_rows old) valid in
    let next = holds_next new (tables_in old) set.holds (record { is_state = stored.is_state; each = λ t k. set.change t k ∙ at t k stored; former = λ old. absurd (not_former old) }) in
    (next.0, inr (holds, (valid.written, valid.is_version, subst (StoresIn valid.written (records_in old)) (sym next.1) stored)))
  where
    at : (t k : List ℕ) → StoresIn valid.written (records_in old) (tables_in old) → changed (records_in old) [] [] (Some version) t k ≡ stored_under version (tables_in old) t k
    at [] [] stored = refl
    at [] (b ∷ k) stored = stored.each [] (b ∷ k)
    at (b ∷ t) k stored = stored.each (b ∷ t) k

-- so where there was no record, or valid ones, the tables that were held are held as a store holds them
pub writes_version : (old new : Database) → HoldsRecords old → (record_rows old ≡ []) ⊎ AreValid (records_in old) → Sets old new [] [] (Some version) → HoldsState new × HoldsTables old (tables_in new)
writes_version old new holds (inl none) set = sets_version old new holds none set
writes_version old new holds (inr valid) set = renews_version old new holds valid set

-- ---- in a transaction

-- a transaction goes on from one call to the next
goes_on_then : (old mid new : State) → GoesOn old mid → GoesOn mid new → GoesOn old new
goes_on_then old mid new one two = record { was_open = one.was_open; is_open = two.is_open; now_is = two.now_is; committed_is = two.committed_is ∙ one.committed_is; mode = two.mode }

-- a store is made where nothing has the name of its table
pub made_then : (old mid new : State) → LacksRecords old.now.schema → GoesOn old mid → KeepsOthers old.now mid.now → IsDatabase mid.now → record_rows mid.now ≡ [] → SetsUp mid new → SetsUp old new
made_then old mid new lacks on others sound none set = record {
  on = goes_on_then old mid new on set.on;
  holds = set.holds;
  held = inl (inl lacks, vacant_holds mid.now (tables_in new.now) none set.held);
  others = others_then old.now mid.now new.now sound others set.others;
}

-- valid records of the version of stores are those of a state
pub valid_holds : (old new : State) → HoldsRecords old.now → AreValid (records_in old.now) → records_in old.now [] [] ≡ Some version → IsTrue old.in_transaction → IsUnchanged old new → SetsUp old new
valid_holds old new holds valid current inside same =
    let as_written = valid_stores (record_rows old.now) valid in
    let is_current : valid.written ≡ version = (let e = sym valid.version_is ∙ current in cc) in
    let stores = subst (λ w. StoresIn w (records_in old.now) (tables_in old.now)) is_current as_written in
    record {
      on = record { was_open = same.0.was_open; is_open = same.0.is_open; now_is = refl; committed_is = same.0.committed_is; mode = same.0.mode ∙ inside };
      holds = subst HoldsState (sym same.0.now_is) (record { records = holds; stores = stores });
      held = subst (λ db. HoldsTables old.now (tables_in db)) (sym same.0.now_is) (inr (holds, (version, inl refl, stores)));
      others = subst (KeepsOthers old.now) (sym same.0.now_is) (others_itself old.now);
    }

-- ---- damage

-- where records are listed that are not valid, no tables are held
pub none_held : (db : Database) (listed : List (List ℕ × List ℕ)) → DeclaresRecords db.schema → (HoldsRecords db → ListsTable (records_in db) [] listed) → listed ≢ [] → (HoldsRecords db → AreValid (records_in db) → ⊥) → HoldsNone db
none_held db listed declared lists some invalid held (inl (inl lacks, e)) = not_lacking db.schema lacks declared
none_held db listed declared lists some invalid held (inl (inr vacant, e)) = some_there (record_rows db) listed (lists vacant.0) some vacant.1
none_held db listed declared lists some invalid held (inr stored) = invalid stored.0 (stores_valid (records_in db) held stored.1)

-- where none is listed, and there are some, no tables are held
pub unnamed_held : (db : Database) → DeclaresRecords db.schema → (HoldsRecords db → ListsTable (records_in db) [] []) → (Pass (λ _. ⊥) (record_rows db) → ⊥) → HoldsNone db
unnamed_held db declared lists some held (inl (inl lacks, e)) = not_lacking db.schema lacks declared
unnamed_held db declared lists some held (inl (inr vacant, e)) = some (all_pass_none (λ _. ⊥) (record_rows db) vacant.0.numbered vacant.1)
unnamed_held db declared lists some held (inr stored) = absurd (let first = (lists stored.0).each [] ∙ stored.1.2.each [] [] in cc)

-- ---- a scan of all records

-- rows that pass are numbered, so the database holds records
pub scanned_holds : (db : Database) (Passes : RecordData → Type 0) → DeclaresRecords db.schema → IsDatabase db → Pass Passes (record_rows db) → HoldsRecords db
scanned_holds db Passes declares sound pass = record { declares = declares; sound = sound; numbered = pass.numbered }

module _ (db : Database) (version : Version) (listed : List (List ℕ × List ℕ)) (schemas : Schemas) (declared : AreDeclared (bytes_of version) listed schemas) (holds : HoldsRecords db)
    (lists : ListsTable (records_in db) [] listed) where
  -- where each is good, the records are valid
  pub scanned_valid : Pass (IsGoodRow schemas) (record_rows db) → records_in db [] [] ≡ Some (bytes_of version) → AreValid (records_in db)
  scanned_valid pass first =
      let rows = record_rows db in
      checked_valid (records_in db) listed lists (bytes_of version) schemas declared (λ name key value is.
      let row = there_row rows name key value is in
      subst (IsGoodRow schemas) row.2 (all_has (λ r. IsGoodRow schemas (record_of r)) rows row.0 pass.each row.1)) (is_version version) first

  -- and where the records are valid, each is good
  pub valid_passes : AreValid (records_in db) → Pass (IsGoodRow schemas) (record_rows db)
  valid_passes valid = record {
    numbered = holds.numbered;
    each = all_from (λ r. IsGoodRow schemas (record_of r)) (record_rows db) (λ row has. valid_row (records_in db) listed lists (bytes_of version) schemas declared valid (record_of row) (row_there db row holds has));
  }

-- a database that is as it was is damaged where it was
pub same_damage : {X : Type 0} (result : Result X StoreError) (Damaged : Database → Type 0) (old new : Database) → new ≡ old
    → IfErr result (λ e. ((e ≡ DamagedStore) × Damaged new) ⊎ IsResource e) → IfErr result (λ e. ((e ≡ DamagedStore) × Damaged old) ⊎ IsResource e)
same_damage result Damaged old new same h = subst (λ db. IfErr result (λ e. ((e ≡ DamagedStore) × Damaged db) ⊎ IsResource e)) same h

-- it holds no tables then
pub damaged_none : (db : Database) → IsDamaged db → HoldsNone db
damaged_none db (inl otherwise) held (inl (inl lacks, e)) = otherwise_used db.schema otherwise lacks
damaged_none db (inl otherwise) held (inl (inr vacant, e)) = not_declared db.schema otherwise vacant.0.declares
damaged_none db (inl otherwise) held (inr stored) = not_declared db.schema otherwise stored.0.declares
damaged_none db (inr damaged) held is = damaged.1 held is

-- ---- a crash

-- an adoption commits the tables that the database held
pub adopted_survives : (old begun mid new : State) → KeepsCrash old begun → (HasCleanDisk begun → begun.now ≡ old.now) → KeepsCrash begun mid → (HasCleanDisk mid → SetsUp begun mid)
    → Survives mid new (λ db. (db ≡ mid.now.trees) × IsTrue mid.in_transaction) → Survives old new (MayLeave (HoldsTables old.now))
adopted_survives old begun mid new begins same keeps sets commits =
    survives_then old mid new (λ _. ⊥) (λ db. (db ≡ mid.now.trees) × IsTrue mid.in_transaction) (MayLeave (HoldsTables old.now)) (λ clean db none. absurd none)
    (λ clean db made.
    let mid_clean = was_clean mid new commits clean in
    let set = sets mid_clean in
    let held = subst (λ d. HoldsTables d (tables_in mid.now)) (same (was_clean begun mid keeps mid_clean)) set.held in
    may_leave mid (HoldsTables old.now) db set.holds held made.0)
    (crash_then old begun mid begins keeps) commits

-- ---- memory

pub memory_honest : MemoryIsHonest
unfolding doubt
memory_honest conn = refl

-- where nothing is declared, nothing has the name of the table of records
pub empty_lacks : (schema : Schema) → schema ≡ record { tables = []; indexes = []; views = [] } → LacksRecords schema
empty_lacks schema none = subst LacksRecords (sym none) refl

-- a database where nothing has the name of the table of records holds no tables
pub nothing_held : (db : Database) (held : tables.State) → LacksRecords db.schema → HoldsTables db held → held ≡ map.empty
nothing_held db held lacks (inl vacant) = vacant.1
nothing_held db held lacks (inr stored) = absurd (not_lacking db.schema lacks stored.0.declares)

-- so it is not refused for damage
pub nothing_damaged : (db : Database) (e : StoreError) → LacksRecords db.schema → ((e ≡ DamagedStore) × IsDamaged db) ⊎ IsResource e → IsResource e
nothing_damaged db e nothing (inl damaged) = absurd (damaged_none db damaged.1 map.empty (inl (inl nothing, refl)))
nothing_damaged db e nothing (inr resource) = resource
