-- What writes of records make of the state that is stored.
use Rattle.std.proofs.Common.{◌≡◌, ℕ, List, [], MatchResult, IsErrAnd, Option, Some, None, option_map, Result, Ok, Err, OnOk, OnErr, IsTrue, refl, sym, ap, subst, ◌∙◌}
use Rattle.std.specs.FinMap as map
use Rattle.cs_value.specs.Table.{IsName}
use Rattle.cs_store_encoding.specs.Declaration.{declaration_bytes}
use Rattle.cs_value.specs.declared.value.OwnedValue.{OwnedValue}
use Rattle.cs_value.specs.Spelling.{row_bytes}
use Rattle.cs_value.specs.State as tables
use Rattle.sqlite_trees.specs.Tree.{Trees}
use Rattle.sqlite.specs.Effect.{Database}
use Rattle.sqlite.specs.State.{State, HasCleanDisk}
use Rattle.cs_store_sql.specs.Records.{HoldsRecords, Sets, KeepsOthers, GoesOn, Rests, KeepsCrash, record_rows, records_in}
use Rattle.cs_rows.specs.Rows.{IsDeclared, Fits}
use Rattle.cs_store_encoding.specs.Stored.{Stores}
use Rattle.cs_store_tables.specs.Store.{HoldsState, IsSound, KeepsStore, tables_in}
use Rattle.cs_store_encoding.proofs.StateOf.{state_is}
use Rattle.cs_store_encoding.proofs.StoredLemmas.{stores_row, stores_no_row, stores_table}
use Rattle.cs_store_tables.specs.Crash.{MayLeave}
use Rattle.cs_store_tables.specs.Laws.{was_clean}
use Rattle.cs_store_tables.proofs.StoreLemmas.{rests_keeps, write_keeps}

-- a database that was written so that it stores a state holds that state
pub holds_next : (new : Database) (next : tables.State) → HoldsRecords new → Stores (records_in new) next → HoldsState new × (tables_in new ≡ next)
holds_next new next records stores =
    let is = state_is (record_rows new) next stores in
    (record { records = records; stores = subst (Stores (records_in new)) (sym is) stores }, is)

-- a name without a schema is that of no table
pub no_table : (state : tables.State) (name : List ℕ) → tables.schema_at state name ≡ None → map.get state name ≡ None
no_table state name none = at (map.get state name) refl
  where
    at : (o : Option tables.TableData) → map.get state name ≡ o → map.get state name ≡ None
    at None absent = absent
    at (Some table) some = absurd (let e = sym none ∙ ap (option_map (λ (t : tables.TableData). t.schema)) some in cc)

-- a row is put
pub row_put : (old new : Database) (name key : List ℕ) (row : List OwnedValue) → HoldsState old → Fits (tables_in old) name key row → Sets old new name key (Some (row_bytes row))
    → HoldsState new × (tables_in new ≡ tables.with_row (tables_in old) name key row)
row_put old new name key row holds fits set = holds_next new _ set.holds (stores_row (records_in new) (records_in old) (tables_in old) name key row holds.stores fits set.change)

-- a row is removed
pub row_removed : (old new : Database) (name key : List ℕ) → HoldsState old → IsDeclared (tables_in old) name → Sets old new name key None
    → HoldsState new × (tables_in new ≡ tables.without_row (tables_in old) name key)
row_removed old new name key holds declared set = holds_next new _ set.holds (stores_no_row (records_in new) (records_in old) (tables_in old) name key holds.stores declared set.change)

-- an open transaction of a sound store shows a state
pub shows_state : (s : State) → IsSound s → IsTrue s.in_transaction → HasCleanDisk s → HoldsState s.now
shows_state s sound inside clean = let store = sound clean in store.now (store.open_inside inside)

-- what follows from two facts of a success
pub on_ok_both : {X E : Type 0} (r : Result X E) (P Q R : Type 0) → (P → Q → R) → OnOk r P → OnOk r Q → OnOk r R
on_ok_both (Ok x) P Q R f p q = f p q
on_ok_both (Err e) P Q R f p q = tt

-- what follows from one
pub on_ok_then : {X E : Type 0} (r : Result X E) (P Q : Type 0) → (P → Q) → OnOk r P → OnOk r Q
on_ok_then (Ok x) P Q f p = f p
on_ok_then (Err e) P Q f p = tt

-- what holds of an answer holds of it with another refusal
pub mapped : {X E F : Type 0} (Q : E → F → Type 0) (answer : Result X E) (result : Result X F) (P : Type 0)
    → MatchResult answer (λ x. result ≡ Ok x) (λ e. IsErrAnd result (Q e)) → OnOk answer P → OnOk result P
mapped Q (Ok x) result P is p = subst (λ r. OnOk r P) (sym is) p
mapped Q (Err e) (Ok x) P is p = absurd is
mapped Q (Err e) (Err f) P is p = tt

-- a table is declared
pub table_put : (old new : Database) (name : List ℕ) (schema : tables.SchemaData) → HoldsState old → IsName name → tables.IsSchema schema → tables.schema_at (tables_in old) name ≡ None
    → Sets old new [] name (Some (declaration_bytes schema)) → HoldsState new × (tables_in new ≡ tables.with_table (tables_in old) name schema)
table_put old new name schema holds named is free set =
    holds_next new _ set.holds (stores_table (records_in new) (records_in old) (tables_in old) name schema holds.stores named is (no_table (tables_in old) name free) set.change)

-- a write that succeeds leaves a state, and else the database rests
write_kept : {X E : Type 0} (result : Result X E) (old new : State) → IsTrue old.in_transaction → KeepsCrash old new
    → (HasCleanDisk new → OnOk result (GoesOn old new × HoldsState new.now × KeepsOthers old.now new.now × (new.marks ≡ old.marks)))
    → (HasCleanDisk new → OnErr result (Rests old new)) → KeepsStore old new
write_kept (Ok x) old new inside crash wrote rests = write_keeps old new inside crash wrote
write_kept (Err e) old new inside crash wrote rests = rests_keeps old new crash rests

-- a record is written in a transaction of a sound store, and this is what the state that is stored becomes
module _ (old new : State) {X E : Type 0} (result : Result X E) (name key : List ℕ) (here : Option (List ℕ)) (next : tables.State) (sound : IsSound old) (inside : IsTrue old.in_transaction)
    (means : HasCleanDisk old → HoldsState old.now → Sets old.now new.now name key here → HoldsState new.now × (tables_in new.now ≡ next))
    (survives : (HasCleanDisk old → HoldsRecords old.now) → (HasCleanDisk old → IsTrue old.in_transaction) → KeepsCrash old new)
    (sets : HasCleanDisk new → HoldsRecords old.now → OnOk result (Sets old.now new.now name key here)) where
  crash : KeepsCrash old new
  crash = survives (λ clean. (shows_state old sound inside clean).records) (λ clean. inside)

  shown : HasCleanDisk new → HoldsState old.now
  shown clean = shows_state old sound inside (was_clean old new crash clean)

  pub written_is : HasCleanDisk new → OnOk result (tables_in new.now ≡ next)
  written_is clean = on_ok_then result _ _ (λ set. (means (was_clean old new crash clean) (shown clean) set).1) (sets clean (shown clean).records)

  pub written_keeps : (HasCleanDisk new → HoldsRecords old.now → IsTrue old.in_transaction → OnOk result (GoesOn old new)) → (HasCleanDisk new → HoldsRecords old.now → OnOk result (new.marks ≡ old.marks))
      → (HasCleanDisk new → OnErr result (Rests old new)) → KeepsStore old new
  written_keeps goes_on marks rests =
      write_kept result old new inside crash (λ clean.
      let records = (shown clean).records in
      on_ok_both result _ _ _ (λ (w : GoesOn old new × HoldsState new.now × KeepsOthers old.now new.now) same. (w.0, w.1, w.2, same))
      (on_ok_both result _ _ _ (λ set on. (on, (means (was_clean old new crash clean) (shown clean) set).0, set.others)) (sets clean records) (goes_on clean records inside)) (marks clean records)) rests

-- a row is put, by its bytes
pub put_keeps : (old new : State) {X E : Type 0} (result : Result X E) (name key : List ℕ) (row : List OwnedValue) (tie value : List ℕ) (sound : IsSound old) (inside : IsTrue old.in_transaction)
    → (HasCleanDisk old → Fits (tables_in old.now) name key row) → tie ≡ key → value ≡ row_bytes row
    → ((HasCleanDisk old → HoldsRecords old.now) → (HasCleanDisk old → IsTrue old.in_transaction) → KeepsCrash old new)
    → (HasCleanDisk new → HoldsRecords old.now → OnOk result (Sets old.now new.now name tie (Some value)))
    → (HasCleanDisk new → HoldsRecords old.now → IsTrue old.in_transaction → OnOk result (GoesOn old new)) → (HasCleanDisk new → HoldsRecords old.now → OnOk result (new.marks ≡ old.marks))
    → (HasCleanDisk new → OnErr result (Rests old new)) → KeepsStore old new
put_keeps old new result name key row tie value sound inside fits tied spelled survives sets =
    written_keeps old new result name tie (Some value) _ sound inside (λ clean holds set. row_put old.now new.now name key row holds (fits clean) (rw (tied, spelled) at set)) survives sets

-- the trees of a database that holds a state are a store's
pub may_leave : (s : State) (Holds : tables.State → Type 0) (trees : Trees) → HoldsState s.now → Holds (tables_in s.now) → trees ≡ s.now.trees → MayLeave Holds trees
may_leave s Holds trees holds shows same = subst (MayLeave Holds) (sym same) (record { schema = s.now.schema; store = holds; tables = shows })
