-- Reads, one after another.
use Rattle.std.proofs.Common.{◌≡◌, ◌⊎◌, inl, inr, ℕ, List, Option, None, Some, Result, Ok, Err, is_ok, IsSome, option_map, true, IsErrAnd, true≢false, refl, sym, ap, subst, ◌∙◌}
use Rattle.std.specs.FinMap as map
use Rattle.sqlite.specs.Effect.{Database}
use Rattle.sqlite.specs.State as sqlite
use Rattle.sqlite.specs.State.{HasCleanDisk, IsUnchanged}
use Rattle.cs_value.specs.State.{SchemaData, State, TableData, schema_at}
use Rattle.cs_rows.specs.declared.fault.StoreError.{StoreError}
use Rattle.cs_rows.specs.declared.fault.StoreError.TheVariants.{NoTable, NoMemory}
use Rattle.cs_rows.specs.Faults as stores
use Rattle.cs_rows.specs.Faults.{IsReadRefusal, refused_for, is_own}
use Rattle.cs_rows.specs.Rows.{IsDeclared}
use Rattle.cs_store.specs.Laws.{was_clean, unchanged_then, rests_then, keeps_then}
use Rattle.cs_store.specs.Records.{Rests}
use Rattle.cs_store.specs.Store.{KeepsStore, tables_in}
use Rattle.cs_calls_answers.specs.declared.answer.Refused.{Refused}
use Rattle.cs_calls_answers.specs.Refusals.{plain_refusal}
use Rattle.cs_calls_conversions.specs.Refusals.{of_error, of_table, of_read_error}
use Rattle.cs_calls_executor.specs.Answered.{IsAnswered, IsResource, Reads}
use Rattle.cs_calls_executor.specs.TableCalls.{with_schema, on_table}

-- what is shown stays the same
same_tables : {X : Type 0} (answer : State → X) (old new : sqlite.State) → IsUnchanged old new → answer (tables_in new.now) ≡ answer (tables_in old.now)
same_tables answer old new same = ap (λ (db : Database). answer (tables_in db)) same.0.now_is

-- another read follows one that was answered
given_then : {X Y : Type 0} (first : State → Result X Refused) (answer second : State → Result Y Refused) (old mid new : sqlite.State) (x : X) (result : Result Y Refused)
    → ((tables : State) → first tables ≡ Ok x → answer tables ≡ second tables)
    → IsAnswered (first (tables_in old.now)) old mid (Ok x) → IsAnswered (second (tables_in mid.now)) mid new result → IsAnswered (answer (tables_in old.now)) old new result
given_then first answer second old mid new x result so (inl one) (inl two) =
    inl (two.0 ∙ same_tables second old mid one.1 ∙ sym (so (tables_in old.now) (sym one.0)), unchanged_then one.1 two.1)
given_then first answer second old mid new x result so (inl one) (inr refused) = inr refused
given_then first answer second old mid new x result so (inr none) two = absurd none

pub reads_then : {X Y : Type 0} (first : State → Result X Refused) (answer second : State → Result Y Refused) (old mid new : sqlite.State) (x : X) (result : Result Y Refused)
    → ((tables : State) → first tables ≡ Ok x → answer tables ≡ second tables) → Reads first old mid (Ok x) → Reads second mid new result → Reads answer old new result
reads_then first answer second old mid new x result so one two = record {
  kept = keeps_then one.kept two.kept;
  rests = λ clean. rests_then (one.rests (was_clean mid new two.kept.crash clean)) (two.rests clean);
  given = λ clean. given_then first answer second old mid new x result so (one.given (was_clean mid new two.kept.crash clean)) (two.given clean);
}

-- what is computed after a read, with no other
pub reads_on : {X Y : Type 0} (first : State → Result X Refused) (answer : State → Result Y Refused) (old new : sqlite.State) (x : X) (result : Result Y Refused)
    → ((tables : State) → first tables ≡ Ok x → (result ≡ answer tables) ⊎ IsErrAnd result IsResource) → Reads first old new (Ok x) → Reads answer old new result
reads_on {X} {Y} first answer old new x result so one = record {
  kept = one.kept;
  rests = one.rests;
  given = λ clean. at (one.given clean);
}
  where
    decided : IsUnchanged old new → (result ≡ answer (tables_in old.now)) ⊎ IsErrAnd result IsResource → IsAnswered (answer (tables_in old.now)) old new result
    decided same (inl is) = inl (is, same)
    decided same (inr refused) = inr refused

    at : IsAnswered (first (tables_in old.now)) old new (Ok x) → IsAnswered (answer (tables_in old.now)) old new result
    at (inl given) = decided given.1 (so (tables_in old.now) (sym given.0))
    at (inr none) = absurd none

-- a refusal is passed on
pub reads_refused : {X Y : Type 0} (first : State → Result X Refused) (answer : State → Result Y Refused) (old new : sqlite.State) (why : Refused)
    → ((tables : State) → first tables ≡ Err why → answer tables ≡ Err why) → Reads first old new (Err why) → Reads answer old new (Err why)
reads_refused {X} {Y} first answer old new why so one = record {
  kept = one.kept;
  rests = one.rests;
  given = λ clean. at (one.given clean);
}
  where
    at : IsAnswered (first (tables_in old.now)) old new (Err why) → IsAnswered (answer (tables_in old.now)) old new (Err why)
    at (inl given) = inl (sym (so (tables_in old.now) (sym given.0)), given.1)
    at (inr refused) = inr refused

-- one read
pub reads_one : {X : Type 0} (answer : State → Result X Refused) (old new : sqlite.State) (result : Result X Refused) → KeepsStore old new → (HasCleanDisk new → Rests old new) → (HasCleanDisk new → IsUnchanged old new)
    → (HasCleanDisk new → (result ≡ answer (tables_in old.now)) ⊎ IsErrAnd result IsResource) → Reads answer old new result
reads_one {X} answer old new result kept rests same is = record {
  kept = kept;
  rests = rests;
  given = λ clean. at clean (is clean);
}
  where
    at : HasCleanDisk new → (result ≡ answer (tables_in old.now)) ⊎ IsErrAnd result IsResource → IsAnswered (answer (tables_in old.now)) old new result
    at clean (inl it) = inl (it, same clean)
    at clean (inr refused) = inr refused

-- a read for which there is no memory, or which the database refuses
pub reads_unable : {X : Type 0} (answer : State → Result X Refused) (old new : sqlite.State) (error : StoreError) (why : Refused) → KeepsStore old new → (HasCleanDisk new → Rests old new) → (HasCleanDisk new → stores.IsResource error)
    → why ≡ of_error error → Reads answer old new (Err why)
reads_unable answer old new error why kept rests resource is = record {
  kept = kept;
  rests = rests;
  given = λ clean. inr (record { error = error; of = resource clean; is = is });
}

-- out of memory
pub no_memory : IsResource (plain_refusal 60)
no_memory = record { error = NoMemory; of = inl refl; is = refl }

-- what is read of tables
abbrev pub okay : {X : Type 0} → X → Result X Refused
okay x = Ok x

-- what an outcome is of
unfoldable pub from_ok : {X : Type 0} → X → Result X Refused → X
from_ok x (Ok y) = y
from_ok x (Err why) = x

why_of : {X : Type 0} → Refused → Result X Refused → Refused
why_of why (Ok x) = why
why_of why (Err other) = other

-- what is known of a table is what was found of it
pub schema_found : {X : Type 0} (tables : State) (table : List ℕ) (schema : SchemaData) (next : SchemaData → Result X Refused) → on_table tables table (λ s. Ok s) ≡ Ok schema → on_table tables table next ≡ next schema
unfolding from_ok
schema_found {X} tables table schema next found = at (schema_at tables table) found
  where
    at : (o : Option SchemaData) → with_schema {X = SchemaData} table o (λ s. Ok s) ≡ Ok schema → with_schema table o next ≡ next schema
    at None is = absurd (true≢false (sym (ap is_ok is)))
    at (Some s) is = ap (λ (r : Result SchemaData Refused). next (from_ok s r)) is

-- it is not there for another call either
pub schema_missing : {A X : Type 0} (tables : State) (table : List ℕ) (why : Refused) (found : SchemaData → A) (next : SchemaData → Result X Refused) → on_table tables table (λ s. Ok (found s)) ≡ Err why → on_table tables table next ≡ Err why
unfolding why_of
schema_missing {A} {X} tables table why found next missing = at (schema_at tables table) missing
  where
    at : (o : Option SchemaData) → with_schema {X = A} table o (λ s. Ok (found s)) ≡ Err why → with_schema table o next ≡ Err why
    at None is = ap (λ (r : Result A Refused). Err (why_of why r)) is
    at (Some s) is = absurd (true≢false (ap is_ok is))

-- what follows from what was found
pub value_found : {A X : Type 0} (tables : State) (table : List ℕ) (value x : A) (next : A → Result X Refused) → on_table tables table (λ s. Ok value) ≡ Ok x → on_table tables table (λ s. next value) ≡ next x
unfolding from_ok
value_found {A} {X} tables table value x next found = at (schema_at tables table) found
  where
    at : (o : Option SchemaData) → with_schema {X = A} table o (λ s. Ok value) ≡ Ok x → with_schema table o (λ s. next value) ≡ next x
    at None is = absurd (true≢false (sym (ap is_ok is)))
    at (Some s) is = ap (λ (r : Result A Refused). next (from_ok value r)) is

-- there is no such table
pub table_missing : {X : Type 0} (tables : State) (table : List ℕ) (why : Refused) (next : SchemaData → Result X Refused) → schema_at tables table ≡ None → (why ≡ of_table 31 table) ⊎ (why ≡ plain_refusal 60)
    → (Err why ≡ on_table tables table next) ⊎ IsErrAnd {T = X} (Err why) IsResource
table_missing tables table why next none (inl is) =
    inl (ap (λ (r : Refused). Err r) is ∙ sym (ap (λ (o : Option SchemaData). with_schema table o next) none))
table_missing tables table why next none (inr is) = inr (subst IsResource (sym is) no_memory)

-- there is one, and this is what it is asked for
pub table_there : {X : Type 0} (tables : State) (table : List ℕ) (x : X) → IsDeclared tables table → Ok x ≡ on_table tables table (λ s. Ok x)
table_there {X} tables table x there = at (map.get tables table) there
  where
    at : (o : Option TableData) → IsSome o → Ok x ≡ with_schema table (option_map (λ t. t.schema) o) (λ s. Ok x)
    at None some = absurd (true≢false (sym some))
    at (Some t) some = refl

-- its rows are not read
read_error_is : (table : List ℕ) (error : StoreError) → IsReadRefusal error → of_read_error table error ≡ of_error error
read_error_is table error (inl is) = subst (λ (e : StoreError). of_read_error table e ≡ of_error e) (sym is) refl
read_error_is table error (inr (inl is)) = subst (λ (e : StoreError). of_read_error table e ≡ of_error e) (sym is) refl
read_error_is table error (inr (inr (refused_for cause))) = refl

pub rows_refused : {X : Type 0} (next : State → SchemaData → Result X Refused) (table : List ℕ) (old new : sqlite.State) (error : StoreError) (why : Refused) → KeepsStore old new → (HasCleanDisk new → Rests old new)
    → (HasCleanDisk new → is_own error ≡ true → IsUnchanged old new) → (HasCleanDisk new → ((error ≡ NoTable) × (schema_at (tables_in old.now) table ≡ None)) ⊎ stores.IsResource error)
    → (why ≡ of_read_error table error) ⊎ (why ≡ plain_refusal 60) → Reads (λ tables. on_table tables table (next tables)) old new (Err why)
rows_refused {X} next table old new error why kept rests same refused is = record {
  kept = kept;
  rests = rests;
  given = λ clean. at clean (refused clean) is;
}
  where
    at : HasCleanDisk new → ((error ≡ NoTable) × (schema_at (tables_in old.now) table ≡ None)) ⊎ stores.IsResource error → (why ≡ of_read_error table error) ⊎ (why ≡ plain_refusal 60)
        → IsAnswered (on_table (tables_in old.now) table (next (tables_in old.now))) old new (Err why)
    at clean missing (inr memory) = inr (subst IsResource (sym memory) no_memory)
    at clean (inl missing) (inl it) =
        let is_table : why ≡ of_table 31 table = it ∙ ap (λ (e : StoreError). of_read_error table e) missing.0 in
        inl (
          ap (λ (r : Refused). Err r) is_table ∙ sym (ap (λ (o : Option SchemaData). with_schema table o (next (tables_in old.now))) missing.1),
          same clean (ap (λ (e : StoreError). is_own e) missing.0),
        )
    at clean (inr resource) (inl it) = inr (record { error = error; of = resource; is = it ∙ read_error_is table error (inr resource) })
