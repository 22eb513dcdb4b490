-- For which causes a call on a store fails.
use Rattle.std.proofs.Common.{◌≡◌, inl, inr, ℕ, [], false, Result, Ok, Err, IfErr, OnOk, sym, subst, MatchResult, IsErrAnd, IsTrue, refl, List, true, true≢false, ap, None, ◌∙◌}
use Rattle.cs_store_tables.specs.Failing.{IsMade, LeadsOn, WriteFails, BatchFails, IsDeclarationOf, IsCauseOf, ReadFails, IsApt, IsAptFor, IsStatementOf, PutFails, RemoveFails, Writes}
use Rattle.cs_store_sql.specs.Failing.{Statement, CannotWrite, FailsAt, IsFailure, CannotRead, puts, replaces, removes, takes, EndsAs, LeadsTo, itself, by_each, put_at, remove_at}
use Rattle.cs_store_sql.specs.Faults.{not_unique}
use Rattle.cs_store_sql.proofs.StatementLemmas.{not_of_store}
use Rattle.cs_store_sql.proofs.WriteFailures.{write_fails}
use Rattle.sqlite.specs.Effect.{Database as Shown}
use Rattle.sqlite.specs.State.{State, HasCleanDisk, IsUnchanged}
use Rattle.sqlite.specs.declared.error.Error.{Error}
use Rattle.cs_rows.specs.declared.fault.Cause.{Cause}
use Rattle.cs_rows.specs.declared.fault.StoreError.{StoreError}
use Rattle.cs_rows.specs.Faults.{IsCaused, IsReadRefusal, is_answered}
use Rattle.cs_store_sql.specs.declared.fault.RecordsError.{RecordsError}
use Rattle.cs_store_sql.specs.declared.fault.RecordsError.TheVariants.{NoMemory, Database}
use Rattle.cs_store_sql.specs.declared.records.Place.{Place}
use Rattle.cs_store_sql.specs.declared.records.Place.TheVariants as places
use Rattle.cs_store_sql.specs.Records.{DeclaresRecords, HoldsRecords, IsPlaced, KeepsCrash, GoesOn, records_in}
use Rattle.cs_value.specs.declared.value.OwnedValue.{OwnedValue}
use Rattle.cs_value.specs.Spelling.{row_bytes}
use Rattle.cs_store_encoding.specs.Declaration.{declaration_bytes}
use Rattle.cs_store_tables.specs.Refusals.{refusal_of}
use Rattle.cs_store_tables.specs.Store.{IsSound, tables_in}
use Rattle.cs_store_tables.specs.Laws.{leads_so, was_clean}
use Rattle.cs_rows.specs.declared.fault.StoreError.TheVariants as store
pub use Rattle.cs_rows.proofs.CauseLemmas.{so_caused, caused_so}
use Rattle.cs_rows.proofs.CauseLemmas.{not_own}
use Rattle.cs_value.specs.State as tables
use Rattle.cs_rows.specs.Rows.{puts_row, removes_row}

-- what holds of an accepted call holds of one that was answered, where only the rows refuse it
pub answered : {X : Type 0} (r : Result X StoreError) (P : Type 0) → IfErr r IsReadRefusal → OnOk r P → is_answered r ≡ true → P
answered (Ok x) P refused holds is = holds
answered (Err e) P refused holds is = absurd (true≢false (sym is ∙ not_own e refused))

-- where a call on records fails with such errors, the store refuses for such causes
pub caused : (Fails : Error → Type 0) (f : RecordsError) → IsFailure Fails f → IsCaused (IsCauseOf Fails) (refusal_of f)
caused Fails NoMemory h = tt
caused Fails (Database e) h = (e, h.0, h.1, refl)

-- the error in a refusal
error_in : (e f : Error) → Database e ≡ Database f → e ≡ f
error_in e f same = cc

-- a write that fails is refused, or the disk failed
pub cannot_write : (old new : State) (statement : Statement) → (IsTrue old.is_open → DeclaresRecords old.now.schema) → (f : RecordsError) → IsFailure (FailsAt old new statement) f
    → IsFailure (CannotWrite old new statement) f
cannot_write old new statement declared NoMemory h = tt
cannot_write old new statement declared (Database e) h = (h.0, write_fails statement old new e declared h.0 h.1)

-- a sound store declares the table of records
pub declared : (s : State) → IsSound s → HasCleanDisk s → IsTrue s.is_open → DeclaresRecords s.now.schema
declared s sound clean is = ((sound clean).now is).records.declares

-- a statement that a store makes is refused as one
apt_for : (db : Shown) (statement : Statement) (e : Error) → IsApt db statement → IsAptFor db statement e
apt_for db (puts true tab key value) e apt = λ same. apt
apt_for db (puts false tab key value) e apt = apt
apt_for db (replaces number tab key value) e apt = apt
apt_for db (removes tab key) e apt = apt
apt_for db (takes number tab key) e apt = apt

-- so the store refuses it for such a cause
pub write_caused : (old new : State) (statement : Statement) (f : RecordsError) → (IsTrue old.is_open → DeclaresRecords old.now.schema) → ((e : Error) → f ≡ Database e → IsAptFor old.now statement e)
    → IsFailure (FailsAt old new statement) f → IsCaused (WriteFails old new statement) (refusal_of f)
write_caused old new statement NoMemory known apt fails = tt
write_caused old new statement (Database e) known apt fails =
    let cannot = cannot_write old new statement known (Database e) fails in (e, cannot.0, (apt e refl, cannot.1), refl)

-- and so where its refusal is that of the store
pub caused_write : {X : Type 0} (Q : RecordsError → StoreError → Type 0) (old new : State) (statement : Statement) (answer : Result X RecordsError) (result : Result X StoreError)
    → MatchResult answer (λ x. result ≡ Ok x) (λ f. IsErrAnd result (Q f)) → ((f : RecordsError) (e : StoreError) → Q f e → e ≡ refusal_of f) → (IsTrue old.is_open → DeclaresRecords old.now.schema) → IsApt old.now statement
    → IfErr answer (IsFailure (FailsAt old new statement)) → IfErr result (IsCaused (WriteFails old new statement))
caused_write Q old new statement (Ok x) result is so known apt fails = subst (λ r. IfErr r (IsCaused (WriteFails old new statement))) (sym is) tt
caused_write Q old new statement (Err f) (Ok x) is so known apt fails = tt
caused_write Q old new statement (Err f) (Err e) is so known apt fails =
    subst (IsCaused (WriteFails old new statement)) (sym (so f e is)) (write_caused old new statement f known (λ error same. apt_for old.now statement error apt) fails)

-- a refusal that is none of the database has each cause
pub never_caused : (Fails : Cause → Type 0) (e : StoreError) → IsCaused (λ _. ⊥) e → IsCaused Fails e
never_caused Fails (store.StoreFault c) none = absurd none
never_caused Fails e h = tt

-- a read of a store that is sound fails as one of its records
pub read_caused : (old new : State) (f : RecordsError) → IsSound old → KeepsCrash old new → HasCleanDisk new → ((IsTrue old.is_open → HoldsRecords old.now) → IsFailure (CannotRead old new) f)
    → IsCaused (ReadFails old new) (refusal_of f)
read_caused old new f sound crash clean fails = caused (CannotRead old new) f (fails (λ is. ((sound (was_clean old new crash clean)).now is).records))

-- where the row of a record is at that place, it is put and removed by statements that a store makes
pub apt_put : (db : Shown) (place : Place) (tab key value : List ℕ) → IsPlaced db tab key place → IsApt db (put_at place tab key value)
apt_put db places.Unknown tab key value placed = tt
apt_put db (places.At number) tab key value placed = placed

pub apt_removal : (db : Shown) (place : Place) (tab key : List ℕ) → IsPlaced db tab key place → IsApt db (remove_at place tab key)
apt_removal db places.Unknown tab key placed = tt
apt_removal db (places.At number) tab key placed = placed

-- they write the record of that write to rows
is_put : (place : Place) (name key : List ℕ) (row : List OwnedValue) → IsStatementOf (puts_row name key row) (put_at place name key (row_bytes row))
is_put places.Unknown name key row = (refl, refl, refl)
is_put (places.At number) name key row = (refl, refl, refl)

is_removal : (place : Place) (name key : List ℕ) → IsStatementOf (removes_row name key) (remove_at place name key)
is_removal places.Unknown name key = (refl, refl)
is_removal (places.At number) name key = (refl, refl)

-- ---- of a batch

-- a write to rows that fails
pub put_fails : (old new : State) (name key : List ℕ) (row : List OwnedValue) (why : Cause) → PutFails old new name key row why
    → BatchFails (Writes (λ held write. (held ≡ tables_in old.now) × (write ≡ puts_row name key row))) old new why
put_fails old new name key row why (inl outside) = inl outside
put_fails old new name key row why (inr (place, (e, other, (apt, inl failed), is))) = inr (e, other, inl (inl failed), is)
put_fails old new name key row why (inr (place, (e, other, (apt, inr refused), is))) = inr (
  e,
  other,
  inr (record {
    at = old.now;
    leads = itself;
    statement = put_at place name key (row_bytes row);
    is = (puts_row name key row, is_put place name key row, (refl, refl));
    apt = apt;
    refused = refused;
  }),
  is,
)

-- a new row that the database refuses as not unique, where no row has its key
pub refused_fails : (old mid new : State) (name key : List ℕ) (row : List OwnedValue) (f : RecordsError) → f ≡ not_unique → records_in old.now name key ≡ None
    → IsFailure (CannotWrite old mid (puts true name key (row_bytes row))) f → IsCaused (BatchFails (Writes (λ held write. (held ≡ tables_in old.now) × (write ≡ puts_row name key row))) old new) (refusal_of f)
refused_fails old mid new name key row NoMemory same free fails = tt
refused_fails old mid new name key row (Database e) same free (other, inl failed) = absurd (not_of_store failed.0 (sym (error_in e _ same) ∙ failed.1))
refused_fails old mid new name key row (Database e) same free (other, inr refused) = inr (
  e,
  other,
  inr (record {
    at = old.now;
    leads = itself;
    statement = puts true name key (row_bytes row);
    is = (puts_row name key row, (refl, refl, refl), (refl, refl));
    apt = λ unique. free;
    refused = refused;
  }),
  refl,
)

-- or fails for another reason
pub add_fails : (old new : State) (name key : List ℕ) (row : List OwnedValue) (why : Cause) → WriteFails old new (puts true name key (row_bytes row)) why
    → BatchFails (Writes (λ held write. (held ≡ tables_in old.now) × (write ≡ puts_row name key row))) old new why
add_fails old new name key row why (e, other, (apt, inl failed), is) = inr (e, other, inl (inl failed), is)
add_fails old new name key row why (e, other, (apt, inr refused), is) = inr (
  e,
  other,
  inr (record {
    at = old.now;
    leads = itself;
    statement = puts true name key (row_bytes row);
    is = (puts_row name key row, (refl, refl, refl), (refl, refl));
    apt = apt;
    refused = refused;
  }),
  is,
)

pub remove_fails : (old new : State) (name key : List ℕ) (why : Cause) → RemoveFails old new name key why
    → BatchFails (Writes (λ held write. (held ≡ tables_in old.now) × (write ≡ removes_row name key))) old new why
remove_fails old new name key why (inl outside) = inl outside
remove_fails old new name key why (inr (place, (e, other, (apt, inl failed), is))) = inr (e, other, inl (inl failed), is)
remove_fails old new name key why (inr (place, (e, other, (apt, inr refused), is))) = inr (
  e,
  other,
  inr (record {
    at = old.now;
    leads = itself;
    statement = remove_at place name key;
    is = (removes_row name key, is_removal place name key, (refl, refl));
    apt = apt;
    refused = refused;
  }),
  is,
)

-- a declaration
pub declare_fails : (old new : State) (name : List ℕ) (schema : tables.SchemaData) (why : Cause) → WriteFails old new (puts false [] name (declaration_bytes schema)) why
    → BatchFails (IsDeclarationOf (tables_in old.now) name schema) old new why
declare_fails old new name schema why (e, other, (apt, inl failed), is) = inr (e, other, inl (inl failed), is)
declare_fails old new name schema why (e, other, (apt, inr refused), is) = inr (
  e,
  other,
  inr (record {
    at = old.now;
    leads = itself;
    statement = puts false [] name (declaration_bytes schema);
    is = (refl, refl);
    apt = apt;
    refused = refused;
  }),
  is,
)

-- a read
pub read_fails : (Is : tables.State → Statement → Type 0) (old new : State) (why : Cause) → ReadFails old new why → BatchFails Is old new why
read_fails Is old new why (e, other, cannot, is) = inr (e, other, inl cannot, is)

-- ---- accepted calls

pub read_leads : {Is : tables.State → Statement → Type 0} (old new : State) → IsUnchanged old new → LeadsOn Is old new
read_leads {Is} old new same = record {
  inside = λ is. subst IsTrue (sym same.0.mode) is;
  leads = subst (λ (db : Shown). LeadsTo (IsMade Is) old.step_limit old.now db) (sym same.0.now_is) itself;
}

pub write_leads : (Is : tables.State → Statement → Type 0) (old new : State) (statement : Statement) → IsMade Is old.now statement → EndsAs old statement new → GoesOn old new → LeadsOn Is old new
write_leads Is old new statement is ends on = record { inside = λ was. on.mode; leads = by_each old.now new.now statement ends.0 itself is ends.1 }

-- a row is put, or removed
pub put_leads : (old new : State) (place : Place) (name key : List ℕ) (row : List OwnedValue) → LeadsOn (λ held statement. (held ≡ tables_in old.now) × (statement ≡ put_at place name key (row_bytes row))) old new
    → LeadsOn (Writes (λ held write. (held ≡ tables_in old.now) × (write ≡ puts_row name key row))) old new
put_leads old new place name key row = leads_so _ _ (λ held statement is.
    subst (λ (s : Statement). Writes (λ held write. (held ≡ tables_in old.now) × (write ≡ puts_row name key row)) held s) (sym is.1) (puts_row name key row, is_put place name key row, (is.0, refl)))

pub remove_leads : (old new : State) (place : Place) (name key : List ℕ) → LeadsOn (λ held statement. (held ≡ tables_in old.now) × (statement ≡ remove_at place name key)) old new
    → LeadsOn (Writes (λ held write. (held ≡ tables_in old.now) × (write ≡ removes_row name key))) old new
remove_leads old new place name key = leads_so _ _ (λ held statement is.
    subst (λ (s : Statement). Writes (λ held write. (held ≡ tables_in old.now) × (write ≡ removes_row name key)) held s) (sym is.1) (removes_row name key, is_removal place name key, (is.0, refl)))

pub on_ok : {X E : Type 0} (r : Result X E) (P : Type 0) → P → OnOk r P
on_ok (Ok x) P p = p
on_ok (Err e) P p = tt
