-- Why a call on records fails: out of memory, or the database failed. The kit's `sqlite` defines how.
use Rattle.std.specs.Prelude.{◌≡◌, ◌≢◌, ◌⊎◌, ℕ, ℤ, Bool, true, false, List, [], ◌∷◌, Option, Some, None, Result, Ok, Err, IsSome, IsTrue, IfErr, OnOk, OnErr}
use Rattle.sqlite_disk.specs.Disk.{MoreFaults}
use Rattle.sqlite_value.specs.declared.value.Value.TheVariants.{Int, Text, Blob}
use Rattle.sqlite_value.specs.Order.{Row}
use Rattle.sqlite_schema.specs.declared.schema.Keys.TheVariants.{Enforced}
use Rattle.sqlite_resolve.specs.declared.compiled.Compiled.{Compiled}
use Rattle.sqlite_trees.specs.declared.error.StoreError.{StoreError}
use Rattle.sqlite_trees.specs.declared.error.StoreError.TheVariants as store
use Rattle.sqlite.specs.declared.error.Error.{Error}
use Rattle.sqlite.specs.declared.error.Error.TheVariants.{SqliteFailure, InvalidQuery}
use Rattle.sqlite.specs.declared.error.ErrorCode.TheVariants.{OutOfMemory, OperationInterrupted, TooBig, TransactionState}
use Rattle.sqlite.specs.Clock.{timed}
use Rattle.sqlite.specs.Does.{Tally, Does}
use Rattle.sqlite.specs.Effect.{Database}
use Rattle.sqlite.specs.Listing.{understood}
use Rattle.sqlite.specs.State.{State, HasCleanDisk, IsUnchanged, Executes, store_error, text_of}
use Rattle.cs_store_sql.specs.declared.fault.RecordsError.{RecordsError}
use Rattle.cs_store_sql.specs.declared.fault.RecordsError.TheVariants as records
use Rattle.cs_store_sql.specs.declared.records.Place.{Place}
use Rattle.cs_store_sql.specs.declared.records.Place.TheVariants as place
use Rattle.cs_store_sql.specs.Records.{DeclaresRecords, GoesOn, HoldsRecords, IsUndone, IsUnsupported, KeepsCrash, Makes, Rests, Sets}
use Rattle.cs_store_sql.specs.Statements.{create_text, put_text, replace_text, remove_text, take_text, Creates}

-- Out of memory, or the database failed with another error, and `Fails` holds of it.
abbrev pub IsFailure : (Error → Type 0) → RecordsError → Type 0
IsFailure Fails records.NoMemory = Unit {0}
IsFailure Fails (records.Database error) = (error ≢ SqliteFailure OutOfMemory) × Fails error

-- A statement that writes a record: by its name and key, or by the number of its row.
pub data Statement : Type 0 where
  puts : (is_new : Bool) (tab key value : List ℕ) → Statement
  replaces : (number : ℤ) (tab key value : List ℕ) → Statement
  removes : (tab key : List ℕ) → Statement
  takes : (number : ℤ) (tab key : List ℕ) → Statement

-- its text, and its parameters
abbrev pub text_in : Statement → List ℕ
text_in (puts is_new tab key value) = put_text is_new
text_in (replaces number tab key value) = replace_text
text_in (removes tab key) = remove_text
text_in (takes number tab key) = take_text

abbrev pub params_in : Statement → Row
params_in (puts is_new tab key value) = Text tab ∷ Blob key ∷ Blob value ∷ []
params_in (replaces number tab key value) = Blob value ∷ Int number ∷ []
params_in (removes tab key) = Text tab ∷ Blob key ∷ []
params_in (takes number tab key) = Int number ∷ []

-- the statement that puts a record whose row is at that place, and the one that removes it
abbrev pub put_at : Place → List ℕ → List ℕ → List ℕ → Statement
put_at place.Unknown tab key value = puts false tab key value
put_at (place.At number) tab key value = replaces number tab key value

abbrev pub remove_at : Place → List ℕ → List ℕ → Statement
remove_at place.Unknown tab key = removes tab key
remove_at (place.At number) tab key = takes number tab key

-- The database failed at the statement with this error.
abbrev pub FailsAt : State → State → Statement → Error → Type 0
FailsAt old new statement error = Executes (text_in statement) (params_in statement) old new (Err error)

-- Run on the database, with this limit on its steps, the statement may end so: with the database that it makes, with an
-- error, or without one at a row that is too big to be stored.
abbrev pub StatementEnds : Option ℕ → Database → Statement → Result (Tally × Database) (Option Error) → Type 0
StatementEnds limit db statement end =
    (it : Compiled) × (understood db.schema (text_in statement) ≡ Ok it) × (now : ℕ)
    × Does limit (record { keys = Enforced; in_doubt = false; may_wait = false })
    (timed (params_in statement) it.formats now) db (text_of (text_in statement) it) it.returning it.command end

-- The statement, run on what the first connection shows, makes what the second one shows.
abbrev pub EndsAs : State → Statement → State → Type 0
EndsAs old statement new = (tally : Tally) × StatementEnds old.step_limit old.now statement (Ok (tally, new.now))

-- The database may refuse the statement with this error, without a failure of the disk.
abbrev pub Refuses : Option ℕ → Database → Statement → Error → Type 0
Refuses limit db statement error =
    StatementEnds limit db statement (Err (Some error)) ⊎ ((error ≡ SqliteFailure TooBig) × StatementEnds limit db statement (Err None))

-- Statements that write records make the second database of the first, one after another. Of each this holds, with the
-- database as it is then.
pub data LeadsTo (Is : Database → Statement → Type 0) (limit : Option ℕ) (old : Database) : Database → Type 0 where
  itself : LeadsTo Is limit old old
  by_each : (mid new : Database) (statement : Statement) (tally : Tally) → LeadsTo Is limit old mid → Is mid statement
      → StatementEnds limit mid statement (Ok (tally, new)) → LeadsTo Is limit old new

-- The count of disk failures rose, or the connection was already shut.
abbrev pub IsHindered : State → State → StoreError → Type 0
IsHindered old new store.Io = MoreFaults old.faults new.faults
IsHindered old new store.Corrupt = MoreFaults old.faults new.faults
IsHindered old new store.Full = MoreFaults old.faults new.faults
IsHindered old new store.Broken = MoreFaults old.faults new.faults ⊎ (old.is_open ≡ false)
IsHindered old new store.OutOfMemory = ⊥
IsHindered old new store.Unstorable = ⊥

-- That is so, and the error says it.
abbrev pub HasDiskFailed : State → State → Error → Type 0
HasDiskFailed old new error = (cause : StoreError) × (error ≡ store_error cause) × IsHindered old new cause

-- A write fails only because the disk failed, or because the database refuses it.
abbrev pub CannotWrite : State → State → Statement → Error → Type 0
CannotWrite old new statement error = HasDiskFailed old new error ⊎ Refuses old.step_limit old.now statement error

-- A read fails only because the disk failed, or where the connection limits the steps of a query.
abbrev pub CannotRead : State → State → Error → Type 0
CannotRead old new error = HasDiskFailed old new error ⊎ ((error ≡ SqliteFailure OperationInterrupted) × IsSome old.step_limit)

-- ---- what calls say

-- An accepted call that reads changes nothing.
abbrev pub ChangesNothing : {X E : Type 0} → State → State → Result X E → Type 0
ChangesNothing old new result = HasCleanDisk new → OnOk result (IsUnchanged old new)

-- A refused call fails as a read does, where the table of records is declared.
abbrev pub FailsAsRead : {X : Type 0} → State → State → Result X RecordsError → Type 0
FailsAsRead old new result =
    HasCleanDisk new → (IsTrue old.is_open → DeclaresRecords old.now.schema) → IfErr result (IsFailure (CannotRead old new))

-- A refused call changes nothing, or its failure took the database back to the last commit.
abbrev pub RefusalRests : {X E : Type 0} → State → State → Result X E → Type 0
RefusalRests old new result = HasCleanDisk new → OnErr result (Rests old new)

-- A refused call took the database back to the last commit.
abbrev pub RefusalUndoes : {X E : Type 0} → State → State → Result X E → Type 0
RefusalUndoes old new result = HasCleanDisk new → OnErr result (IsUndone old new)

-- Inside a transaction, on a database that holds records, a crash leaves nothing that it could not leave before.
abbrev pub KeepsCrashInside : State → State → Type 0
KeepsCrashInside old new =
    (HasCleanDisk old → HoldsRecords old.now) → (HasCleanDisk old → IsTrue old.in_transaction) → KeepsCrash old new

-- A statement puts this value under a name and a key, or removes what is there, inside a transaction on a database that
-- holds records. If it is accepted, the transaction goes on with its marks, and shows what the statement makes.
pub record WritesRecord (old new : State) (statement : Statement) (tab key : List ℕ) (here : Option (List ℕ))
    (result : Result (Unit {0}) RecordsError) : Type 0 where
  pub set : HasCleanDisk new → HoldsRecords old.now → OnOk result (Sets old.now new.now tab key here)
  pub ends : HasCleanDisk new → HoldsRecords old.now → OnOk result (EndsAs old statement new)
  pub goes_on : HasCleanDisk new → HoldsRecords old.now → IsTrue old.in_transaction → OnOk result (GoesOn old new)
  pub marks : HasCleanDisk new → HoldsRecords old.now → OnOk result (new.marks ≡ old.marks)
  pub rests : RefusalRests old new result
  pub failed : HasCleanDisk new → IfErr result (IsFailure (FailsAt old new statement))
  pub was_clean : HasCleanDisk new → HasCleanDisk old
  pub survives : KeepsCrashInside old new

-- ---- transactions

-- A transaction begins only where none is open, and ends only where one is.
abbrev pub IsMisplaced : Type 0 → Error → Type 0
IsMisplaced Open error = Open × (error ≡ SqliteFailure TransactionState)

-- The table of records is not created: the text that makes it is another statement under the schema, or the database
-- failed at it.
abbrev pub CannotCreate : State → State → Error → Type 0
CannotCreate old new error = ((error ≡ InvalidQuery) × ¬ Creates old.now.schema) ⊎ Executes create_text [] old new (Err error)

-- It is not made: it is not created, or the statements on records cannot be used under the schema that then declares it.
abbrev pub CannotMake : State → State → Error → Type 0
CannotMake old new error =
    CannotCreate old new error ⊎ ((error ≡ InvalidQuery) × Makes old.now new.now × IsUnsupported new.now.schema)
