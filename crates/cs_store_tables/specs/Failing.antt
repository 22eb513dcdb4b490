-- For which causes the database of a store fails.
use Rattle.std.specs.Prelude.{◌≡◌, ◌≢◌, ◌⊎◌, ℕ, true, false, IsTrue, Option, List, [], None}
use Rattle.sqlite_trees.specs.declared.store.Store.{Ghosts}
use Rattle.sqlite.specs.declared.error.Error.{Error}
use Rattle.sqlite.specs.declared.error.Error.TheVariants.{SqliteFailure}
use Rattle.sqlite.specs.declared.error.ErrorCode.TheVariants.{ConstraintViolation, OutOfMemory}
use Rattle.sqlite_schema.specs.declared.schema.Constraint.TheVariants.{Unique}
use Rattle.sqlite.specs.Effect.{Database}
use Rattle.sqlite.specs.Held.{Held, state}
use Rattle.sqlite.specs.State.{State}
use Rattle.cs_value.specs.declared.value.OwnedValue.{OwnedValue}
use Rattle.cs_value.specs.Spelling.{row_bytes}
use Rattle.cs_rows.specs.declared.fault.Cause.{Cause}
use Rattle.cs_rows.specs.declared.fault.Cause.TheVariants.{Other}
use Rattle.cs_store_sql.specs.declared.records.Place.{Place}
use Rattle.cs_store_sql.specs.Records.{records_in, record_rows, HoldsRecords, IsAt, IsUnsupported, KeepsCrash, KeepsOthers, LacksRecords}
use Rattle.cs_rows.specs.Rows.{Write, puts_row, removes_row}
use Rattle.cs_value.specs.State as tables
use Rattle.cs_store_encoding.specs.Declaration.{declaration_bytes}
use Rattle.cs_store_encoding.specs.Stored.{version}
use Rattle.cs_store_sql.specs.Failing.{Statement, puts, replaces, removes, takes, put_at, remove_at, FailsAt, CannotMake, CannotRead, CannotWrite}
use Rattle.cs_store_sql.specs.Failing.{HasDiskFailed, IsMisplaced, LeadsTo, Refuses}
use Rattle.cs_store_tables.specs.Refusals.{cause_of}
use Rattle.cs_store_tables.specs.Store.{tables_in}

-- The cause is that of such an error, and not memory.
abbrev pub IsCauseOf : (Error → Type 0) → Cause → Type 0
IsCauseOf Fails cause = (error : Error) × (error ≢ SqliteFailure OutOfMemory) × Fails error × (cause ≡ cause_of error)

-- The statement is one that a store makes and the database accepts: a record is put as a new one only where none is
-- there, and replaced or removed by a number only where that is the number of its row.
abbrev pub IsApt : Database → Statement → Type 0
IsApt db (puts true tab key value) = records_in db tab key ≡ None
IsApt db (puts false tab key value) = Unit {0}
IsApt db (replaces number tab key value) = IsAt db tab key number
IsApt db (removes tab key) = Unit {0}
IsApt db (takes number tab key) = IsAt db tab key number

-- The database refuses a statement that a store makes. Where it refuses a new record as not unique, none is there:
-- another index refuses it.
abbrev pub IsAptFor : Database → Statement → Error → Type 0
IsAptFor db (puts true tab key value) error = error ≡ SqliteFailure (ConstraintViolation Unique) → records_in db tab key ≡ None
IsAptFor db statement error = IsApt db statement

-- A read fails for this cause, and a write.
abbrev pub ReadFails : State → State → Cause → Type 0
ReadFails old new = IsCauseOf (CannotRead old new)

abbrev pub WriteFails : State → State → Statement → Cause → Type 0
WriteFails old new statement = IsCauseOf (λ error. IsAptFor old.now statement error × CannotWrite old new statement error)

-- No transaction is open to write in. The cause is Other.
abbrev pub IsOutside : State → Cause → Type 0
IsOutside s cause = (s.in_transaction ≡ false) × (cause ≡ Other)

-- A row is not put, and a row is not removed: no transaction is open, or the statement fails that a store makes where
-- the row of the key is at some place, as far as is known.
abbrev pub PutFails : State → State → List ℕ → List ℕ → List OwnedValue → Cause → Type 0
PutFails old new name key row cause = IsOutside old cause
    ⊎ ((place : Place) × WriteFails old new (put_at place name key (row_bytes row)) cause)

abbrev pub RemoveFails : State → State → List ℕ → List ℕ → Cause → Type 0
RemoveFails old new name key cause = IsOutside old cause
    ⊎ ((place : Place) × WriteFails old new (remove_at place name key) cause)

-- A transaction does not begin, where one is open or the disk failed, and does not end, where none is or the disk failed.
abbrev pub BeginFails : State → State → Cause → Type 0
BeginFails old new = IsCauseOf (λ error. IsMisplaced (IsTrue old.in_transaction) error ⊎ HasDiskFailed old new error)

abbrev pub CommitFails : State → State → Cause → Type 0
CommitFails old new = IsCauseOf (λ error. IsMisplaced (old.in_transaction ≡ false) error ⊎ HasDiskFailed old new error)

-- A transaction is not marked, and does not go back to a mark, where none is open or the disk failed. A mark is not
-- dropped, where the disk failed.
abbrev pub MarkFails : State → State → Cause → Type 0
MarkFails old new = IsCauseOf (λ error. IsMisplaced (old.in_transaction ≡ false) error ⊎ HasDiskFailed old new error)

abbrev pub ReleaseFails : State → State → Cause → Type 0
ReleaseFails old new = IsCauseOf (HasDiskFailed old new)

-- ---- calls that make several statements

-- The statement writes the record of such a write to rows.
abbrev pub IsStatementOf : Write → Statement → Type 0
IsStatementOf (puts_row name key row) (puts is_new tab k value) = (tab ≡ name) × (k ≡ key) × (value ≡ row_bytes row)
IsStatementOf (puts_row name key row) (replaces number tab k value) = (tab ≡ name) × (k ≡ key) × (value ≡ row_bytes row)
IsStatementOf (puts_row name key row) (removes tab k) = ⊥
IsStatementOf (puts_row name key row) (takes number tab k) = ⊥
IsStatementOf (removes_row name key) (puts is_new tab k value) = ⊥
IsStatementOf (removes_row name key) (replaces number tab k value) = ⊥
IsStatementOf (removes_row name key) (removes tab k) = (tab ≡ name) × (k ≡ key)
IsStatementOf (removes_row name key) (takes number tab k) = (tab ≡ name) × (k ≡ key)

-- The statement writes the record of a write to rows, and `Is` holds of the write and of the tables as they are then.
abbrev pub Writes : (tables.State → Write → Type 0) → tables.State → Statement → Type 0
Writes Is held statement = (write : Write) × IsStatementOf write statement × Is held write

-- The statement declares this table, with these tables before.
abbrev pub IsDeclarationOf : tables.State → List ℕ → tables.SchemaData → tables.State → Statement → Type 0
IsDeclarationOf old name schema held statement = (held ≡ old) × (statement ≡ puts false [] name (declaration_bytes schema))

-- The statement holds of the tables as they are then, and is one that a store makes.
abbrev pub IsMade : (tables.State → Statement → Type 0) → Database → Statement → Type 0
IsMade Is db statement = Is (tables_in db) statement × IsApt db statement

-- An accepted call goes on: a transaction that was open still is, and statements lead from the database that was shown
-- to the one that is. `Is` holds of each.
pub record LeadsOn (Is : tables.State → Statement → Type 0) (old new : State) : Type 0 where
  pub inside : IsTrue old.in_transaction → IsTrue new.in_transaction
  pub leads : LeadsTo (IsMade Is) old.step_limit old.now new.now

-- Statements lead to the database `at`, and it refuses one more that a store makes. `Is` holds of each of them, also of
-- that one.
pub record IsRefused (Is : tables.State → Statement → Type 0) (limit : Option ℕ) (from : Database) (error : Error) :
    Type 0 where
  pub at : Database
  pub leads : LeadsTo (IsMade Is) limit from at
  pub statement : Statement
  pub is : Is (tables_in at) statement
  pub apt : IsAptFor at statement error
  pub refused : Refuses limit at statement error

-- The disk failed between the ends of a call, or the connection was shut or limits the steps of a query, or a database
-- to which statements lead refuses one more (`IsRefused`).
abbrev pub CallFails : (tables.State → Statement → Type 0) → State → State → Error → Type 0
CallFails Is old new error = CannotRead old new error ⊎ IsRefused Is old.step_limit old.now error

-- A call inside a transaction fails for this cause: no transaction is open, or `CallFails` holds of the error.
abbrev pub BatchFails : (tables.State → Statement → Type 0) → State → State → Cause → Type 0
BatchFails Is old new cause = IsOutside old cause ⊎ IsCauseOf (CallFails Is old new) cause

-- A call that begins and ends its own transaction fails for this cause: one is open, or `CallFails` holds of the error.
abbrev pub StoreFails : (tables.State → Statement → Type 0) → State → State → Cause → Type 0
StoreFails Is old new = IsCauseOf (λ error. IsMisplaced (IsTrue old.in_transaction) error ⊎ CallFails Is old new error)

-- ---- adoption

-- The database is the one that was found, with the table of records, which was made and is empty.
pub record HasMade (found now : Database) : Type 0 where
  pub lacked : LacksRecords found.schema
  pub holds : HoldsRecords now
  pub empty : record_rows now ≡ []
  pub others : KeepsOthers found now

-- Inside the transaction of an adoption, `Shown` holds of the database that the connection shows. No fault is forgotten,
-- and the limit on the steps of a query is as it was.
pub record IsInside (found was : State) (Shown : Database → Type 0) : Type 0 where
  pub inside : IsTrue was.in_transaction
  pub shows : Shown was.now
  pub crash : KeepsCrash found was

-- The version is not written.
abbrev pub VersionFails : State → State → Cause → Type 0
VersionFails old new = IsCauseOf (FailsAt old new (puts false [] [] version))

-- A database is not set up as a store. A read fails; or the statements on records cannot be used under its schema; or
-- it lacks the table of records, and that is not made; or it has that table, or gets it, and the version is not written.
-- No fault is forgotten from the database that was found to the last one.
pub data SetUpFails {S : Type 0} (g : Ghosts S) (found last : Held S) : Cause → Type 0 where
  by_read : (cause : Cause) → ReadFails (state g found) (state g last) cause → SetUpFails g found last cause
  unsupported : IsUnsupported (state g found).now.schema → SetUpFails g found last Other
  by_making : (was now : Held S) (cause : Cause) → LacksRecords (state g found).now.schema
      → IsInside (state g found) (state g was) (λ db. db ≡ (state g found).now)
      → KeepsCrash (state g was) (state g now) → IsCauseOf (CannotMake (state g was) (state g now)) cause
      → KeepsCrash (state g now) (state g last)
      → SetUpFails g found last cause
  by_version : (was now : Held S) (cause : Cause)
      → IsInside (state g found) (state g was) (λ db. HoldsRecords db × ((db ≡ (state g found).now) ⊎ HasMade (state g found).now db))
      → KeepsCrash (state g was) (state g now) → VersionFails (state g was) (state g now) cause
      → KeepsCrash (state g now) (state g last)
      → SetUpFails g found last cause

-- A database is not adopted: a transaction is open, or the disk failed, also at the commit; or it is not set up as a
-- store.
abbrev pub AdoptFails : {S : Type 0} → Ghosts S → Held S → Held S → Cause → Type 0
AdoptFails g old new cause = BeginFails (state g old) (state g new) cause ⊎ SetUpFails g old new cause
