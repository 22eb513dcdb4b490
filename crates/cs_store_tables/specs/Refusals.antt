-- The refusal of a store whose records are refused: this project's own.
use Rattle.sqlite.specs.declared.error.Error.{Error}
use Rattle.sqlite.specs.declared.error.Error.TheVariants.{SqliteFailure}
use Rattle.sqlite.specs.declared.error.ErrorCode.TheVariants as code
use Rattle.cs_store_sql.specs.Faults as records_faults
use Rattle.cs_store_sql.specs.declared.fault.RecordsError.{RecordsError}
use Rattle.cs_store_sql.specs.declared.fault.RecordsError.TheVariants as records
use Rattle.cs_rows.specs.declared.fault.Cause.{Cause}
use Rattle.cs_rows.specs.declared.fault.Cause.TheVariants as cause
use Rattle.cs_rows.specs.declared.fault.StoreError.{StoreError}
use Rattle.cs_rows.specs.declared.fault.StoreError.TheVariants.{NoMemory, StoreFault}

-- the cause that an error of the database is
abbrev pub cause_of : Error → Cause
cause_of (SqliteFailure code.DatabaseBusy) = cause.Busy
cause_of (SqliteFailure code.NotADatabase) = cause.NotADatabase
cause_of (SqliteFailure code.DatabaseCorrupt) = cause.NotADatabase
cause_of (SqliteFailure code.DiskFull) = cause.Full
cause_of (SqliteFailure code.SystemIoFailure) = cause.InputOutput
cause_of (SqliteFailure code.CannotOpen) = cause.InputOutput
cause_of (SqliteFailure code.Closed) = cause.InputOutput
cause_of error = cause.Other

abbrev pub refusal_of : RecordsError → StoreError
refusal_of records.NoMemory = NoMemory
refusal_of (records.Database error) = StoreFault (cause_of error)

-- that for an error of the database
abbrev pub refusal_for : Error → StoreError
refusal_for error = refusal_of (records_faults.refusal_of error)
