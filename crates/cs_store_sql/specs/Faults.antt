-- The refusal of a call on records for an error of the database: this project's own.
use Rattle.sqlite.specs.declared.error.Error.{Error}
use Rattle.sqlite.specs.declared.error.Error.TheVariants.{SqliteFailure}
use Rattle.sqlite.specs.declared.error.ErrorCode.TheVariants.{OutOfMemory, ConstraintViolation}
use Rattle.sqlite_schema.specs.declared.schema.Constraint.TheVariants.{Unique}
use Rattle.cs_store_sql.specs.declared.fault.RecordsError.{RecordsError}
use Rattle.cs_store_sql.specs.declared.fault.RecordsError.TheVariants.{NoMemory, Database}

abbrev pub refusal_of : Error → RecordsError
refusal_of (SqliteFailure OutOfMemory) = NoMemory
refusal_of error = Database error

-- the database refused a record as one that is not unique
abbrev pub not_unique : RecordsError
not_unique = Database (SqliteFailure (ConstraintViolation Unique))
