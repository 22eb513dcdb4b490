-- What stores refuse with: this project's own numbers and names, and the result codes of SQLite.
use Rattle.std.specs.Prelude.{◌≡◌, ◌⊎◌, ℕ, List, Bool, true, false, Result, Ok, Err, codes}
use Rattle.cs_rows.specs.declared.fault.Cause.{Cause}
use Rattle.cs_rows.specs.declared.fault.StoreError.{StoreError}
use Rattle.cs_rows.specs.declared.fault.StoreError.TheVariants.{TableExists, NoTable, BadSchema, KeyTaken, NoRow}
use Rattle.cs_rows.specs.declared.fault.StoreError.TheVariants.{RowWidth, NullInKey, NotNull}
use Rattle.cs_rows.specs.declared.fault.StoreError.TheVariants.{DamagedStore, StoreFault, NoMemory}

abbrev pub code_of : StoreError → ℕ
code_of TableExists = 30
code_of NoTable = 31
code_of BadSchema = 32
code_of KeyTaken = 33
code_of NoRow = 34
code_of RowWidth = 35
code_of NullInKey = 36
code_of DamagedStore = 37
code_of (StoreFault cause) = 38
code_of NotNull = 39
code_of NoMemory = 60

-- SQLite's SQLITE_CORRUPT, SQLITE_CONSTRAINT, SQLITE_NOMEM and SQLITE_ERROR
abbrev pub class_of : StoreError → ℕ
class_of DamagedStore = 11
class_of NotNull = 19
class_of NoMemory = 7
class_of _ = 1

abbrev pub name_of : StoreError → List ℕ
name_of TableExists = codes "TableExists"
name_of NoTable = codes "NoTable"
name_of BadSchema = codes "BadSchema"
name_of KeyTaken = codes "KeyTaken"
name_of NoRow = codes "NoRow"
name_of RowWidth = codes "RowWidth"
name_of NullInKey = codes "NullInKey"
name_of DamagedStore = codes "DamagedStore"
name_of (StoreFault cause) = codes "StoreFault"
name_of NotNull = codes "NotNull"
name_of NoMemory = codes "NoMemory"

-- the database refused
pub data IsStoreFault : StoreError → Type 0 where
  refused_for : (cause : Cause) → IsStoreFault (StoreFault cause)

-- If it is a StoreFault, `Fails` holds of its cause. Nothing is said of other faults.
abbrev pub IsCaused : (Cause → Type 0) → StoreError → Type 0
IsCaused Fails (StoreFault cause) = Fails cause
IsCaused Fails _ = Unit {0}

-- memory ran out, or the database refused
abbrev pub IsResource : StoreError → Type 0
IsResource e = (e ≡ NoMemory) ⊎ IsStoreFault e

-- what a read may refuse with, whatever the disk returns
abbrev pub IsReadRefusal : StoreError → Type 0
IsReadRefusal e = (e ≡ DamagedStore) ⊎ IsResource e

-- what an edit of a row may refuse with, whatever the disk returns
abbrev pub IsEditRefusal : StoreError → Type 0
IsEditRefusal e = (e ≡ NoTable) ⊎ (e ≡ RowWidth) ⊎ (e ≡ NullInKey) ⊎ (e ≡ NotNull) ⊎ (e ≡ NoRow) ⊎ (e ≡ KeyTaken) ⊎ IsReadRefusal e

-- The error is not one of the rows: an edit refuses what was asked.
abbrev pub is_own : StoreError → Bool
is_own DamagedStore = false
is_own (StoreFault cause) = false
is_own NoMemory = false
is_own _ = true

-- The rows have answered each call of an edit: it is accepted, or refuses what was asked.
abbrev pub is_answered : {X : Type 0} → Result X StoreError → Bool
is_answered (Ok x) = true
is_answered (Err e) = is_own e
