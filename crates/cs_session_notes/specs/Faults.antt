-- What a session refuses with: this project's own numbers and names, and the result codes of SQLite.
use Rattle.std.specs.Prelude.{ℕ, List, codes}
use Rattle.cs_rows.specs.declared.fault.StoreError.{StoreError}
use Rattle.cs_rows.specs.declared.fault.StoreError.TheVariants as store_error
use Rattle.cs_rows.specs.Faults as stores
use Rattle.cs_apply_engine.specs.declared.fault.ApplyFault.{ApplyFault}
use Rattle.cs_apply_engine.specs.declared.fault.ApplyFault.TheVariants as apply_fault
use Rattle.cs_apply_engine.specs.Faults as applying
use Rattle.cs_session_notes.specs.declared.fault.SessionFault.{SessionFault}
use Rattle.cs_session_notes.specs.declared.fault.SessionFault.TheVariants.{Store, Apply, AlreadyAttached, WrongStore, NoMemory}

abbrev pub code_of : SessionFault → ℕ
code_of (Store error) = stores.code_of error
code_of (Apply fault) = applying.code_of fault
code_of AlreadyAttached = 50
code_of WrongStore = 51
code_of NoMemory = 60

-- SQLite's SQLITE_ERROR and SQLITE_NOMEM
abbrev pub class_of : SessionFault → ℕ
class_of (Store error) = stores.class_of error
class_of (Apply fault) = applying.class_of fault
class_of AlreadyAttached = 1
class_of WrongStore = 1
class_of NoMemory = 7

abbrev pub name_of : SessionFault → List ℕ
name_of (Store error) = stores.name_of error
name_of (Apply fault) = applying.name_of fault
name_of AlreadyAttached = codes "AlreadyAttached"
name_of WrongStore = codes "WrongStore"
name_of NoMemory = codes "NoMemory"

-- a refusal of a store
abbrev pub fault_of : StoreError → SessionFault
fault_of store_error.NoMemory = NoMemory
fault_of error = Store error

-- a changeset that was not applied: memory and the store stay what they are
abbrev pub apply_fault_of : ApplyFault → SessionFault
apply_fault_of apply_fault.NoMemory = NoMemory
apply_fault_of (apply_fault.Store error) = Store error
apply_fault_of fault = Apply fault
