-- What a run is refused with: this project's own numbers and names, and the result codes of SQLite.
use Rattle.std.specs.Prelude.{ℕ, List, codes}
use Rattle.cs_value.specs.declared.refusal.OrNoMemory.TheVariants as read_error
use Rattle.cs_wire_entries.specs.declared.fault.ReadFault.{ReadFault}
use Rattle.cs_value.specs.declared.refusal.OrNoMemory.{OrNoMemory}
use Rattle.cs_wire.specs.ReadFaults as reading
use Rattle.cs_rows.specs.declared.fault.StoreError.{StoreError}
use Rattle.cs_rows.specs.declared.fault.StoreError.TheVariants as store_error
use Rattle.cs_rows.specs.Faults as stores
use Rattle.cs_apply_engine.specs.declared.fault.ApplyFault.{ApplyFault}
use Rattle.cs_apply_engine.specs.declared.fault.ApplyFault.TheVariants.{Read, Wider, Abort, Misuse, Store, NoMemory}

abbrev pub code_of : ApplyFault → ℕ
code_of (Read fault) = reading.code_of fault.kind
code_of (Wider place) = 40
code_of (Abort conflict) = 41
code_of (Misuse conflict) = 42
code_of (Store error) = stores.code_of error
code_of NoMemory = 60

-- SQLite's SQLITE_CORRUPT, SQLITE_SCHEMA, SQLITE_ABORT, SQLITE_MISUSE and SQLITE_NOMEM
abbrev pub class_of : ApplyFault → ℕ
class_of (Read fault) = 11
class_of (Wider place) = 17
class_of (Abort conflict) = 4
class_of (Misuse conflict) = 21
class_of (Store error) = stores.class_of error
class_of NoMemory = 7

abbrev pub name_of : ApplyFault → List ℕ
name_of (Read fault) = reading.name_of fault.kind
name_of (Wider place) = codes "Wider"
name_of (Abort conflict) = codes "Abort"
name_of (Misuse conflict) = codes "Misuse"
name_of (Store error) = stores.name_of error
name_of NoMemory = codes "NoMemory"

-- a refusal of a store, and of the reader of files
abbrev pub fault_of : StoreError → ApplyFault
fault_of store_error.NoMemory = NoMemory
fault_of error = Store error

abbrev pub read_fault_of : OrNoMemory ReadFault → ApplyFault
read_fault_of (read_error.Fault fault) = Read fault
read_fault_of read_error.NoMemory = NoMemory
