-- Why a history refuses a call, and what the refusals of the layers below are to it. The numbers are this project's own.
use Rattle.std.specs.Prelude.{ℕ, List, codes}
use Rattle.cs_rows.specs.declared.fault.StoreError.{StoreError}
use Rattle.cs_rows.specs.declared.fault.StoreError.TheVariants as store
use Rattle.cs_apply_engine.specs.declared.fault.ApplyFault.{ApplyFault}
use Rattle.cs_apply_engine.specs.declared.fault.ApplyFault.TheVariants as apply
use Rattle.cs_session_notes.specs.declared.fault.SessionFault.{SessionFault}
use Rattle.cs_session_notes.specs.declared.fault.SessionFault.TheVariants as session
use Rattle.cs_history.specs.declared.fault.HistoryFault.{HistoryFault}
use Rattle.cs_rows.specs.Faults as stores
use Rattle.cs_apply_engine.specs.Faults as applies
use Rattle.cs_history.specs.declared.fault.HistoryFault.TheVariants.{Store, Apply, WrongStore, NotHistory, NothingLeft, OwnTable, TooLarge, Damaged, NoMemory}

abbrev pub store_fault : StoreError → HistoryFault
store_fault store.NoMemory = NoMemory
store_fault error = Store error

abbrev pub apply_fault : ApplyFault → HistoryFault
apply_fault apply.NoMemory = NoMemory
apply_fault (apply.Store error) = Store error
apply_fault fault = Apply fault

abbrev pub session_fault : SessionFault → HistoryFault
session_fault session.NoMemory = NoMemory
session_fault (session.Store error) = Store error
session_fault (session.Apply fault) = Apply fault
session_fault fault = WrongStore

-- A call is refused with these three only so: no action is left, a changeset has a conflict or another fault, or the table
-- is not a history. The others are those of the store, of memory, and Damaged and TooLarge.
abbrev pub IsTold : Type 0 → Type 0 → Type 0 → HistoryFault → Type 0
IsTold none conflict foreign NothingLeft = none
IsTold none conflict foreign (Apply fault) = conflict
IsTold none conflict foreign NotHistory = foreign
IsTold none conflict foreign WrongStore = ⊥
IsTold none conflict foreign OwnTable = ⊥
IsTold none conflict foreign fault = Unit {0}

-- it says none of these
abbrev pub IsOther : HistoryFault → Type 0
IsOther = IsTold ⊥ ⊥ ⊥

-- ---- numbers and names

abbrev pub code_of : HistoryFault → ℕ
code_of (Store error) = stores.code_of error
code_of (Apply fault) = applies.code_of fault
code_of WrongStore = 51
code_of NotHistory = 100
code_of NothingLeft = 101
code_of Damaged = 102
code_of TooLarge = 103
code_of OwnTable = 104
code_of NoMemory = 60

-- SQLite's result codes: SQLITE_NOMEM, and SQLITE_ERROR for those of a history
abbrev pub class_of : HistoryFault → ℕ
class_of (Store error) = stores.class_of error
class_of (Apply fault) = applies.class_of fault
class_of NoMemory = 7
class_of fault = 1

abbrev pub name_of : HistoryFault → List ℕ
name_of (Store error) = stores.name_of error
name_of (Apply fault) = applies.name_of fault
name_of WrongStore = codes "WrongStore"
name_of NotHistory = codes "NotHistory"
name_of NothingLeft = codes "NothingLeft"
name_of Damaged = codes "DamagedHistory"
name_of TooLarge = codes "HistoryFull"
name_of OwnTable = codes "OwnTable"
name_of NoMemory = codes "NoMemory"
