-- What an edit and an apply through a session do, or why they are refused.
use Rattle.std.specs.Prelude.{◌≡◌, ◌⊎◌, ℕ, List, map, Ok, Err, string_bytes}
use Rattle.cs_value.specs.State.{State, WrittenData}
use Rattle.cs_rows.specs.declared.edit.Edit.{Edit}
use Rattle.cs_rows.specs.declared.edit.Edit.TheVariants.{Insert, Update, Delete}
use Rattle.cs_rows.specs.declared.fault.StoreError.TheVariants.{DamagedStore}
use Rattle.cs_rows.specs.Faults.{IsStoreFault}
use Rattle.cs_store.specs.Editing.{written_of, edited}
use Rattle.cs_store.specs.Faults as store
use Rattle.cs_apply_engine.specs.declared.report.Report.{Report}
use Rattle.cs_apply_engine.specs.declared.running.Direction.{Direction}
use Rattle.cs_apply_engine.specs.declared.fault.ApplyFault.{ApplyFault}
use Rattle.cs_apply_engine.specs.declared.fault.ApplyFault.TheVariants as apply_fault
use Rattle.cs_apply_conflict_kinds.specs.declared.conflict.Noop.{Noop}
use Rattle.cs_apply_engine.specs.Running.{Handler, Applies, Refuses}
use Rattle.cs_session_notes.specs.declared.fault.SessionFault.{SessionFault}
use Rattle.cs_session_notes.specs.declared.fault.SessionFault.TheVariants.{Store, Apply, AlreadyAttached, WrongStore, NoMemory}
use Rattle.cs_session_notes.specs.FirstImages.{Notes, recorded}
use Rattle.cs_session_notes.specs.Changes.{HasTables, LacksTable, HasNamed, LacksNamed}

-- the table that an edit is of
abbrev pub table_of : Edit → List ℕ
table_of (Insert name row) = string_bytes name
table_of (Update name key row) = string_bytes name
table_of (Delete name key) = string_bytes name

-- the edit is carried out, and the keys that it wrote are noted
pub record Records (old : State) (edit : Edit) (notes : Notes) (new : State) (after : Notes) : Type 0 where
  pub attached : HasNamed old (table_of edit) notes
  pub written : List WrittenData
  pub edited : edited old edit ≡ Ok (record { state = new; written = written })
  pub noted : after ≡ recorded notes written

-- why it is not
abbrev pub RefusesEdit : State → Edit → Notes → SessionFault → Type 0
RefusesEdit old edit notes WrongStore = LacksNamed old (table_of edit) notes
RefusesEdit old edit notes (Store error) =
    (HasNamed old (table_of edit) notes × (edited old edit ≡ Err error)) ⊎ IsStoreFault error
RefusesEdit old edit notes NoMemory = Unit {0}
RefusesEdit old edit notes AlreadyAttached = ⊥
RefusesEdit old edit notes (Apply fault) = ⊥

-- what an edit may be refused with, whatever the disk returns
abbrev pub IsEditRefusal : SessionFault → Type 0
IsEditRefusal WrongStore = Unit {0}
IsEditRefusal (Store error) = store.IsEditRefusal error
IsEditRefusal NoMemory = Unit {0}
IsEditRefusal AlreadyAttached = ⊥
IsEditRefusal (Apply fault) = ⊥

-- the file, or its inverse, is applied with this report, and the keys that were written are noted
pub record RecordsApply (chooses : Handler) (noop : Noop) (file : List ℕ) (direction : Direction) (old : State) (notes : Notes) (report : Report)
    (new : State) (after : Notes) : Type 0 where
  pub attached : HasTables old notes
  pub applied : Applies chooses noop file direction old report new
  pub noted : after ≡ recorded notes (map written_of report.written.items)

-- why it is not
abbrev pub RefusesApply : Handler → Noop → List ℕ → Direction → State → Notes → SessionFault → Type 0
RefusesApply chooses noop file direction old notes WrongStore = LacksTable old notes
RefusesApply chooses noop file direction old notes (Apply fault) = HasTables old notes × Refuses chooses noop file direction old fault
RefusesApply chooses noop file direction old notes (Store error) = IsStoreFault error
RefusesApply chooses noop file direction old notes NoMemory = Unit {0}
RefusesApply chooses noop file direction old notes AlreadyAttached = ⊥

-- a fault of the changeset, or a conflict: the store's refusals and NoMemory are the session's own
abbrev pub IsOfChangeset : ApplyFault → Type 0
IsOfChangeset (apply_fault.Store error) = ⊥
IsOfChangeset apply_fault.NoMemory = ⊥
IsOfChangeset fault = Unit {0}

-- what an apply may be refused with, whatever the disk returns
abbrev pub IsApplyRefusal : SessionFault → Type 0
IsApplyRefusal WrongStore = Unit {0}
IsApplyRefusal (Apply fault) = IsOfChangeset fault
IsApplyRefusal (Store error) = (error ≡ DamagedStore) ⊎ IsStoreFault error
IsApplyRefusal NoMemory = Unit {0}
IsApplyRefusal AlreadyAttached = ⊥
