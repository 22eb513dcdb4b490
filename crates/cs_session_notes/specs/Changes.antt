-- Whether a store has the tables that are attached, and why it does not give their net changeset.
use Rattle.std.specs.Prelude.{◌≡◌, ◌⊎◌, ℕ, Bool, true, false, List, All, Any, Result, Ok, Err}
use Rattle.cs_value.specs.State.{State}
use Rattle.cs_rows.specs.declared.fault.StoreError.{StoreError}
use Rattle.cs_rows.specs.declared.fault.StoreError.TheVariants.{DamagedStore}
use Rattle.cs_rows.specs.Faults.{IsStoreFault}
use Rattle.cs_rows.specs.Faults as stores
use Rattle.cs_rows.specs.declared.fault.Cause.{Cause}
use Rattle.cs_session_notes.specs.declared.fault.SessionFault.{SessionFault}
use Rattle.cs_session_notes.specs.declared.fault.SessionFault.TheVariants.{Store, WrongStore, NoMemory}
use Rattle.cs_session_notes.specs.FirstImages.{AttachedTable, Notes, HasAttached}

-- each table is there as it was attached
abbrev pub HasTables : State → Notes → Type 0
HasTables state notes = All (HasAttached state) notes

-- one is not
abbrev pub LacksTable : State → Notes → Type 0
LacksTable state notes = Any (λ t. ¬ HasAttached state t) notes

-- the table of this name is there as it was attached, if it is attached
abbrev pub HasNamed : State → List ℕ → Notes → Type 0
HasNamed state name notes = All (λ t. t.name ≡ name → HasAttached state t) notes

-- it is attached, and not there as it was
abbrev pub LacksNamed : State → List ℕ → Notes → Type 0
LacksNamed state name notes = Any (λ t. (t.name ≡ name) × (¬ HasAttached state t)) notes

-- the store refused, for such a reason
abbrev pub IsOfStore : (StoreError → Type 0) → SessionFault → Type 0
IsOfStore Is (Store error) = Is error
IsOfStore Is fault = ⊥

-- If it is a StoreFault, `Fails` holds of its cause. Nothing is said of other faults.
abbrev pub IsCaused : (Cause → Type 0) → SessionFault → Type 0
IsCaused Fails (Store error) = stores.IsCaused Fails error
IsCaused Fails fault = Unit {0}

-- memory ran out, or the database refused
abbrev pub IsResource : SessionFault → Type 0
IsResource fault = (fault ≡ NoMemory) ⊎ IsOfStore IsStoreFault fault

-- The refusal is not one of the rows: what was asked is refused. A fault of an apply is one of the changeset here, since
-- `apply_fault_of` makes a `Store` or a `NoMemory` of the others.
abbrev pub is_own : SessionFault → Bool
is_own (Store error) = stores.is_own error
is_own NoMemory = false
is_own fault = true

-- The rows have answered each call: all is accepted, or what was asked is refused.
abbrev pub is_answered : {X : Type 0} → Result X SessionFault → Bool
is_answered (Ok x) = true
is_answered (Err fault) = is_own fault

-- Memory ran out, or the rows refused.
abbrev pub IsRowsRefusal : SessionFault → Type 0
IsRowsRefusal fault = (fault ≡ NoMemory) ⊎ IsOfStore stores.IsReadRefusal fault

-- a table is not there as it was attached, or memory was refused, or the database refused
abbrev pub RefusesTable : State → AttachedTable → SessionFault → Type 0
RefusesTable state table fault = ((fault ≡ WrongStore) × (¬ HasAttached state table)) ⊎ IsResource fault

abbrev pub RefusesChanges : State → Notes → SessionFault → Type 0
RefusesChanges state notes fault = ((fault ≡ WrongStore) × LacksTable state notes) ⊎ IsResource fault

abbrev pub RefusesNamed : State → List ℕ → Notes → SessionFault → Type 0
RefusesNamed state name notes fault = ((fault ≡ WrongStore) × LacksNamed state name notes) ⊎ IsResource fault

-- what a reading of tables may be refused with, whatever the disk returns
abbrev pub IsChangesRefusal : SessionFault → Type 0
IsChangesRefusal fault = (fault ≡ WrongStore) ⊎ (fault ≡ Store DamagedStore) ⊎ IsResource fault
