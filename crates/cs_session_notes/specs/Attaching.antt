-- What attaching a table makes of a session, or why it is refused.
use Rattle.std.specs.Prelude.{◌≡◌, ◌≢◌, ◌⊎◌, ℕ, List, [], ◌∷◌, ◌++◌, All, Any, None, Some}
use Rattle.cs_value.specs.Table.{IsName}
use Rattle.cs_value.specs.State.{SchemaData, State, schema_at}
use Rattle.cs_rows.specs.declared.fault.StoreError.TheVariants.{NoTable, DamagedStore}
use Rattle.cs_rows.specs.Faults.{IsStoreFault}
use Rattle.cs_session_notes.specs.declared.fault.SessionFault.{SessionFault}
use Rattle.cs_session_notes.specs.declared.fault.SessionFault.TheVariants.{Store, Apply, AlreadyAttached, WrongStore, NoMemory}
use Rattle.cs_session_notes.specs.FirstImages.{Notes}

-- no table of this name is attached
abbrev pub IsNewTable : Notes → List ℕ → Type 0
IsNewTable notes name = All (λ t. t.name ≢ name) notes

-- the table is attached after the others, without a first image
pub record Attaches (state : State) (name : List ℕ) (old new : Notes) : Type 0 where
  pub schema : SchemaData
  pub found : schema_at state name ≡ Some schema
  pub fresh : IsNewTable old name
  pub is : new ≡ old ++ record { name = name; schema = schema; firsts = [] } ∷ []

-- why it is not: it is attached, or there is no table of the name, or no table can have it; or the database refused, or
-- memory
abbrev pub RefusesAttach : State → List ℕ → Notes → SessionFault → Type 0
RefusesAttach state name notes AlreadyAttached = Any (λ t. t.name ≡ name) notes
RefusesAttach state name notes (Store error) =
    (IsNewTable notes name × (error ≡ NoTable) × ((schema_at state name ≡ None) ⊎ (IsName name → ⊥))) ⊎ IsStoreFault error
RefusesAttach state name notes NoMemory = Unit {0}
RefusesAttach state name notes (Apply fault) = ⊥
RefusesAttach state name notes WrongStore = ⊥

-- what it may be refused with, whatever the disk returns
abbrev pub IsAttachRefusal : SessionFault → Type 0
IsAttachRefusal AlreadyAttached = Unit {0}
IsAttachRefusal (Store error) = (error ≡ NoTable) ⊎ (error ≡ DamagedStore) ⊎ IsStoreFault error
IsAttachRefusal NoMemory = Unit {0}
IsAttachRefusal (Apply fault) = ⊥
IsAttachRefusal WrongStore = ⊥
