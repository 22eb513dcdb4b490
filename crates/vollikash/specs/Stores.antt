-- What a caller in C sees of a store.
use Rattle.std.specs.Prelude.{◌≡◌, ◌⊎◌, ℕ, ℤ, pos, List, [], Option, None, Some}
use Rattle.cs_value.specs.State.{State}
use Rattle.cs_rows.specs.declared.fault.StoreError.{StoreError}
use Rattle.cs_rows.specs.Faults as stores
use Rattle.cs_store_memory.specs.Memory.{RefusesBytes}
use Rattle.cs_calls_memory.specs.declared.host.SaveFault.{SaveFault}
use Rattle.cs_calls_memory.specs.Hosting.{Answers, HasTransaction, IsOpenedFrom, Lasts, RefusesSaving, code_of, session_of}
use Rattle.cs_session_notes.specs.FirstImages.{Notes}
use Rattle.vollikash.specs.Answers.{IsMadeCode}
use Rattle.vollikash.specs.declared.answer.TheConstants.{OK, NOT_OPEN}
use Rattle.vollikash.specs.declared.held.Held.{Held}
use Rattle.vollikash.specs.declared.held.OpenStore.{OpenStore}

-- the store that a handle has, if one is open
abbrev pub store_in : Option Held → Option OpenStore
store_in None = None
store_in (Some held) = held.store

-- the answer to its last call
abbrev pub answer_of : Option OpenStore → List ℕ
answer_of None = []
answer_of (Some it) = it.answer.items

-- the tables that last of it
abbrev pub LastsOf : Option OpenStore → State → Type 0
LastsOf None held = ⊥
LastsOf (Some it) held = Lasts it.host held

-- the session of its host, if one is open
abbrev pub session_in_store : Option OpenStore → Option Notes
session_in_store None = None
session_in_store (Some it) = session_of it.host

-- a transaction is open
abbrev pub HasTransactionIn : Option OpenStore → Type 0
HasTransactionIn None = ⊥
HasTransactionIn (Some it) = HasTransaction it.host

-- a store was opened in the bytes of a file, and no call was answered
pub record OpensIn (file : List ℕ) (new : Option OpenStore) : Type 0 where
  pub store : OpenStore
  pub is : new ≡ Some store
  pub opened : IsOpenedFrom file store.host
  pub unanswered : store.answer.items ≡ []

-- why a store is not opened
pub record RefusesOpening (file : List ℕ) (code : ℤ) : Type 0 where
  pub error : StoreError
  pub why : RefusesBytes file error
  pub told : code ≡ pos (stores.code_of error)

-- the store answers the bytes of a call so
pub record AnswersIn (old : Option OpenStore) (call sent : List ℕ) (new : Option OpenStore) : Type 0 where
  pub was : OpenStore
  pub was_open : old ≡ Some was
  pub now : OpenStore
  pub is_open : new ≡ Some now
  pub answers : Answers was.host call sent now.host

-- why an open store is not saved
pub record RefusesSavingOf (old : Option OpenStore) (code : ℤ) : Type 0 where
  pub was : OpenStore
  pub was_open : old ≡ Some was
  pub fault : SaveFault
  pub why : RefusesSaving was.host fault
  pub told : code ≡ pos (code_of fault)

-- what a call on a store answers: it was carried out, memory ran out, or no store is open
abbrev pub IsCallCode : Option OpenStore → ℤ → Type 0
IsCallCode old code = (code ≡ OK) ⊎ (code ≡ pos 60) ⊎ ((code ≡ NOT_OPEN) × (old ≡ None))

-- what is answered where a buffer is filled
abbrev pub IsTakeCode : Option OpenStore → ℤ → Type 0
IsTakeCode old code = IsMadeCode code ⊎ ((code ≡ NOT_OPEN) × (old ≡ None))
