-- A store that answers calls: each in a transaction of its own, or in the one that its host began.
use Rattle.std.specs.Prelude.{◌≡◌, ◌⊎◌, ℕ, false, IsTrue, [], map, Option, Some, None, option_map, unwrap_or, Result, Ok, Err}
use Rattle.std.specs.declared.alloc.Global.{Global}
use Rattle.std.specs.declared.vec.Vec.{Vec}
use Rattle.sqlite_trees.specs.declared.store.Store.{Ghosts}
use Rattle.sqlite.specs.Held.{state}
use Rattle.sqlite.specs.State as sqlite
use Rattle.sqlite.specs.State.{HasCleanDisk}
use Rattle.cs_rows.specs.declared.fault.StoreError.{StoreError}
use Rattle.cs_rows.specs.Faults as stores
use Rattle.cs_store.specs.Failing.{BeginFails, CommitFails}
use Rattle.cs_store.specs.Records.{IsUndone, KeepsContent, KeepsCrash, KeepsOthers}
use Rattle.cs_store.specs.Crash.{IsAtomic, LeavesOnly}
use Rattle.cs_store.specs.Store as store
use Rattle.cs_store.specs.Store.{IsInside, tables_in}
use Rattle.cs_session_notes.specs.FirstImages.{Notes, recorded}
use Rattle.cs_session_notes.specs.Merging.{all_noted, unwritten}
use Rattle.cs_session_notes.specs.Noting.{AreFormers}
use Rattle.cs_calls_answers.specs.declared.answer.Answer.TheVariants.{Done}
use Rattle.cs_calls_answers.specs.declared.answer.Refused.{Refused}
use Rattle.cs_calls_answers.specs.Refusals.{plain_refusal, out_of_memory}
use Rattle.cs_calls_answers.specs.Spelling.{answer_bytes}
use Rattle.cs_calls_conversions.specs.Refusals.{of_error}
use Rattle.cs_calls_executor.specs.declared.calls.TableCall.{TableCall}
use Rattle.cs_calls_service.specs.declared.service.Service.{Service}
use Rattle.cs_calls_service.specs.declared.service.Service.TheVariants.{AtRest, InTransaction}
use Rattle.cs_calls_service.specs.declared.sessions.SessionCall.{SessionCall}
use Rattle.cs_calls_service.specs.Noting.{CarriesAlone, CarriesNoted, Outcome}
use Rattle.cs_calls_service.specs.Sessions.{CarriesSession, UndoesAlone}

-- what the session of the host notes: nothing, if none is open
abbrev pub notes_in : Option Notes → Notes
notes_in session = unwrap_or session []

abbrev pub IsDone : Vec ℕ Global → Type 0
IsDone bytes = bytes.items ≡ answer_bytes Done

-- ---- a transaction begins

-- it shows what the store shows, and a crash leaves only that
pub record IsBegun (old new : sqlite.State) : Type 0 where
  pub begun : HasCleanDisk new → store.Begins old new
  pub crash : KeepsCrash old new
  pub leaves : LeavesOnly (λ left. left ≡ tables_in old.now) new

-- what the store shows, what was committed and what a crash leaves are as they were
pub record IsKept (old new : sqlite.State) : Type 0 where
  pub crash : KeepsCrash old new
  pub content : HasCleanDisk new → KeepsContent old new

-- the database refused to begin it, or memory ran out
pub record IsUnbegun (why : Refused) (old new : sqlite.State) : Type 0 where
  pub error : StoreError
  pub is : why ≡ of_error error
  pub of : stores.IsResource error
  pub caused : HasCleanDisk new → stores.IsCaused (BeginFails old new) error
  pub kept : IsKept old new

-- what is written in it is noted apart, for the tables of the session
abbrev pub Begins : {S : Type 0} → Ghosts S → Service S → Outcome → Service S → Type 0
Begins g (AtRest old session) (Ok bytes) (InTransaction new after written) =
    IsDone bytes × IsBegun (state g old) (state g new) × (after ≡ session) × (written ≡ map unwritten (notes_in session))
Begins g (AtRest old session) (Err why) (AtRest new after) = IsUnbegun why (state g old) (state g new) × (after ≡ session)
Begins g (InTransaction old session written) (Err why) new =
    (why ≡ plain_refusal 95) × (new ≡ InTransaction old session written)
Begins g old result new = ⊥

-- ---- it ends

-- what it shows is committed, and all but the records is as before; a crash leaves the tables from before or these, and
-- only these once it is done
pub record IsCommitted (old new : sqlite.State) : Type 0 where
  pub ends : HasCleanDisk new → store.Ends old new
  pub others : HasCleanDisk new → KeepsOthers old.committed new.now
  pub atomic : IsAtomic IsInside (λ left. left ≡ tables_in old.now) old new
  pub left : LeavesOnly (λ left. left ≡ tables_in old.now) new

-- the database refused to commit it, or memory ran out: it has ended, and a crash leaves the tables from before if the
-- store is still open
pub record IsUncommitted (why : Refused) (old new : sqlite.State) : Type 0 where
  pub error : StoreError
  pub is : why ≡ of_error error
  pub of : stores.IsResource error
  pub inside : IsTrue old.in_transaction
  pub caused : HasCleanDisk new → stores.IsCaused (CommitFails old new) error
  pub undone : HasCleanDisk new → IsUndone old new
  pub atomic : IsAtomic IsInside (λ left. left ≡ tables_in old.now) old new
  pub stands : IsTrue new.is_open → LeavesOnly (λ left. left ≡ tables_in old.committed) new

-- it is rolled back: the store is as when it began
pub record TakesBack (old new : sqlite.State) : Type 0 where
  pub undone : HasCleanDisk new → IsUndone old new
  pub crash : KeepsCrash old new

-- what was written in it is not noted in the session: memory ran out, or a row cannot be of the table that is attached
-- under the name
abbrev pub IsUnnoted : Notes → Notes → Refused → Type 0
IsUnnoted notes written why =
    (why ≡ out_of_memory) ⊎ ((why ≡ plain_refusal 37) × ¬ AreFormers notes (all_noted written))

-- A transaction is committed, and what was written in it is noted, or that is refused, and nothing is noted. It has ended
-- then.
abbrev pub EndsNoted : Notes → Notes → Notes → sqlite.State → sqlite.State → Outcome → Type 0
EndsNoted notes written after old new (Ok bytes) =
    IsDone bytes × IsCommitted old new × (after ≡ recorded notes (all_noted written))
EndsNoted notes written after old new (Err why) = (after ≡ notes)
    × (IsUncommitted why old new
    ⊎ ((why ≡ plain_refusal 97) × (old.in_transaction ≡ false) × TakesBack old new)
    ⊎ (IsUnnoted notes written why × IsTrue old.in_transaction × TakesBack old new))

-- the session, with these notes if it is open
abbrev pub with_notes : Option Notes → Notes → Option Notes
with_notes session notes = option_map (λ before. notes) session

abbrev pub Commits : {S : Type 0} → Ghosts S → Service S → Outcome → Service S → Type 0
Commits g (InTransaction old session written) result (AtRest new after) = (notes : Notes)
    × EndsNoted (notes_in session) written notes (state g old) (state g new) result × (after ≡ with_notes session notes)
Commits g (AtRest old session) (Err why) new = (why ≡ plain_refusal 96) × (new ≡ AtRest old session)
Commits g old result new = ⊥

abbrev pub RollsBack : {S : Type 0} → Ghosts S → Service S → Outcome → Service S → Type 0
RollsBack g (InTransaction old session written) (Ok bytes) (AtRest new after) =
    IsDone bytes × TakesBack (state g old) (state g new) × (after ≡ session)
RollsBack g (InTransaction old session written) (Err why) new =
    (why ≡ out_of_memory) × (new ≡ InTransaction old session written)
RollsBack g (AtRest old session) (Err why) new = (why ≡ plain_refusal 96) × (new ≡ AtRest old session)
RollsBack g old result new = ⊥

-- ---- a call on tables

-- in a transaction of its own, or in the one that is open, whose writes are noted apart
abbrev pub CarriesCall : {S : Type 0} → Ghosts S → Service S → TableCall → Outcome → Service S → Type 0
CarriesCall g (AtRest old session) call result (AtRest new after) = (notes : Notes)
    × CarriesAlone call (notes_in session) notes (state g old) (state g new) result × (after ≡ with_notes session notes)
CarriesCall g (InTransaction old session written) call result (InTransaction new after notes) =
    CarriesNoted call written notes (state g old) (state g new) result × (after ≡ session)
CarriesCall g old call result new = ⊥

-- ---- a call of the session

-- while a transaction is open, it is refused with 95 TransactionOpen
abbrev pub CarriesSessionCall : {S : Type 0} → Ghosts S → Service S → SessionCall → Outcome → Service S → Type 0
CarriesSessionCall g (AtRest old session) call result (AtRest new after) =
    CarriesSession call session after (state g old) (state g new) result
CarriesSessionCall g (InTransaction old session written) call (Err why) new =
    (why ≡ plain_refusal 95) × (new ≡ InTransaction old session written)
CarriesSessionCall g old call result new = ⊥

-- so is an undo; without a session it is refused with 64 NoSession
abbrev pub Undoes : {S : Type 0} → Ghosts S → Service S → Outcome → Service S → Type 0
Undoes g (AtRest old (Some notes)) result (AtRest new after) =
    UndoesAlone notes (state g old) (state g new) result × (after ≡ Some notes)
Undoes g (AtRest old None) (Err why) new = (why ≡ plain_refusal 64) × (new ≡ AtRest old None)
Undoes g (InTransaction old session written) (Err why) new =
    (why ≡ plain_refusal 95) × (new ≡ InTransaction old session written)
Undoes g old result new = ⊥
