-- Calls on tables that are carried out, and noted in the session of a host.
use Rattle.std.specs.Prelude.{◌≡◌, ◌⊎◌, ℕ, false, IsTrue, List, Result, Ok, Err, IfOk, IfErr, IsErrAnd, OnErr}
use Rattle.std.specs.declared.alloc.Global.{Global}
use Rattle.std.specs.declared.vec.Vec.{Vec}
use Rattle.sqlite.specs.State as sqlite
use Rattle.sqlite.specs.State.{HasCleanDisk}
use Rattle.cs_value.specs.State.{State, WrittenData}
use Rattle.cs_rows.specs.Editing.{Edited}
use Rattle.cs_store.specs.Store.{KeepsStore, tables_in}
use Rattle.cs_store.specs.Transacts.{Transacts}
use Rattle.cs_store.specs.Within.{Within}
use Rattle.cs_session_notes.specs.FirstImages.{Notes, recorded}
use Rattle.cs_session_notes.specs.Noting.{AreFormers}
use Rattle.cs_calls_answers.specs.declared.answer.Answer.{Answer}
use Rattle.cs_calls_answers.specs.declared.answer.Refused.{Refused}
use Rattle.cs_calls_answers.specs.Refusals.{plain_refusal}
use Rattle.cs_calls_executor.specs.declared.calls.TableCall.{TableCall}
use Rattle.cs_calls_service.specs.declared.carrying.Noted.{Noted}
use Rattle.cs_calls_executor.specs.Answered.{MayEnd}
use Rattle.cs_calls_executor.specs.Calls.{Answers, AreAnswer, IsMade, IsRefusal, Sends}

-- what a call is answered: the bytes of an answer, or why it is refused
abbrev pub Outcome : Type 0
Outcome = Result (Vec ℕ Global) Refused

-- the answer is sent, the tables after the call are these, and the session notes the keys that it wrote
pub record IsSent (call : TableCall) (tables : State) (notes : Notes) (bytes : List ℕ) (made : State) (after : Notes) : Type 0
  where
    pub written : List WrittenData
    pub sends : Sends call tables bytes (record { state = made; written = written })
    pub noted : after ≡ recorded notes written

-- a row that it wrote over cannot be of the table that is attached under the name: 37 DamagedStore
pub record IsMisfit (call : TableCall) (tables : State) (notes : Notes) (why : Refused) : Type 0 where
  pub given : Answer
  pub made : Edited
  pub answers : Answers call tables given made
  pub misfit : ¬ AreFormers notes made.written
  pub is : why ≡ plain_refusal 37

-- why a call is refused that a session notes
abbrev pub IsNotedRefusal : TableCall → State → Notes → Refused → Type 0
IsNotedRefusal call tables notes why = IsRefusal call tables why ⊎ IsMisfit call tables notes why

-- The work of a call that is noted, before it goes back to its mark if it is refused: it is answered and noted, though it
-- is not known whether that lasts. Or it is refused, and the transaction has ended only for what may end it.
pub record Works (call : TableCall) (notes : Notes) (old new : sqlite.State) (result : Result Noted (Refused × Notes)) :
    Type 0 where
  pub kept : KeepsStore old new
  pub made : HasCleanDisk new → IfOk result (λ noted. IsTrue new.in_transaction
      × IsSent call (tables_in old.now) notes noted.bytes.items (tables_in new.now) noted.session.all)
  pub goes_on : HasCleanDisk new → IsTrue old.in_transaction → IfErr result (λ e. MayEnd e.0 ⊎ IsTrue new.in_transaction)
  pub refused : HasCleanDisk new → IsTrue old.in_transaction
      → IfErr result (λ e. IsNotedRefusal call (tables_in old.now) notes e.0)
  pub forgets : IfOk result (λ noted. noted.session.kept ≡ notes)
  pub same : IfErr result (λ e. e.1 ≡ notes)
  pub spelled : IfOk result (λ noted. AreAnswer noted.bytes)

-- In a transaction that is open: the call is answered and noted, or refused, and nothing is noted. One that has ended
-- refuses it with 97 TransactionEnded.
pub record CarriesNoted (call : TableCall) (notes after : Notes) (old new : sqlite.State) (result : Outcome) : Type 0 where
  pub within : Within (λ made. IfOk result (λ bytes. IsSent call (tables_in old.now) notes bytes.items made after)) MayEnd
      old new result
  pub refused : HasCleanDisk new → IsTrue old.in_transaction → IfErr result (IsNotedRefusal call (tables_in old.now) notes)
  pub ended : old.in_transaction ≡ false → IsErrAnd result (λ why. why ≡ plain_refusal 97)
  pub same : OnErr result (after ≡ notes)
  pub spelled : IfOk result AreAnswer

-- In a transaction of its own: the call is answered by the tables that are shown, the tables after it are committed, and
-- it is noted. Or it is refused, and what is shown, committed and noted stays.
pub record CarriesAlone (call : TableCall) (notes after : Notes) (old new : sqlite.State) (result : Outcome) : Type 0 where
  pub transacts : Transacts (IsMade call (tables_in old.now)) old new result
  pub answered : HasCleanDisk new
      → IfOk result (λ bytes. IsSent call (tables_in old.now) notes bytes.items (tables_in new.now) after)
  pub refused : HasCleanDisk new → IfErr result (IsNotedRefusal call (tables_in old.now) notes)
  pub same : OnErr result (after ≡ notes)
  pub spelled : IfOk result AreAnswer
