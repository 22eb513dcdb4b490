-- Calls of the session of a host: what SQLite's session extension does on its tables, and this project's answers.
use Rattle.std.specs.Prelude.{◌≡◌, ◌⊎◌, ◌↔◌, ◌<◌, ℕ, Bool, false, IsTrue, List, [], All, Any, length, Option, None, Some, Result, IfOk, IfErr, OnErr}
use Rattle.sqlite.specs.State as sqlite
use Rattle.sqlite.specs.State.{HasCleanDisk}
use Rattle.cs_value.specs.State.{State, schema_at}
use Rattle.cs_value.specs.Table.{IsName}
use Rattle.cs_wire.specs.Changeset.{file_bytes}
use Rattle.cs_rows.specs.declared.fault.StoreError.TheVariants.{NoTable}
use Rattle.cs_store.specs.Records.{KeepsContent, KeepsCrash}
use Rattle.cs_store.specs.Store.{tables_in}
use Rattle.cs_store.specs.Transacts.{Transacts}
use Rattle.cs_apply_engine.specs.declared.report.Report.{Report}
use Rattle.cs_session_notes.specs.declared.fault.SessionFault.{SessionFault}
use Rattle.cs_session_notes.specs.declared.fault.SessionFault.TheVariants.{Store, AlreadyAttached}
use Rattle.cs_session_notes.specs.Attaching.{Attaches, IsNewTable}
use Rattle.cs_session_notes.specs.Changes.{HasTables, LacksTable}
use Rattle.cs_session_notes.specs.FirstImages.{Notes, recorded_changes}
use Rattle.cs_session_notes.specs.Faults as sessions
use Rattle.cs_session.specs.Undoing.{Undoes, UndoesInto}
use Rattle.cs_calls_answers.specs.declared.answer.Answer.{Answer}
use Rattle.cs_calls_answers.specs.declared.answer.Answer.TheVariants as answer
use Rattle.cs_calls_answers.specs.declared.answer.Refused.{Refused}
use Rattle.cs_calls_answers.specs.Refusals.{plain_refusal}
use Rattle.cs_calls_answers.specs.Spelling.{answer_bytes}
use Rattle.cs_calls_conversions.specs.Refusals.{of_error, of_table}
use Rattle.cs_calls_executor.specs.Answered.{IsResource}
use Rattle.cs_calls_executor.specs.Calls.{AreAnswer, IsTooLong, Spells}
use Rattle.cs_calls_service.specs.declared.sessions.SessionCall.{SessionCall}
use Rattle.cs_calls_service.specs.declared.sessions.SessionCall.TheVariants.{Open, Attach, Changeset, IsEmpty, Close}
use Rattle.cs_calls_service.specs.Noting.{Outcome}

-- ---- why a session refuses

-- the refusal of a fault that names no table
abbrev pub of_session_fault : SessionFault → Refused
of_session_fault (Store error) = of_error error
of_session_fault fault = plain_refusal (sessions.code_of fault)

-- why a table is not attached
abbrev pub of_attach_fault : List ℕ → SessionFault → Refused
of_attach_fault table AlreadyAttached = of_table 50 table
of_attach_fault table (Store NoTable) = of_table 31 table
of_attach_fault table fault = of_session_fault fault

-- ---- what it is answered

-- a call of the session, if one is open, is answered so by the tables, and the session is then this one, if it is open
abbrev pub Answers : SessionCall → State → Option Notes → Answer → Option Notes → Type 0
Answers Open tables None given after = (given ≡ answer.Done) × (after ≡ Some [])
Answers (Attach table) tables (Some notes) given (Some after) = (given ≡ answer.Done) × Attaches tables table notes after
Answers Changeset tables (Some notes) given after =
    (given ≡ answer.Changeset (file_bytes (recorded_changes notes tables))) × HasTables tables notes × (after ≡ Some notes)
Answers IsEmpty tables (Some notes) given after =
    (empty : Bool) × (given ≡ answer.Flag empty) × (IsTrue empty ↔ All (λ t. t.firsts ≡ []) notes) × (after ≡ Some notes)
Answers Close tables (Some notes) given after = (given ≡ answer.Done) × (after ≡ None)
Answers call tables session given after = ⊥

-- or it is refused so: 64 NoSession and 65 SessionOpen, 50 AlreadyAttached and 31 NoTable, and 51 WrongStore if a table
-- is not there as it was attached
abbrev pub Refuses : SessionCall → State → Option Notes → Refused → Type 0
Refuses Open tables (Some notes) why = why ≡ plain_refusal 65
Refuses Open tables None why = ⊥
Refuses (Attach table) tables (Some notes) why =
    ((why ≡ of_table 50 table) × Any (λ t. t.name ≡ table) notes)
    ⊎ ((why ≡ of_table 31 table) × IsNewTable notes table × ((schema_at tables table ≡ None) ⊎ (IsName table → ⊥)))
Refuses Changeset tables (Some notes) why = (why ≡ plain_refusal 51) × LacksTable tables notes
Refuses call tables (Some notes) why = ⊥
Refuses call tables None why = why ≡ plain_refusal 64

-- no frame can hold its answer, or no part of an answer its file
abbrev pub HasLongAnswer : SessionCall → State → Option Notes → Type 0
HasLongAnswer call tables session =
    ((given : Answer) × (after : Option Notes) × Answers call tables session given after × IsTooLong given)
    ⊎ ((call ≡ Changeset) × ((notes : Notes) × (session ≡ Some notes) × HasTables tables notes
    × (2147483647 < length (file_bytes (recorded_changes notes tables)))))

-- why a call of the session is refused: by its definition, since its answer is too long, for memory, or by the database
abbrev pub IsRefusal : SessionCall → State → Option Notes → Refused → Type 0
IsRefusal call tables session why =
    Refuses call tables session why ⊎ (HasLongAnswer call tables session × (why ≡ plain_refusal 94)) ⊎ IsResource why

-- The call is answered by the tables that are shown, or refused, and then the session stays. Nothing is committed, and
-- outside a transaction all that is shown stays.
pub record CarriesSession (call : SessionCall) (session after : Option Notes) (old new : sqlite.State) (result : Outcome) :
    Type 0 where
  pub crash : KeepsCrash old new
  pub content : HasCleanDisk new → old.in_transaction ≡ false → (IsTrue old.is_open → old.now ≡ old.committed)
      → KeepsContent old new
  pub answered : HasCleanDisk new → IfOk result (λ bytes. (given : Answer)
      × Answers call (tables_in old.now) session given after × Spells given bytes)
  pub refused : HasCleanDisk new → IfErr result (IsRefusal call (tables_in old.now) session)
  pub same : OnErr result (after ≡ session)
  pub spelled : IfOk result AreAnswer

-- ---- an undo

-- the answer: the number of the net changes, and no conflict
abbrev pub undone_answer : Report → Answer
undone_answer report = answer.Report (record {
  written = length report.written.items;
  ignored = 0;
  skipped = [];
  conflicts = [];
})

-- an undo sends its report, and the tables are these
pub record SendsUndo (notes : Notes) (tables : State) (bytes : List ℕ) (made : State) : Type 0 where
  pub report : Report
  pub undone : Undoes notes tables report made
  pub spells : bytes ≡ answer_bytes (undone_answer report)

-- What the session recorded is undone in a transaction of its own, or that is refused, and changes nothing: with 51
-- WrongStore if a table is not there as it was attached.
pub record UndoesAlone (notes : Notes) (old new : sqlite.State) (result : Outcome) : Type 0 where
  pub transacts : Transacts (UndoesInto notes (tables_in old.now)) old new result
  pub answered : HasCleanDisk new
      → IfOk result (λ bytes. SendsUndo notes (tables_in old.now) bytes.items (tables_in new.now))
  pub refused : HasCleanDisk new
      → IfErr result (λ why. ((why ≡ plain_refusal 51) × LacksTable (tables_in old.now) notes) ⊎ IsResource why)
  pub spelled : IfOk result AreAnswer
