-- What a call on the tables of a store does: it reads or edits them, or applies a changeset file.
use Rattle.std.specs.Prelude.{◌≡◌, ◌⊎◌, ◌<◌, ◌≤◌, ℕ, length, IsTrue, false, List, [], Result, Ok, Err, IfOk, IfErr, IsErrAnd}
use Rattle.std.specs.FinMap as map
use Rattle.std.specs.declared.alloc.Global.{Global}
use Rattle.std.specs.declared.vec.Vec.{Vec}
use Rattle.sqlite.specs.State as sqlite
use Rattle.sqlite.specs.State.{HasCleanDisk}
use Rattle.cs_value.specs.State.{State}
use Rattle.cs_rows.specs.Editing.{Edited}
use Rattle.cs_store.specs.Store.{IsInside, KeepsStore, tables_in}
use Rattle.cs_store.specs.Within.{Within}
use Rattle.cs_apply_engine.specs.declared.fault.ApplyFault.{ApplyFault}
use Rattle.cs_apply_engine.specs.declared.report.Report.{Report}
use Rattle.cs_apply_engine.specs.Steps.{IsStoreRefusal}
use Rattle.cs_calls_answers.specs.declared.answer.Answer.{Answer}
use Rattle.cs_calls_answers.specs.declared.answer.Answer.TheVariants as answer
use Rattle.cs_calls_answers.specs.declared.answer.Refused.{Refused}
use Rattle.cs_calls_answers.specs.Refusals.{plain_refusal, out_of_memory}
use Rattle.cs_calls_answers.specs.Spelling.{HasCounts, answer_bytes}
use Rattle.cs_calls_conversions.specs.declared.page.Page.{Page}
use Rattle.cs_calls_executor.specs.declared.applying.ApplyCall.{ApplyCall}
use Rattle.cs_calls_executor.specs.declared.calls.ReadCall.{ReadCall}
use Rattle.cs_calls_executor.specs.declared.calls.ReadCall.TheVariants.{Tables, Schema, Get, Rows, Count}
use Rattle.cs_calls_executor.specs.declared.calls.EditCall.{EditCall}
use Rattle.cs_calls_executor.specs.declared.calls.EditCall.TheVariants.{Declare, Insert, Update, Delete, Put}
use Rattle.cs_calls_executor.specs.declared.calls.TableCall.{TableCall}
use Rattle.cs_calls_executor.specs.declared.calls.TableCall.TheVariants.{Read, Edit, Apply}
use Rattle.cs_calls_executor.specs.declared.calls.Carried.{Carried}
use Rattle.cs_calls_executor.specs.Answered.{IsResource, MayEnd, edited_as}
use Rattle.cs_calls_executor.specs.Applying.{Applies, AppliesAs, RefusesApply, RefusesAs}
use Rattle.cs_calls_executor.specs.TableCalls.{Declared, table_columns, table_row, table_page, table_count, inserts, updates, deletes, puts}

-- ---- what it is answered

abbrev pub answered_as : {X : Type 0} → (X → Answer) → Result X Refused → Result Answer Refused
answered_as make (Ok x) = Ok (make x)
answered_as make (Err why) = Err why

abbrev pub page_answer : Page → Answer
page_answer page = answer.Rows page.rows page.more

-- the answer to a read, by the tables
abbrev pub read_answer : ReadCall → State → Result Answer Refused
read_answer Tables tables = answered_as answer.Names (Ok (map.keys tables))
read_answer (Schema table) tables = answered_as answer.Schema (table_columns tables table)
read_answer (Get table key) tables = answered_as answer.Row (table_row tables table key)
read_answer (Rows table after limit) tables = answered_as page_answer (table_page tables table after limit)
read_answer (Count table) tables = answered_as answer.Number (table_count tables table)

-- the tables after an edit and the keys that it writes, or why it is refused
abbrev pub EditsTo : EditCall → State → Result Edited Refused → Type 0
EditsTo (Declare table columns) tables outcome = Declared tables table columns outcome
EditsTo (Insert table row) tables outcome = inserts tables table row ≡ outcome
EditsTo (Update table key row) tables outcome = updates tables table key row ≡ outcome
EditsTo (Delete table key) tables outcome = deletes tables table key ≡ outcome
EditsTo (Put table row) tables outcome = puts tables table row ≡ outcome

-- a call is answered so, and these are the tables after it and the keys that it writes: a read leaves the tables, an edit
-- is done, and an apply has its report
abbrev pub Answers : TableCall → State → Answer → Edited → Type 0
Answers (Read call) tables given made = (read_answer call tables ≡ Ok given) × (made.state ≡ tables) × (made.written ≡ [])
Answers (Edit call) tables given made = (given ≡ answer.Done) × EditsTo call tables (Ok made)
Answers (Apply call) tables given made = Applies call tables given made

-- these are the tables after it
abbrev pub IsMade : TableCall → State → State → Type 0
IsMade call tables made = (given : Answer) × (edited : Edited) × Answers call tables given edited × (edited.state ≡ made)

-- or it is refused so
abbrev pub Refuses : TableCall → State → Refused → Type 0
Refuses (Read call) tables why = read_answer call tables ≡ Err why
Refuses (Edit call) tables why = EditsTo call tables (Err why)
Refuses (Apply call) tables why = RefusesApply call tables why

-- ---- what it does

-- a frame can hold it: its lists have counts, and it has not too many bytes
abbrev pub FitsFrame : Answer → Type 0
FitsFrame given = HasCounts given × (length (answer_bytes given) ≤ 4294967295)

-- the bytes of an answer that a frame can hold
abbrev pub Spells : Answer → Vec ℕ Global → Type 0
Spells given bytes = FitsFrame given × (bytes.items ≡ answer_bytes given)

-- no frame can hold it: a list of it has no count, or it has too many bytes
abbrev pub IsTooLong : Answer → Type 0
IsTooLong given = ¬ HasCounts given ⊎ (4294967295 < length (answer_bytes given))

-- no answer is sent: it is too long, or memory ran out
abbrev pub IsUnsent : Answer → Refused → Type 0
IsUnsent given why = ((why ≡ plain_refusal 94) × IsTooLong given) ⊎ (why ≡ out_of_memory)

-- the bytes are those of the answer
pub record Sends (call : TableCall) (tables : State) (bytes : List ℕ) (made : Edited) : Type 0 where
  pub given : Answer
  pub answers : Answers call tables given made
  pub fits : FitsFrame given
  pub sent : bytes ≡ answer_bytes given

-- its answer is too long
abbrev pub HasLongAnswer : TableCall → State → Type 0
HasLongAnswer call tables = (given : Answer) × (made : Edited) × Answers call tables given made × IsTooLong given

-- why a call is refused: by its definition, since its answer is too long, for memory, or by the database
abbrev pub IsRefusal : TableCall → State → Refused → Type 0
IsRefusal call tables why =
    Refuses call tables why ⊎ (HasLongAnswer call tables × (why ≡ plain_refusal 94)) ⊎ IsResource why

-- the bytes are those of an answer
abbrev pub AreAnswer : Vec ℕ Global → Type 0
AreAnswer bytes = (given : Answer) × Spells given bytes

-- the answer is sent, with these tables after the call, and the keys that it wrote
abbrev pub IsCarried : TableCall → State → Carried → State → Type 0
IsCarried call tables carried made = Sends call tables carried.bytes.items (edited_as made carried.written)

-- In a transaction that is open: the call is answered, or refused. One that has ended refuses it with 97
-- TransactionEnded.
pub record CarriesOut (call : TableCall) (old new : sqlite.State) (result : Result Carried Refused) : Type 0 where
  pub within : Within (λ made. IfOk result (λ carried. IsCarried call (tables_in old.now) carried made)) MayEnd old new result
  pub refused : HasCleanDisk new → IsTrue old.in_transaction → IfErr result (IsRefusal call (tables_in old.now))
  pub ended : old.in_transaction ≡ false → IsErrAnd result (λ why. why ≡ plain_refusal 97)
  pub spelled : IfOk result (λ carried. AreAnswer carried.bytes)

-- How the file of a call was applied in an open transaction: it is done, or refused. Then the tables are the same, or the
-- transaction has ended for what may end it.
pub record Ran (call : ApplyCall) (tables : State) (new : sqlite.State) (outcome : Result Report ApplyFault) : Type 0 where
  pub made : IfOk outcome (λ report. IsInside new × AppliesAs call tables report (tables_in new.now))
  pub back : IfErr outcome (λ fault. IsStoreRefusal fault ⊎ (IsTrue new.in_transaction × (tables_in new.now ≡ tables)))
  pub refused : IfErr outcome (RefusesAs call tables)

-- The work of such a call in an open transaction: it is answered, or it is refused, and the transaction has ended only
-- for what may end it.
pub record Worked (call : ApplyCall) (tables : State) (new : sqlite.State) (result : Result Carried Refused) : Type 0 where
  pub made : IfOk result (λ carried. IsTrue new.in_transaction × IsCarried (Apply call) tables carried (tables_in new.now))
  pub goes_on : IfErr result (λ why. MayEnd why ⊎ IsTrue new.in_transaction)
  pub refused : IfErr result (IsRefusal (Apply call) tables)

-- what follows an apply is the work of each call that is applied so
pub record Finishes (outcome : Result Report ApplyFault) (old new : sqlite.State) (result : Result Carried Refused) : Type 0
  where
    pub kept : KeepsStore old new
    pub worked : HasCleanDisk new → (call : ApplyCall) (tables : State) → Ran call tables old outcome
        → Worked call tables new result
    pub spelled : IfOk result (λ carried. AreAnswer carried.bytes)

-- the work of an apply, before it goes back to its mark if it is refused
pub record Works (call : ApplyCall) (old new : sqlite.State) (result : Result Carried Refused) : Type 0 where
  pub kept : KeepsStore old new
  pub worked : HasCleanDisk new → IsTrue old.in_transaction → Worked call (tables_in old.now) new result
  pub spelled : IfOk result (λ carried. AreAnswer carried.bytes)
