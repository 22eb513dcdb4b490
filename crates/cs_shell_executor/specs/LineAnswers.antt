-- What lines are answered, and what they leave. The lines and the printed texts are this project's own; what a line
-- asks for is what SQLite's session extension and this project's stores have.
use Rattle.std.specs.Prelude.{◌≡◌, ◌≢◌, ◌⊎◌, ℕ, ◌+◌, ◌≤◌, List, [], ◌∷◌, ◌++◌, length, map, if◌then◌else◌, All, Any}
use Rattle.std.specs.Prelude.{codes}
use Rattle.std.specs.Prelude.{Bool, Option, None, Some, Result, Ok, Err, IsUtf8}
use Rattle.std.specs.FinMap as map
use Rattle.std.specs.FinMap.{get, insert}
use Rattle.hex.specs.Hex.{encode_lower, decode_of}
use Rattle.hex.specs.declared.error.FromHexError.{FromHexError}
use Rattle.cs_value.specs.declared.value.OwnedValue.{OwnedValue}
use Rattle.cs_value.specs.State.{SchemaData, State, schema_at, rows_at, row_at}
use Rattle.cs_wire_entries.specs.declared.fault.ReadFault.{ReadFault}
use Rattle.cs_wire.specs.Changeset.{GroupData, IsChangeset, file_bytes}
use Rattle.cs_wire.specs.ReadFaults.{ReadFails}
use Rattle.cs_apply_conflict_kinds.specs.declared.conflict.Choice.{Choice}
use Rattle.cs_apply_conflict_kinds.specs.declared.conflict.Noop.{Noop}
use Rattle.cs_apply_conflict_kinds.specs.declared.conflict.Noop.TheVariants as noop
use Rattle.cs_rows.specs.declared.fault.StoreError.{StoreError}
use Rattle.cs_rows.specs.declared.fault.StoreError.TheVariants.{NoTable, NullInKey, NoRow}
use Rattle.cs_rows.specs.Faults.{IsStoreFault}
use Rattle.cs_store.specs.Editing.{either, Edited, Declares, inserted, updated, deleted}
use Rattle.cs_apply_engine.specs.declared.report.Summary.{Summary}
use Rattle.cs_apply_engine.specs.declared.running.Direction.{Direction}
use Rattle.cs_apply_engine.specs.declared.running.Direction.TheVariants.{Forward, Inverse}
use Rattle.cs_apply_engine.specs.declared.fault.ApplyFault.{ApplyFault}
use Rattle.cs_apply_engine.specs.Report.{chosen}
use Rattle.cs_apply_engine.specs.Running.{Handler, AlwaysAborts, AppliesCounted, IsNamed, Refuses}
use Rattle.cs_session_notes.specs.declared.fault.SessionFault.TheVariants.{AlreadyAttached}
use Rattle.cs_files.specs.declared.fault.FileFault.{FileFault}
use Rattle.cs_files.specs.Files.{Inverts, Joins, JoinFails}
use Rattle.cs_shell_grammar.specs.declared.fault.SyntaxFault.{SyntaxFault}
use Rattle.cs_shell_grammar.specs.Commands.{CommandData, AssignmentData, Create, Insert, Update, Delete, Select, Load, Hex}
use Rattle.cs_shell_grammar.specs.Commands.{Dump}
use Rattle.cs_shell_grammar.specs.Commands.{Invert, Concat, Apply, Revert, SessionOpen, SessionAttach, SessionChangeset}
use Rattle.cs_shell_grammar.specs.Commands.{SessionIsEmpty, SessionUndo, SessionClose}
use Rattle.cs_shell_grammar.specs.Lines.{IsNothing, Spelled}
use Rattle.cs_shell_columns.specs.Columns.{AreColumns, NamesKey, marks_of, columns_of}
use Rattle.cs_shell_columns.specs.Rows.{named_key, with_assigned}
use Rattle.cs_shell_replies.specs.declared.refusal.Refusal.{Refusal}
use Rattle.cs_shell_replies.specs.declared.refusal.Refusal.TheVariants as refusal
use Rattle.cs_shell_replies.specs.declared.refusal.Refusal.TheVariants.{NoMemory, Read, Files, Syntax, EmptySlot, BadHex}
use Rattle.cs_shell_replies.specs.declared.refusal.Refusal.TheVariants.{LineText, UnknownColumn, NoSession, Session}
use Rattle.cs_shell_replies.specs.ErrorLines.{of_apply}
use Rattle.cs_shell_replies.specs.Replies.{Reply, Silent, Text, Dumped, Listed, Reported, Refused}
use Rattle.cs_shell_replies.specs.Report.{told_of}
use Rattle.cs_shell_executor.specs.ShellState.{SlotMap, SessionTables, ShellState, written_to, net_of, net_count, put_back}

-- ---- slots

-- the reply to a command on slots, and the slots after it; any may be refused for memory and then changes nothing
pub data SlotsGive : SlotMap → CommandData → Reply → SlotMap → Type 0 where
  loaded : (old : SlotMap) (slot digits bytes : List ℕ) → decode_of digits ≡ Ok bytes
      → SlotsGive old (Load slot digits) Silent (insert old slot bytes)
  no_hex : (old : SlotMap) (slot digits : List ℕ) (e : FromHexError) → decode_of digits ≡ Err e
      → SlotsGive old (Load slot digits) (Refused BadHex) old
  shown : (old : SlotMap) (slot bytes : List ℕ) → get old slot ≡ Some bytes
      → SlotsGive old (Hex slot) (Text (encode_lower bytes)) old
  nothing_to_show : (old : SlotMap) (slot : List ℕ) → get old slot ≡ None
      → SlotsGive old (Hex slot) (Refused EmptySlot) old
  inverted : (old : SlotMap) (from into file out : List ℕ) → get old from ≡ Some file → Inverts file out
      → SlotsGive old (Invert from into) Silent (insert old into out)
  not_inverted : (old : SlotMap) (from into file : List ℕ) (f : ReadFault) → get old from ≡ Some file
      → ReadFails file f.kind f.place → SlotsGive old (Invert from into) (Refused (Read f)) old
  nothing_to_invert : (old : SlotMap) (from into : List ℕ) → get old from ≡ None
      → SlotsGive old (Invert from into) (Refused EmptySlot) old
  joined : (old : SlotMap) (first second into file other out : List ℕ) → get old first ≡ Some file
      → get old second ≡ Some other → Joins file other out
      → SlotsGive old (Concat first second into) Silent (insert old into out)
  not_joined : (old : SlotMap) (first second into file other : List ℕ) (f : FileFault) → get old first ≡ Some file
      → get old second ≡ Some other → JoinFails file other f
      → SlotsGive old (Concat first second into) (Refused (Files f)) old
  nothing_to_join : (old : SlotMap) (first second into : List ℕ) → (get old first ≡ None) ⊎ (get old second ≡ None)
      → SlotsGive old (Concat first second into) (Refused EmptySlot) old
  dumped : (old : SlotMap) (slot : List ℕ) (changeset : List GroupData) → IsChangeset changeset
      → get old slot ≡ Some (file_bytes changeset) → SlotsGive old (Dump slot) (Dumped changeset) old
  not_dumped : (old : SlotMap) (slot file : List ℕ) (f : ReadFault) → get old slot ≡ Some file
      → ReadFails file f.kind f.place → SlotsGive old (Dump slot) (Refused (Read f)) old
  nothing_to_dump : (old : SlotMap) (slot : List ℕ) → get old slot ≡ None
      → SlotsGive old (Dump slot) (Refused EmptySlot) old
  unable : (old : SlotMap) (command : CommandData) → SlotsGive old command (Refused NoMemory) old

-- ---- tables

-- what a CREATE TABLE declares
abbrev pub declared_schema : List (List ℕ) → List Bool → List (List ℕ) → SchemaData
declared_schema columns refuses keys = record {
  columns = columns;
  flags = map (λ k. if k then 1 else 0) (marks_of columns keys);
  refuses = either (marks_of columns keys) refuses;
}

-- the columns of the key are reported first
pub data CreateGives (old : ShellState) (name : List ℕ) (columns : List (List ℕ)) (refuses : List Bool)
    (keys : List (List ℕ)) : Reply → ShellState → Type 0 where
  unknown_key : (AreColumns columns keys → ⊥) → CreateGives old name columns refuses keys (Refused UnknownColumn) old
  declared : (tables : State) → AreColumns columns keys
      → Declares old.tables name (declared_schema columns refuses keys) (Ok tables)
      → CreateGives old name columns refuses keys Silent (record old { tables = tables })
  not_declared : (error : StoreError) → AreColumns columns keys
      → Declares old.tables name (declared_schema columns refuses keys) (Err error)
      → CreateGives old name columns refuses keys (Refused (refusal.Store error)) old

-- an edit of rows is carried out, and noted where a session is open, or it is refused
abbrev pub EditGives : ShellState → Result Edited StoreError → Reply → ShellState → Type 0
EditGives old (Ok edited) reply new = (reply ≡ Silent) × (new ≡ written_to old edited.state edited.written)
EditGives old (Err error) reply new = (reply ≡ Refused (refusal.Store error)) × (new ≡ old)

-- a row that conditions name: the schema of its table, and its key
pub record RowTarget : Type 0 where
  pub schema : SchemaData
  pub key : List ℕ

-- the row of a table that conditions name, for which these columns are set; or why there is none: there is no table, or
-- else a column is none, or else a value of the key is NULL
pub data FindsRow (tables : State) (name : List ℕ) (sets conditions : List AssignmentData) : Result RowTarget Refusal
    → Type 0 where
  no_table : schema_at tables name ≡ None → FindsRow tables name sets conditions (Err (refusal.Store NoTable))
  unknown_column : (schema : SchemaData) → schema_at tables name ≡ Some schema
      → (AreColumns schema.columns (columns_of sets) × NamesKey schema conditions → ⊥)
      → FindsRow tables name sets conditions (Err UnknownColumn)
  null_key : (schema : SchemaData) → schema_at tables name ≡ Some schema
      → AreColumns schema.columns (columns_of sets) → NamesKey schema conditions → named_key schema conditions ≡ None
      → FindsRow tables name sets conditions (Err (refusal.Store NullInKey))
  found : (schema : SchemaData) (key : List ℕ) → schema_at tables name ≡ Some schema
      → AreColumns schema.columns (columns_of sets) → NamesKey schema conditions → named_key schema conditions
      ≡ Some key
      → FindsRow tables name sets conditions (Ok (record { schema = schema; key = key }))

-- a row gets values in some columns; that it is not there comes before what an edit is refused for
pub data UpdateGives (old : ShellState) (name : List ℕ) (sets conditions : List AssignmentData) : Reply → ShellState
    → Type 0 where
  not_updated : (why : Refusal) → FindsRow old.tables name sets conditions (Err why)
      → UpdateGives old name sets conditions (Refused why) old
  no_row : (target : RowTarget) → FindsRow old.tables name sets conditions (Ok target)
      → row_at old.tables name target.key ≡ None
      → UpdateGives old name sets conditions (Refused (refusal.Store NoRow)) old
  updates_row : (target : RowTarget) (row : List OwnedValue) (reply : Reply) (new : ShellState)
      → FindsRow old.tables name sets conditions (Ok target) → row_at old.tables name target.key ≡ Some row
      → EditGives old (updated old.tables name target.key (with_assigned sets target.schema.columns row)) reply new
      → UpdateGives old name sets conditions reply new

pub data DeleteGives (old : ShellState) (name : List ℕ) (conditions : List AssignmentData) : Reply → ShellState
    → Type 0 where
  not_deleted : (why : Refusal) → FindsRow old.tables name [] conditions (Err why)
      → DeleteGives old name conditions (Refused why) old
  deletes_row : (target : RowTarget) (reply : Reply) (new : ShellState)
      → FindsRow old.tables name [] conditions (Ok target)
      → EditGives old (deleted old.tables name target.key) reply new
      → DeleteGives old name conditions reply new

-- the rows of a table, by the bytes of their keys
abbrev pub SelectGives : ShellState → List ℕ → Reply → ShellState → Type 0
SelectGives old name reply new = (new ≡ old)
    × (((reply ≡ Refused (refusal.Store NoTable)) × (schema_at old.tables name ≡ None))
    ⊎ ((schema_at old.tables name ≢ None) × (reply ≡ Listed (map.values (rows_at old.tables name)))))

-- ---- changesets that are applied

-- a file is applied, with its report, and noted if a session is open; or it is refused
pub data ApplyGives (old : ShellState) (chooses : Handler) (noop : Noop) (file : List ℕ) (direction : Direction) :
    Reply → ShellState → Type 0 where
  applied : (summary : Summary) (tables : State)
      (done : AppliesCounted chooses noop file direction old.tables summary tables)
      → ApplyGives old chooses noop file direction (Reported (told_of summary)) (written_to old tables done.writes)
  not_applied : (fault : ApplyFault) → Refuses chooses noop file direction old.tables fault
      → ApplyGives old chooses noop file direction (Refused (of_apply fault)) old

-- the reply is one that an apply has: a report, or a refusal
abbrev pub AnswersApply : Reply → Type 0
AnswersApply Silent = ⊥
AnswersApply (Text text) = ⊥
AnswersApply (Dumped changeset) = ⊥
AnswersApply (Listed rows) = ⊥
AnswersApply (Reported report) = Unit {0}
AnswersApply (Refused why) = (fault : ApplyFault) × IsNamed fault × (why ≡ of_apply fault)

-- the handler that goes by the kind of a conflict
abbrev pub ByKind : Choice → Choice → Choice → Choice → Handler
ByKind on_data on_notfound on_conflict on_constraint conflict choice =
    choice ≡ chosen (record {
      on_data = on_data;
      on_notfound = on_notfound;
      on_conflict = on_conflict;
      on_constraint = on_constraint;
    }) conflict.kind

-- the inverse of a file is applied, and the first conflict ends it; while a session is open, it is noted
abbrev pub RevertGives : ShellState → List ℕ → Reply → ShellState → Type 0
RevertGives old file = ApplyGives old AlwaysAborts noop.Report file Inverse

-- what is done with the bytes of a slot; an empty slot is reported first
abbrev pub WithSlot : ShellState → List ℕ → (List ℕ → Reply → ShellState → Type 0) → Reply → ShellState → Type 0
WithSlot old slot Gives reply new = ((get old.slots slot ≡ None) × (reply ≡ Refused EmptySlot) × (new ≡ old))
    ⊎ ((file : List ℕ) × (get old.slots slot ≡ Some file) × Gives file reply new)

-- ---- the session

abbrev pub with_session : ShellState → Option SessionTables → ShellState
with_session state session = record { tables = state.tables; slots = state.slots; session = session }

-- what is done with the session; that none is open is reported first
abbrev pub WithSession : ShellState → (SessionTables → Reply → ShellState → Type 0) → Reply → ShellState → Type 0
WithSession old Gives reply new = ((old.session ≡ None) × (reply ≡ Refused NoSession) × (new ≡ old))
    ⊎ ((session : SessionTables) × (old.session ≡ Some session) × Gives session reply new)

abbrev pub OpenGives : ShellState → Reply → ShellState → Type 0
OpenGives old reply new =
    ((old.session ≡ None) × (reply ≡ Silent) × (new ≡ with_session old (Some [])))
    ⊎ ((old.session ≢ None) × (reply ≡ Refused refusal.SessionOpen) × (new ≡ old))

-- a table that is attached has its current rows
pub data AttachGives (old : ShellState) (name : List ℕ) (session : SessionTables) : Reply → ShellState → Type 0 where
  attached : (schema : SchemaData) → All (λ t. t.name ≢ name) session → schema_at old.tables name ≡ Some schema
      → AttachGives old name session Silent (with_session old (Some (session ++ record {
        name = name;
        schema = schema;
        saved = rows_at old.tables name;
        touched = [];
      } ∷ [])))
  already : Any (λ t. t.name ≡ name) session
      → AttachGives old name session (Refused (Session AlreadyAttached)) old
  no_table : All (λ t. t.name ≢ name) session → schema_at old.tables name ≡ None
      → AttachGives old name session (Refused (refusal.Store NoTable)) old

-- the slot gets the file of the net changes
abbrev pub ChangesetGives : ShellState → List ℕ → SessionTables → Reply → ShellState → Type 0
ChangesetGives old slot session reply new = (reply ≡ Silent) × (new ≡ record {
  tables = old.tables;
  slots = insert old.slots slot (file_bytes (net_of old.tables session));
  session = old.session;
})

-- no key was written
abbrev pub IsEmptyGives : ShellState → SessionTables → Reply → ShellState → Type 0
IsEmptyGives old session reply new = (new ≡ old)
    × ((All (λ t. t.touched ≡ []) session × (reply ≡ Text (codes "1")))
    ⊎ ((All (λ t. t.touched ≡ []) session → ⊥) × (reply ≡ Text (codes "0"))))

-- the tables that are attached have their rows back; what was written stays noted
abbrev pub UndoGives : ShellState → SessionTables → Reply → ShellState → Type 0
UndoGives old session reply new =
    (reply ≡ Reported (record { skipped = []; conflicts = []; ignored = 0; applied = net_count old.tables session }))
    × (new ≡ record { tables = put_back session old.tables; slots = old.slots; session = old.session })

abbrev pub CloseGives : ShellState → SessionTables → Reply → ShellState → Type 0
CloseGives old session reply new = (reply ≡ Silent) × (new ≡ with_session old None)

-- ---- commands

-- the store refused, for such a reason
abbrev pub IsOfStore : (StoreError → Type 0) → Refusal → Type 0
IsOfStore Is (refusal.Store error) = Is error
IsOfStore Is why = ⊥

-- memory ran out, or the database refused
abbrev pub IsResource : Refusal → Type 0
IsResource why = (why ≡ NoMemory) ⊎ IsOfStore IsStoreFault why

-- the reply to a command, and what it leaves; any may be refused for memory or by the database, and then changes
-- nothing
pub data CommandGives (old : ShellState) : CommandData → Reply → ShellState → Type 0 where
  created : (name : List ℕ) (columns : List (List ℕ)) (refuses : List Bool) (keys : List (List ℕ)) (reply : Reply)
      (new : ShellState)
      → CreateGives old name columns refuses keys reply new
      → CommandGives old (Create name columns refuses keys) reply new
  inserts : (table : List ℕ) (values : List OwnedValue) (reply : Reply) (new : ShellState)
      → EditGives old (inserted old.tables table values) reply new → CommandGives old (Insert table values) reply new
  updates : (table : List ℕ) (sets conditions : List AssignmentData) (reply : Reply) (new : ShellState)
      → UpdateGives old table sets conditions reply new → CommandGives old (Update table sets conditions) reply new
  deletes : (table : List ℕ) (conditions : List AssignmentData) (reply : Reply) (new : ShellState)
      → DeleteGives old table conditions reply new → CommandGives old (Delete table conditions) reply new
  selects : (table : List ℕ) (reply : Reply) (new : ShellState) → SelectGives old table reply new
      → CommandGives old (Select table) reply new
  on_slots : (command : CommandData) (reply : Reply) (slots : SlotMap) → SlotsGive old.slots command reply slots
      → CommandGives old command reply (record { tables = old.tables; slots = slots; session = old.session })
  applies : (slot : List ℕ) (on_data on_notfound on_conflict on_constraint : Choice) (noop : Noop) (reply : Reply)
      (new : ShellState)
      → WithSlot old slot (λ file. ApplyGives old (ByKind on_data on_notfound on_conflict on_constraint) noop file
      Forward) reply new
      → CommandGives old (Apply slot on_data on_notfound on_conflict on_constraint noop) reply new
  reverts : (slot : List ℕ) (reply : Reply) (new : ShellState)
      → WithSlot old slot (λ file. RevertGives old file) reply new
      → CommandGives old (Revert slot) reply new
  opens : (reply : Reply) (new : ShellState) → OpenGives old reply new → CommandGives old SessionOpen reply new
  attaches : (table : List ℕ) (reply : Reply) (new : ShellState) → WithSession old (AttachGives old table) reply new
      → CommandGives old (SessionAttach table) reply new
  changes : (slot : List ℕ) (reply : Reply) (new : ShellState) → WithSession old (ChangesetGives old slot) reply new
      → CommandGives old (SessionChangeset slot) reply new
  tells_empty : (reply : Reply) (new : ShellState) → WithSession old (IsEmptyGives old) reply new
      → CommandGives old SessionIsEmpty reply new
  undoes : (reply : Reply) (new : ShellState) → WithSession old (UndoGives old) reply new
      → CommandGives old SessionUndo reply new
  closes : (reply : Reply) (new : ShellState) → WithSession old (CloseGives old) reply new
      → CommandGives old SessionClose reply new
  unable : (command : CommandData) (why : Refusal) → IsResource why → CommandGives old command (Refused why) old

-- ---- lines

-- the reply to a line, and what it leaves: the column of Syntax may be any of the line's or the next, and any line may
-- be refused for memory or by the database, and then changes nothing
pub data LineGives : ShellState → List ℕ → Reply → ShellState → Type 0 where
  not_text : (old : ShellState) (line : List ℕ) → (IsUtf8 line → ⊥) → LineGives old line (Refused LineText) old
  nothing : (old : ShellState) (line : List ℕ) → IsUtf8 line → IsNothing line → LineGives old line Silent old
  malformed : (old : ShellState) (line : List ℕ) (fault : SyntaxFault) → IsUtf8 line → (IsNothing line → ⊥)
      → ((command : CommandData) → Spelled line command → ⊥) → 1 ≤ fault.column → fault.column ≤ length line + 1
      → LineGives old line (Refused (Syntax fault)) old
  answered : (old : ShellState) (line : List ℕ) (command : CommandData) (reply : Reply) (new : ShellState) → IsUtf8 line
      → Spelled line command → CommandGives old command reply new → LineGives old line reply new
  unanswered : (old : ShellState) (line : List ℕ) (why : Refusal) → IsResource why
      → LineGives old line (Refused why) old
