-- What lines and command lines are refused with: the numbers and names are this project's own, the classes are the
-- result codes of SQLite's C interface.
use Rattle.std.specs.Prelude.{ℕ, List, [], ◌++◌, codes, decimal, string_bytes}
use Rattle.cs_value.specs.declared.refusal.OrNoMemory.{OrNoMemory}
use Rattle.cs_value.specs.declared.refusal.OrNoMemory.TheVariants as tool
use Rattle.cs_value.specs.Quoting.{quoted}
use Rattle.cs_wire_entries.specs.declared.fault.ReadFault.{ReadFault}
use Rattle.cs_wire.specs.ReadFaults as read
use Rattle.cs_apply_engine.specs.declared.conflict.Conflict.{Conflict}
use Rattle.cs_apply_engine.specs.declared.fault.ApplyFault.{ApplyFault}
use Rattle.cs_apply_engine.specs.declared.fault.ApplyFault.TheVariants as apply
use Rattle.cs_apply_engine.specs.Faults as applies
use Rattle.cs_rows.specs.declared.fault.StoreError.{StoreError}
use Rattle.cs_rows.specs.declared.fault.StoreError.TheVariants as store
use Rattle.cs_rows.specs.Faults as stores
use Rattle.cs_session_notes.specs.declared.fault.SessionFault.{SessionFault}
use Rattle.cs_session_notes.specs.declared.fault.SessionFault.TheVariants as session
use Rattle.cs_session_notes.specs.Faults as sessions
use Rattle.cs_shell_columns.specs.declared.fault.UnknownColumn.{UnknownColumn as NoColumn}
use Rattle.cs_files.specs.declared.fault.PrintError.{PrintError}
use Rattle.cs_files.specs.declared.fault.PrintError.TheVariants as print
use Rattle.cs_files.specs.declared.fault.FileFault.{FileFault}
use Rattle.cs_files.specs.declared.fault.FileFault.TheVariants as file
use Rattle.cs_files.specs.Faults as files
use Rattle.hex.specs.declared.error.FromHexError.{FromHexError}
use Rattle.hex.specs.declared.error.FromHexError.TheVariants as hex
use Rattle.cs_shell_grammar.specs.declared.fault.SyntaxFault.{SyntaxFault}
use Rattle.cs_shell_replies.specs.declared.refusal.Detail.{Detail}
use Rattle.cs_shell_replies.specs.declared.refusal.Detail.TheVariants as detail
use Rattle.cs_shell_replies.specs.declared.refusal.Refusal.{Refusal}
use Rattle.cs_shell_replies.specs.declared.refusal.Refusal.TheVariants.{NoMemory, Read, Files, Store, Apply, Session, Syntax}
use Rattle.cs_shell_replies.specs.declared.refusal.Refusal.TheVariants.{EmptySlot, ScriptTooLong, NoSession, SessionOpen, BadHex}
use Rattle.cs_shell_replies.specs.declared.refusal.Refusal.TheVariants.{UnknownColumn, LineText, Input, Output}
use Rattle.cs_shell_grammar.specs.Commands.{kind_text}

abbrev pub code_of : Refusal → ℕ
code_of NoMemory = 60
code_of (Read fault) = read.code_of fault.kind
code_of (Files fault) = files.code_of fault
code_of (Store error) = stores.code_of error
code_of (Apply fault) = applies.code_of fault
code_of (Session fault) = sessions.code_of fault
code_of (Syntax fault) = 61
code_of EmptySlot = 62
code_of ScriptTooLong = 63
code_of NoSession = 64
code_of SessionOpen = 65
code_of BadHex = 66
code_of UnknownColumn = 67
code_of LineText = 68
code_of Input = 71
code_of (Output fault) = 72

-- SQLite's SQLITE_NOMEM, SQLITE_CORRUPT, SQLITE_ERROR and SQLITE_IOERR
abbrev pub class_of : Refusal → ℕ
class_of NoMemory = 7
class_of (Read fault) = 11
class_of (Files fault) = files.class_of fault
class_of (Store error) = stores.class_of error
class_of (Apply fault) = applies.class_of fault
class_of (Session fault) = sessions.class_of fault
class_of Input = 10
class_of (Output fault) = 10
class_of _ = 1

abbrev pub name_of : Refusal → List ℕ
name_of NoMemory = codes "NoMemory"
name_of (Read fault) = read.name_of fault.kind
name_of (Files fault) = files.name_of fault
name_of (Store error) = stores.name_of error
name_of (Apply fault) = applies.name_of fault
name_of (Session fault) = sessions.name_of fault
name_of (Syntax fault) = codes "Syntax"
name_of EmptySlot = codes "EmptySlot"
name_of ScriptTooLong = codes "ScriptTooLong"
name_of NoSession = codes "NoSession"
name_of SessionOpen = codes "SessionOpen"
name_of BadHex = codes "BadHex"
name_of UnknownColumn = codes "UnknownColumn"
name_of LineText = codes "LineText"
name_of Input = codes "InputFault"
name_of (Output fault) = codes "OutputFault"

-- ---- error lines

abbrev pub number_detail : ℕ → List ℕ
number_detail n = codes " " ++ decimal n

-- the kind of a conflict, and its table
abbrev pub conflict_detail : Conflict → List ℕ
conflict_detail c = codes " " ++ kind_text c.kind ++ codes " " ++ quoted 39 (string_bytes c.table)

-- what an error line says after the name of an apply that is refused
abbrev pub apply_detail : ApplyFault → List ℕ
apply_detail (apply.Read fault) = number_detail fault.place
apply_detail (apply.Wider place) = number_detail place
apply_detail (apply.Abort conflict) = conflict_detail conflict
apply_detail (apply.Misuse conflict) = conflict_detail conflict
apply_detail (apply.Store error) = []
apply_detail apply.NoMemory = []

abbrev pub detail_of : Refusal → List ℕ
detail_of (Read fault) = number_detail fault.place
detail_of (Files (file.First fault)) = number_detail fault.place
detail_of (Files (file.Second fault)) = number_detail fault.place
detail_of (Files (file.Schema fault)) = number_detail fault.place
detail_of (Apply fault) = apply_detail fault
detail_of (Syntax fault) = number_detail fault.column
detail_of _ = []

-- a number, a name, and what the refusal is about
unfoldable pub refusal_text : Refusal → List ℕ
refusal_text refusal = codes "error " ++ decimal (code_of refusal) ++ codes " " ++ name_of refusal ++ detail_of refusal
    ++ codes "\n"

-- ---- what calls are refused with

abbrev pub detail_in : Detail → List ℕ
detail_in detail.Nothing = []
detail_in (detail.Number n) = number_detail n
detail_in (detail.Conflict conflict) = conflict_detail conflict.now

-- out of memory is one refusal, whichever call reports it
abbrev pub of_store : StoreError → Refusal
of_store store.NoMemory = NoMemory
of_store error = Store error

abbrev pub of_apply : ApplyFault → Refusal
of_apply apply.NoMemory = NoMemory
of_apply (apply.Read fault) = Read fault
of_apply (apply.Store error) = of_store error
of_apply fault = Apply fault

abbrev pub of_session : SessionFault → Refusal
of_session session.NoMemory = NoMemory
of_session (session.Store error) = of_store error
of_session (session.Apply fault) = of_apply fault
of_session fault = Session fault

abbrev pub of_column : OrNoMemory NoColumn → Refusal
of_column (tool.Fault fault) = UnknownColumn
of_column tool.NoMemory = NoMemory

abbrev pub of_hex : FromHexError → Refusal
of_hex hex.OutOfMemory = NoMemory
of_hex _ = BadHex

abbrev pub of_line : OrNoMemory SyntaxFault → Refusal
of_line (tool.Fault fault) = Syntax fault
of_line tool.NoMemory = NoMemory

abbrev pub of_read : OrNoMemory ReadFault → Refusal
of_read (tool.Fault fault) = Read fault
of_read tool.NoMemory = NoMemory

abbrev pub of_print : PrintError → Refusal
of_print (print.Read error) = of_read error
of_print (print.Output fault) = Output fault

abbrev pub of_files : OrNoMemory FileFault → Refusal
of_files (tool.Fault fault) = Files fault
of_files tool.NoMemory = NoMemory
