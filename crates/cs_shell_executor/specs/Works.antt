-- What a command and a line do with a store and a session: what the contracts of this crate are said in.
use Rattle.std.specs.Prelude.{◌≡◌, ◌⊎◌, ℕ, List, map, Option, None, Some, option_map}
use Rattle.std.specs.Prelude.{Result, Ok, Err}
use Rattle.sqlite.specs.State as sqlite
use Rattle.cs_value.specs.State.{State}
use Rattle.cs_session_notes.specs.FirstImages.{AttachedTable, Notes, rewound_rows}
use Rattle.cs_session.specs.Runs.{IsMoment}
use Rattle.cs_shell_grammar.specs.Commands.{AssignmentData}
use Rattle.cs_shell_replies.specs.declared.refusal.Refusal.{Refusal}
use Rattle.cs_shell_executor.specs.declared.statements.Target.{Target}
use Rattle.cs_shell_replies.specs.Replies.{Reply, Refused}
use Rattle.cs_shell_executor.specs.LineAnswers.{RowTarget, FindsRow, IsResource}
use Rattle.cs_shell_executor.specs.ShellState.{SlotMap, SessionTable, SessionTables, ShellState}
use Rattle.cs_store.specs.Turns.{Turns}

-- ---- what a script sees

-- a table that is attached, with the rows from before and the keys that were noted
abbrev pub seen_table : State → AttachedTable → SessionTable
seen_table tables table = record {
  name = table.name;
  schema = table.schema;
  saved = rewound_rows tables table;
  touched = map (λ f. f.key) table.firsts;
}

abbrev pub seen_session : State → Option Notes → Option SessionTables
seen_session tables session = option_map (map (seen_table tables)) session

abbrev pub seen : State → SlotMap → Option Notes → ShellState
seen tables slots session = record { tables = tables; slots = slots; session = seen_session tables session }

-- each table of the session is there as it was attached
abbrev pub IsHere : State → Option Notes → Type 0
IsHere tables None = Unit {0}
IsHere tables (Some notes) = IsMoment (record { state = tables; notes = notes })

-- ---- what was done

-- memory was refused, or the database refused, and nothing changed
pub record IsUnable (old : ShellState) (reply : Reply) (new : ShellState) : Type 0 where
  pub why : Refusal
  pub resource : IsResource why
  pub refused : reply ≡ Refused why
  pub same : new ≡ old

abbrev pub OrUnable : (ShellState → Reply → ShellState → Type 0) → ShellState → Reply → ShellState → Type 0
OrUnable Gives old reply new = Gives old reply new ⊎ IsUnable old reply new

-- a command gave this reply, from these tables to those, whatever is in the slots
abbrev pub Gave : Option Notes → Option Notes → (ShellState → Reply → ShellState → Type 0) → Reply → State → State
    → Type 0
Gave noted notes Gives reply before after = IsHere before noted → IsHere after notes
    × ((slots : SlotMap) → OrUnable Gives (seen before slots noted) reply (seen after slots notes))

-- it gave it over a store
abbrev pub Works : sqlite.State → sqlite.State → Option Notes → Option Notes
    → (ShellState → Reply → ShellState → Type 0) → Reply → Type 0
Works old new noted notes Gives reply = Turns old new (Gave noted notes Gives reply)

-- the same of one that may change slots
abbrev pub GaveOn : SlotMap → SlotMap → Option Notes → Option Notes → (ShellState → Reply → ShellState → Type 0) → Reply
    → State → State → Type 0
GaveOn slots filled noted notes Gives reply before after = IsHere before noted → IsHere after notes
    × OrUnable Gives (seen before slots noted) reply (seen after filled notes)

abbrev pub WorksOn : sqlite.State → sqlite.State → SlotMap → SlotMap → Option Notes → Option Notes
    → (ShellState → Reply → ShellState → Type 0) → Reply → Type 0
WorksOn old new slots filled noted notes Gives reply = Turns old new (GaveOn slots filled noted notes Gives reply)

-- ---- rows that are found

abbrev pub target_of : Target → RowTarget
target_of target = record { schema = target.schema; key = target.key }

abbrev pub Finds : List ℕ → List AssignmentData → List AssignmentData → Result Target Refusal → State → Type 0
Finds name sets conditions (Ok target) tables = FindsRow tables name sets conditions (Ok (target_of target))
Finds name sets conditions (Err why) tables = FindsRow tables name sets conditions (Err why) ⊎ IsResource why
