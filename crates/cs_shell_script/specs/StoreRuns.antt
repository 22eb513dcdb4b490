-- How a script runs over a store.
use Rattle.std.specs.Prelude.{ℕ, List, None, Option}
use Rattle.std.specs.FinMap as map
use Rattle.sqlite.specs.State as sqlite
use Rattle.cs_value.specs.State.{State}
use Rattle.cs_file_texts.specs.declared.told.Told.{Told}
use Rattle.cs_shell_script.specs.declared.script.Status.{Status}
use Rattle.cs_shell_replies.specs.Replies.{Reply}
use Rattle.cs_shell_executor.specs.LineAnswers.{LineGives}
use Rattle.cs_shell_executor.specs.ShellState.{ShellState}
use Rattle.cs_shell_script.specs.Runs.{Runs}
pub use Rattle.cs_store.specs.Turns.{Shows, IsSettled, SparesOthers, SparesStore, TellsFailures}

-- a script begins with the tables of the store: no slot is filled, and no session is open
abbrev pub beginning : State → ShellState
beginning tables = record { tables = tables; slots = map.empty; session = None }

-- the script is run: its lines gave these replies in turn, and the store shows the tables that go with them
pub record RunsScript {R W : Type 0} (remaining : R → Option (List ℕ)) (contents : W → Option (List ℕ))
    (status : Status) (input_before input_after : Told R) (before after : Told W) (tables : State)
    (new : sqlite.State) : Type 0 where
  pub last : ShellState
  pub runs : Runs remaining contents LineGives status (beginning tables) last input_before input_after before after
  pub shows : Shows new last.tables

-- a line has a reply, whatever it is
abbrev pub HasReply : Unit {0} → List ℕ → Reply → Unit {0} → Type 0
HasReply old line reply new = Unit {0}
