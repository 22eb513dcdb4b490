-- What a script makes of the store in a file, and how a command line ends that asks for one.
use Rattle.std.specs.Prelude.{◌≡◌, ◌⊎◌, ℕ, List, Option, Result, Ok, Err}
use Rattle.cs_value.specs.State.{State}
use Rattle.cs_rows.specs.declared.fault.StoreError.{StoreError}
use Rattle.cs_file_texts.specs.declared.told.Told.{Told}
use Rattle.cs_folder.specs.Files.{Files}
use Rattle.cs_store_folder.specs.Visits.{RefusesVisit, Visits}
use Rattle.cs_shell_executor.specs.ShellState.{ShellState}
use Rattle.cs_shell_replies.specs.ErrorLines.{of_store}
use Rattle.cs_shell_script.specs.declared.script.Status.{Status}
use Rattle.cs_shell.specs.CommandLine.{Reports, ReportsStatus}
use Rattle.cs_shell_executor.specs.LineAnswers.{LineGives}
use Rattle.cs_shell_script.specs.Runs.{Runs, exit_of}
use Rattle.cs_shell_script.specs.StoreRuns.{beginning, HasReply}

-- The input was run as a script, from these tables to those.
pub record ScriptGives {R W : Type 0} (remaining : R → Option (List ℕ)) (contents : W → Option (List ℕ))
    (status : Status) (input_before input_after : Told R) (out_before out_after : Told W)
    (before after : State) : Type 0 where
  pub final : ShellState
  pub runs : Runs remaining contents LineGives status (beginning before) final input_before input_after
      out_before out_after
  pub tables : final.tables ≡ after

-- A store that is not closed is reported, and else how the script ended.
abbrev pub EndsScript : {E : Type 0} → (E → Option (List ℕ)) → Result (Unit {0}) StoreError → Status → ℕ → Told E
    → Told E → Type 0
EndsScript errors (Ok closed) status exit before after = (exit ≡ exit_of status)
    × ReportsStatus errors status before after
EndsScript errors (Err why) status exit before after = (exit ≡ 1) × Reports errors (of_store why) before after

-- The store in a file was opened, the input was run on it as a script, and it was closed.
pub record RunsOnFile {R W E : Type 0} (remaining : R → Option (List ℕ)) (contents : W → Option (List ℕ))
    (errors : E → Option (List ℕ)) (old new : Option Files) (file : List ℕ) (exit : ℕ)
    (input_before input_after : Told R) (before after : Told W) (err_before err_after : Told E) : Type 0 where
  pub status : Status
  pub closed : Result (Unit {0}) StoreError
  pub answered : Runs remaining contents HasReply status tt tt input_before input_after before after
  pub visits : Visits (λ held left. ScriptGives remaining contents status input_before input_after before after
      held left) old file new closed
  pub ends : EndsScript errors closed status exit err_before err_after

-- The store was not opened, which is reported. Nothing is read or printed.
pub record IsUnrun {R W E : Type 0} (errors : E → Option (List ℕ)) (old new : Option Files) (file : List ℕ) (exit : ℕ)
    (input_before input_after : Told R) (before after : Told W) (err_before err_after : Told E) : Type 0 where
  pub error : StoreError
  pub why : RefusesVisit old file error
  pub told : Reports errors (of_store error) err_before err_after
  pub exit_is : exit ≡ 1
  pub unread : input_after ≡ input_before
  pub unprinted : after ≡ before
  pub kept : new ≡ old

-- The input was run as a script on the store in a file, or that is refused.
abbrev pub Scripts : {R W E : Type 0} → (R → Option (List ℕ)) → (W → Option (List ℕ)) → (E → Option (List ℕ))
    → Option Files → Option Files → List ℕ → ℕ → Told R → Told R → Told W → Told W → Told E → Told E → Type 0
Scripts remaining contents errors old new file exit input_before input_after before after err_before err_after =
    RunsOnFile remaining contents errors old new file exit input_before input_after before after err_before err_after
    ⊎ IsUnrun errors old new file exit input_before input_after before after err_before err_after
