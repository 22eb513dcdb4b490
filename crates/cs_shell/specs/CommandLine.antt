-- How a command line ends.
use Rattle.std.specs.Prelude.{◌≡◌, ◌⊎◌, ℕ, List, Option, Result, IsTrue}
use Rattle.std.specs.FinMap as map
use Rattle.std.specs.Io.KnownBytes.{Appends}
use Rattle.cs_file_texts.specs.declared.told.Told.{Told}
use Rattle.cs_files.specs.Told.{has_failed, known}
use Rattle.cs_file_texts.specs.declared.fault.OutputFault.{OutputFault as Fault}
use Rattle.cs_files.specs.Calls.{AppendsFront, Writes}
use Rattle.cs_shell_command_line.specs.Words.{Asked, Shell, Refuses}
use Rattle.cs_shell_command_line.specs.declared.fault.WordsFault.TheVariants as fault
use Rattle.cs_shell_replies.specs.declared.refusal.Refusal.{Refusal}
use Rattle.cs_shell_replies.specs.declared.refusal.Refusal.TheVariants.{NoMemory, Input, Output}
use Rattle.cs_shell_script.specs.declared.script.Status.{Status}
use Rattle.cs_shell_script.specs.declared.script.Status.TheVariants.{Done, LinesRefused, TooLong, InputFault, OutputFault}
use Rattle.cs_shell_replies.specs.ErrorLines.{refusal_text}
use Rattle.cs_shell_script.specs.Runs.{RunsInput}
use Rattle.cs_shell_executor.specs.LineAnswers.{IsResource, LineGives}
use Rattle.cs_shell_script.specs.StoreRuns.{beginning}

-- the error line of a refusal is written, or a prefix of it if a write fails
abbrev pub Reports : {E : Type 0} → (E → Option (List ℕ)) → Refusal → Told E → Told E → Type 0
Reports errors why before after = (written : Result (Unit {0}) Fault)
    × Writes errors written before after (refusal_text why)

-- of a script only a stream that failed is reported on the error stream
abbrev pub ReportsStatus : {E : Type 0} → (E → Option (List ℕ)) → Status → Told E → Told E → Type 0
ReportsStatus errors Done before after = after ≡ before
ReportsStatus errors LinesRefused before after = after ≡ before
ReportsStatus errors TooLong before after = after ≡ before
ReportsStatus errors InputFault before after = Reports errors Input before after
ReportsStatus errors OutputFault before after = (fault : Fault) × Reports errors (Output fault) before after

-- the input was run as a script on a store in memory, or there was no memory for one, which is reported, and then
-- nothing was read, and nothing written on the output
abbrev pub RunsInMemory : {R W E : Type 0} → (R → Option (List ℕ)) → (W → Option (List ℕ)) → (E → Option (List ℕ)) → ℕ
    → Told R → Told R → Told W → Told W → Told E → Told E → Type 0
RunsInMemory remaining contents errors exit input_before input_after before after err_before err_after =
    ((run : RunsInput remaining contents LineGives (beginning map.empty) exit input_before input_after before after)
    × ReportsStatus errors run.status err_before err_after)
    ⊎ ((exit ≡ 1) × (input_after ≡ input_before) × (after ≡ before)
    × ((why : Refusal) × IsResource why × Reports errors why err_before err_after))

-- the text is printed, or a write of it fails, which is reported
abbrev pub Helps : {W E : Type 0} → (W → Option (List ℕ)) → (E → Option (List ℕ)) → List ℕ → ℕ → Told W → Told W
    → Told E → Told E → Type 0
Helps contents errors text exit before after err_before err_after =
    ((exit ≡ 0) × Appends (known contents before) (known contents after) text × (err_after ≡ err_before))
    ⊎ ((exit ≡ 1) × AppendsFront (known contents before) (known contents after) text × IsTrue (has_failed after)
    × ((fault : Fault) × Reports errors (Output fault) err_before err_after))

-- words that ask for nothing are misuse, or ask for help, or there was no memory to read them, which is reported, and
-- then nothing was printed
abbrev pub EndsUnasked : {W E : Type 0} → (W → Option (List ℕ)) → (E → Option (List ℕ)) → List ℕ → List (List ℕ) → ℕ
    → Told W → Told W → Told E → Told E → Type 0
EndsUnasked contents errors text words exit before after err_before err_after = ((exit ≡ 2) × Refuses words fault.Usage)
    ⊎ (Refuses words fault.Help × Helps contents errors text exit before after err_before err_after)
    ⊎ ((exit ≡ 1) × (after ≡ before) × Reports errors NoMemory err_before err_after)

-- a command other than a script
abbrev pub IsCommand : Asked → Type 0
IsCommand (Shell file) = ⊥
IsCommand asked = Unit {0}
