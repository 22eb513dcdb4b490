-- How a command line ends that asks for a command.
use Rattle.std.specs.Prelude.{◌≡◌, ℕ, List, Option, Result, Ok, Err, IfErr, OnOk, OnErr}
use Rattle.cs_file_texts.specs.declared.told.Told.{Told}
use Rattle.cs_file_texts.specs.Texts.{dump_of, sql_of}
use Rattle.cs_folder.specs.Files.{Files}
use Rattle.cs_shell_command_line.specs.Words.{Asked, Apply, Concat, Dump, Sql, Invert, Shell}
use Rattle.cs_shell_replies.specs.declared.refusal.Refusal.{Refusal}
use Rattle.cs_shell_commands.specs.Applies.{Applies}
use Rattle.cs_shell_commands.specs.Folders.{InvertsFile, JoinsFiles, PrintsFile}
use Rattle.cs_shell_commands.specs.Folders.{RefusesInvert, RefusesJoin, RefusesPrint}
use Rattle.cs_shell.specs.CommandLine.{Reports}

-- A command that succeeds writes nothing to the error stream. A refused one writes its error line.
abbrev pub EndsAs : {E : Type 0} → (E → Option (List ℕ)) → Result (Unit {0}) Refusal → ℕ → Told E → Told E → Type 0
EndsAs errors (Ok done) exit before after = (exit ≡ 0) × (after ≡ before)
EndsAs errors (Err why) exit before after = (exit ≡ 1) × Reports errors why before after

-- What a command makes of the files and prints, by what it returns.
abbrev pub Works : {W : Type 0} → (W → Option (List ℕ)) → Option Files → Option Files → Told W → Told W → Asked
    → Result (Unit {0}) Refusal → Type 0
Works contents old new before after (Invert file out) done = OnOk done (InvertsFile old file out new)
    × IfErr done (RefusesInvert old file) × OnErr done (new ≡ old) × (after ≡ before)
Works contents old new before after (Concat first second out) done = OnOk done (JoinsFiles old first second out new)
    × IfErr done (RefusesJoin old first second) × OnErr done (new ≡ old) × (after ≡ before)
Works contents old new before after (Dump file) done = OnOk done (PrintsFile contents dump_of old file before after)
    × IfErr done (RefusesPrint contents dump_of old file before after) × (new ≡ old)
Works contents old new before after (Sql file) done = OnOk done (PrintsFile contents sql_of old file before after)
    × IfErr done (RefusesPrint contents sql_of old file before after) × (new ≡ old)
Works contents old new before after (Apply file store policy noop) done =
    Applies contents policy noop old new file store before after done
Works contents old new before after (Shell file) done = ⊥

-- A command is carried out, and what it returns is reported.
pub record CarriesOut {W E : Type 0} (contents : W → Option (List ℕ)) (errors : E → Option (List ℕ))
    (old new : Option Files) (before after : Told W) (err_before err_after : Told E) (exit : ℕ)
    (asked : Asked) : Type 0 where
  pub done : Result (Unit {0}) Refusal
  pub works : Works contents old new before after asked done
  pub ends : EndsAs errors done exit err_before err_after
