-- What the commands on files do in a folder, and why they are refused. A reason comes only where no earlier one does:
-- the file, the second file, what is made of them, and the file OUT. Memory can run out at any time.
use Rattle.std.specs.Prelude.{◌≡◌, ◌⊎◌, ℕ, List, Option, None, IsTrue}
use Rattle.cs_wire.specs.Changeset.{GroupData}
use Rattle.cs_wire.specs.ReadFaults.{ReadFails}
use Rattle.cs_file_texts.specs.declared.told.Told.{Told}
use Rattle.cs_files.specs.Told.{has_failed}
use Rattle.cs_files.specs.Files.{Inverts, Joins, JoinFails}
use Rattle.cs_files.specs.Printing.{PrintsTo, PrintsFrontTo}
use Rattle.cs_folder.specs.Files.{Files, HasFile, IsUnreadable, ReplacesFile}
use Rattle.cs_shell_replies.specs.declared.refusal.Refusal.{Refusal}
use Rattle.cs_shell_replies.specs.declared.refusal.Refusal.TheVariants as refusal

-- ---- what is done

-- OUT has the inverse of the file.
pub record InvertsFile (old : Option Files) (file out : List ℕ) (new : Option Files) : Type 0 where
  pub bytes : List ℕ
  pub inverse : List ℕ
  pub read : HasFile old file bytes
  pub inverts : Inverts bytes inverse
  pub written : ReplacesFile old out inverse new

-- OUT has the concatenation of the two files.
pub record JoinsFiles (old : Option Files) (first second out : List ℕ) (new : Option Files) : Type 0 where
  pub bytes : List ℕ
  pub other : List ℕ
  pub join : List ℕ
  pub read : HasFile old first bytes
  pub other_read : HasFile old second other
  pub joins : Joins bytes other join
  pub written : ReplacesFile old out join new

-- The text of the file is printed.
pub record PrintsFile {W : Type 0} (contents : W → Option (List ℕ)) (text_of : List GroupData → List ℕ)
    (files : Option Files) (file : List ℕ) (before after : Told W) : Type 0 where
  pub bytes : List ℕ
  pub read : HasFile files file bytes
  pub printed : PrintsTo contents text_of bytes before after

-- ---- why it is refused

-- The file is not read.
abbrev pub RefusesRead : Option Files → List ℕ → Refusal → Type 0
RefusesRead files file refusal.NoMemory = Unit {0}
RefusesRead files file refusal.Input = IsUnreadable files file
RefusesRead files file _ = ⊥

-- A file is not written. Where the files are known, that is only for memory.
abbrev pub RefusesWrite : Option Files → Refusal → Type 0
RefusesWrite files refusal.NoMemory = Unit {0}
RefusesWrite files (refusal.Output fault) = files ≡ None
RefusesWrite files _ = ⊥

abbrev pub RefusesInvert : Option Files → List ℕ → Refusal → Type 0
RefusesInvert files file refusal.NoMemory = Unit {0}
RefusesInvert files file refusal.Input = IsUnreadable files file
RefusesInvert files file (refusal.Read fault) =
    (bytes : List ℕ) × HasFile files file bytes × ReadFails bytes fault.kind fault.place
RefusesInvert files file (refusal.Output fault) =
    (files ≡ None) × (bytes : List ℕ) × (inverse : List ℕ) × HasFile files file bytes × Inverts bytes inverse
RefusesInvert files file _ = ⊥

abbrev pub RefusesJoin : Option Files → List ℕ → List ℕ → Refusal → Type 0
RefusesJoin files first second refusal.NoMemory = Unit {0}
RefusesJoin files first second refusal.Input = IsUnreadable files first
    ⊎ ((bytes : List ℕ) × HasFile files first bytes × IsUnreadable files second)
RefusesJoin files first second (refusal.Files fault) = (bytes : List ℕ) × (other : List ℕ)
    × HasFile files first bytes × HasFile files second other × JoinFails bytes other fault
RefusesJoin files first second (refusal.Output fault) = (files ≡ None)
    × (bytes : List ℕ) × (other : List ℕ) × (join : List ℕ)
    × HasFile files first bytes × HasFile files second other × Joins bytes other join
RefusesJoin files first second _ = ⊥

-- The file is not printed: nothing is, or a write fails after a prefix of the text.
abbrev pub RefusesPrint : {W : Type 0} → (W → Option (List ℕ)) → (List GroupData → List ℕ) → Option Files → List ℕ
    → Told W → Told W → Refusal → Type 0
RefusesPrint contents text_of files file before after refusal.NoMemory = after ≡ before
RefusesPrint contents text_of files file before after refusal.Input = IsUnreadable files file × (after ≡ before)
RefusesPrint contents text_of files file before after (refusal.Read fault) =
    (bytes : List ℕ) × HasFile files file bytes × ReadFails bytes fault.kind fault.place × (after ≡ before)
RefusesPrint contents text_of files file before after (refusal.Output fault) = (bytes : List ℕ)
    × HasFile files file bytes × PrintsFrontTo contents text_of bytes before after × IsTrue (has_failed after)
RefusesPrint contents text_of files file before after _ = ⊥
