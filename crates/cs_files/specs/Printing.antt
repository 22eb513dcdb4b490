-- What it is to print a file; this project's own.
use Rattle.std.specs.Prelude.{ℕ, List, Option}
use Rattle.std.specs.Io.KnownBytes.{Appends}
use Rattle.cs_value.specs.declared.refusal.OrNoMemory.{OrNoMemory}
use Rattle.cs_wire_entries.specs.declared.fault.ReadFault.{ReadFault}
use Rattle.cs_wire.specs.Changeset.{GroupData}
use Rattle.cs_files.specs.declared.fault.PrintError.{PrintError}
use Rattle.cs_files.specs.declared.fault.PrintError.TheVariants.{Read, Output}
use Rattle.cs_file_texts.specs.declared.told.Told.{Told}
use Rattle.cs_file_texts.specs.Told.{known}
use Rattle.cs_file_texts.specs.Calls.{AppendsFront}
use Rattle.cs_files.specs.Files.{Prints}

-- this holds of why the file was not read, where it was not
abbrev pub IfUnread : (OrNoMemory ReadFault → Type 0) → PrintError → Type 0
IfUnread Why (Read error) = Why error
IfUnread Why (Output fault) = Unit {0}

-- this holds where the file was read, and its text was not written to its end
abbrev pub IfUnwritten : Type 0 → PrintError → Type 0
IfUnwritten Left (Read error) = Unit {0}
IfUnwritten Left (Output fault) = Left

-- the bytes are the file of a changeset, and what this makes of it was written
pub record PrintsTo {W : Type 0} (contents : W → Option (List ℕ)) (text_of : List GroupData → List ℕ)
    (file : List ℕ) (old new : Told W) : Type 0 where
  pub text : List ℕ
  pub prints : Prints text_of file text
  pub appended : Appends (known contents old) (known contents new) text

-- the bytes are the file of a changeset, and some front of what this makes of it was written
pub record PrintsFrontTo {W : Type 0} (contents : W → Option (List ℕ)) (text_of : List GroupData → List ℕ)
    (file : List ℕ) (old new : Told W) : Type 0 where
  pub text : List ℕ
  pub prints : Prints text_of file text
  pub appended : AppendsFront (known contents old) (known contents new) text
