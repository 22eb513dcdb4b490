-- Lemmas on files that are printed.
use Rattle.std.proofs.Common.{ℕ, List, Option, Result, Ok, Err, refl}
use Rattle.std.specs.Prelude.{IfErr}
use Rattle.cs_wire.specs.Changeset.{GroupData, IsFileOf}
use Rattle.cs_files.specs.declared.fault.PrintError.{PrintError}
use Rattle.cs_files.specs.declared.fault.PrintError.TheVariants.{Read, Output}
use Rattle.cs_file_texts.specs.declared.told.Told.{Told}
use Rattle.cs_file_texts.specs.Told.{known}
use Rattle.cs_file_texts.specs.Calls.{AppendsFront}
use Rattle.cs_files.specs.Printing.{IfUnwritten, PrintsFrontTo}

-- a prefix of what is printed of a file was written
pub front_printed : {W X : Type 0} (contents : W → Option (List ℕ)) (text_of : List GroupData → List ℕ) (file : List ℕ) (old new : Told W) (result : Result X PrintError)
    (groups : List GroupData) → IsFileOf file groups → AppendsFront (known contents old) (known contents new) (text_of groups)
    → IfErr result (IfUnwritten (PrintsFrontTo contents text_of file old new))
front_printed contents text_of file old new (Ok x) groups is_file front = tt
front_printed contents text_of file old new (Err (Read error)) groups is_file front = tt
front_printed contents text_of file old new (Err (Output fault)) groups is_file front = record {
  text = text_of groups;
  prints = record { changeset = groups; is_changeset = is_file.0; is_file = is_file.1; is_text = refl };
  appended = front;
}
