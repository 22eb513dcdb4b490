-- What a caller in C sees of a step of the iterator, and of a value.
use Rattle.std.specs.Prelude.{◌≡◌, ◌⊎◌, ℤ, pos}
use Rattle.cs_value.specs.declared.refusal.OrNoMemory.TheVariants.{Fault}
use Rattle.cs_wire_entries.specs.declared.fault.ReadFault.{ReadFault}
use Rattle.cs_files.specs.declared.fault.FileFault.TheVariants.{First}
use Rattle.cs_file_iterator.specs.declared.value.Side.{Side}
use Rattle.cs_file_iterator.specs.declared.value.Side.TheVariants.{Old, New}
use Rattle.vollikash.specs.declared.answer.FaultReport.{FaultReport}
use Rattle.vollikash.specs.declared.answer.TheConstants.{OK, DONE}
use Rattle.vollikash.specs.Answers.{report_of}

-- a change was returned, or none is left
abbrev pub IsStepCode : ℤ → Type 0
IsStepCode code = (code ≡ OK) ⊎ (code ≡ DONE)

-- the report is that of a fault of the file
pub record TellsFault (report : FaultReport) : Type 0 where
  pub fault : ReadFault
  pub told : report ≡ report_of (Fault (First fault))

-- the numbers of the sides
abbrev pub side_number : Side → ℤ
side_number Old = pos 0
side_number New = pos 1
