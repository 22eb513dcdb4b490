-- What a caller in C sees of a call: the number that it answers, the report, and the buffer that it fills.
use Rattle.std.specs.Prelude.{◌≡◌, ◌≢◌, ◌⊎◌, ℕ, ℤ, pos, ◌+◌, ◌<◌, ◌≤◌, nat_lt, if◌then◌else◌, List, ◌++◌, length, drop, Vec, Result, Ok, Err}
use Rattle.std.specs.declared.alloc.Global.{Global}
use Rattle.cs_value.specs.declared.refusal.OrNoMemory.{OrNoMemory}
use Rattle.cs_value.specs.declared.refusal.OrNoMemory.TheVariants.{Fault, NoMemory}
use Rattle.cs_value.specs.Refusals.{Refuses, of_refusal}
use Rattle.cs_files.specs.declared.fault.FileFault.{FileFault}
use Rattle.cs_files.specs.declared.fault.FileFault.TheVariants.{First, Second, Schema}
use Rattle.cs_files.specs.Faults.{code_of}
use Rattle.vollikash.specs.declared.answer.FaultReport.{FaultReport}
use Rattle.vollikash.specs.declared.answer.TheConstants.{OK, NO_ROOM}

-- the call did not do what it was asked for, whatever the room
abbrev pub IsRefusal : ℤ → Type 0
IsRefusal code = (code ≢ OK) × (code ≢ NO_ROOM)

-- the call did what it was asked for, or there is no room for what it made
abbrev pub IsMadeCode : ℤ → Type 0
IsMadeCode code = (code ≡ OK) ⊎ (code ≡ NO_ROOM)

-- what is reported where no file is refused
abbrev pub no_fault : ℤ → FaultReport
no_fault code = record { code = code; file = pos 0; place = 0 }

-- which file has the fault, from 1, or 0 where none has it
abbrev pub file_of : OrNoMemory FileFault → ℤ
file_of (Fault (First f)) = pos 1
file_of (Fault (Second f)) = pos 2
file_of (Fault (Schema s)) = pos 2
file_of NoMemory = pos 0

abbrev pub place_of : OrNoMemory FileFault → ℕ
place_of (Fault (First f)) = f.place
place_of (Fault (Second f)) = f.place
place_of (Fault (Schema s)) = s.place
place_of NoMemory = 0

-- what is reported of a refusal
abbrev pub report_of : OrNoMemory FileFault → FaultReport
report_of refusal =
    record { code = pos (of_refusal code_of 60 refusal); file = file_of refusal; place = place_of refusal }

-- bytes for which Made holds are first in the buffer, and after them what was there
pub record Gives (Made : List ℕ → Type 0) (before after : List ℕ) (written : ℕ) : Type 0 where
  pub bytes : List ℕ
  pub made : Made bytes
  pub fit : length bytes ≤ length before
  pub stand : after ≡ bytes ++ drop (length bytes) before
  pub counted : written ≡ length bytes

-- bytes for which Made holds are more than the buffer has room for
pub record Lacks (Made : List ℕ → Type 0) (before : List ℕ) (needed : ℕ) : Type 0 where
  pub bytes : List ℕ
  pub made : Made bytes
  pub more : length before < length bytes
  pub counted : needed ≡ length bytes

-- a refusal for which Why holds is reported, and nothing was written
pub record ReportsFault (Why : FileFault → Type 0) (report : FaultReport) (written : ℕ) : Type 0 where
  pub refusal : OrNoMemory FileFault
  pub why : Refuses Why refusal
  pub told : report ≡ report_of refusal
  pub none : written ≡ 0

-- the bytes that were made, and why none were
abbrev pub IsMade : Result (Vec ℕ Global) (OrNoMemory FileFault) → List ℕ → Type 0
IsMade (Ok made) bytes = bytes ≡ made.items
IsMade (Err refusal) bytes = ⊥

abbrev pub IsWhy : Result (Vec ℕ Global) (OrNoMemory FileFault) → FileFault → Type 0
IsWhy (Ok made) fault = ⊥
IsWhy (Err refusal) fault = refusal ≡ Fault fault

-- the number of a file, counted from 1, as far as C's int goes
abbrev pub file_number : ℕ → ℤ
file_number index = if nat_lt index 2147483647 then pos (index + 1) else pos 2147483647

-- which of many files has the fault, or 0 where none has it
abbrev pub file_among : ℕ → OrNoMemory FileFault → ℤ
file_among index (Fault f) = file_number index
file_among index NoMemory = pos 0

-- a refusal for which Why holds of the file at an index is reported, and nothing was written
pub record ReportsFileFault (Why : ℕ → FileFault → Type 0) (report : FaultReport) (written : ℕ) : Type 0 where
  pub index : ℕ
  pub refusal : OrNoMemory FileFault
  pub why : Refuses (Why index) refusal
  pub told : report ≡ record { code = pos (of_refusal code_of 60 refusal); file = file_among index refusal; place = place_of refusal }
  pub none : written ≡ 0
