-- Many files that are concatenated from the first on; this project's own.
use Rattle.std.specs.Prelude.{◌≡◌, ℕ, ◌≤◌, List, [], ◌∷◌, ◌++◌, length, take, drop}
use Rattle.cs_value.specs.Refusals.{Refuses}
use Rattle.cs_wire.specs.Changeset.{IsAccepted}
use Rattle.cs_changegroup.specs.declared.many.ChainError.{ChainError}
use Rattle.cs_changegroup.specs.declared.many.ChainError.TheVariants.{File, Lengths}
use Rattle.cs_files.specs.declared.fault.FileFault.{FileFault}
use Rattle.cs_files.specs.Files.{FirstFails, JoinFails, Joins}

-- the files of a buffer: as many bytes as each length says
abbrev pub files_in : List ℕ → List ℕ → List (List ℕ)
files_in bytes [] = []
files_in bytes (n ∷ lengths) = take n bytes ∷ files_in (drop n bytes) lengths

-- the lengths are those of the buffer's parts
abbrev pub AreLengths : List ℕ → List ℕ → Type 0
AreLengths bytes [] = bytes ≡ []
AreLengths bytes (n ∷ lengths) = (n ≤ length bytes) × AreLengths (drop n bytes) lengths

-- out is what the file makes together with the others, one after the other
abbrev pub JoinsAll : List ℕ → List (List ℕ) → List ℕ → Type 0
JoinsAll file [] out = file ≡ out
JoinsAll file (next ∷ others) out = (joined : List ℕ) × Joins file next joined × JoinsAll joined others out

-- out is the concatenation of the files from the first on: no bytes, if there is none
abbrev pub Chains : List (List ℕ) → List ℕ → Type 0
Chains [] out = out ≡ []
Chains (first ∷ others) out = IsAccepted first × JoinsAll first others out

-- why a file is not joined to the concatenation of those before it
abbrev pub WhyNot : List (List ℕ) → List ℕ → List ℕ → FileFault → Type 0
WhyNot [] joined file fault = FirstFails file fault
WhyNot (first ∷ others) joined file fault = JoinFails joined file fault

-- the file at this index is at fault: it is no changeset, or it cannot be joined to the concatenation of those before
-- it
pub record ChainFails (files : List (List ℕ)) (index : ℕ) (fault : FileFault) : Type 0 where
  pub before : List (List ℕ)
  pub file : List ℕ
  pub behind : List (List ℕ)
  pub files_are : files ≡ before ++ file ∷ behind
  pub index_is : index ≡ length before
  pub joined : List ℕ
  pub chained : Chains before joined
  pub fails : WhyNot before joined file fault

-- Why holds of the file at the index and its fault, unless memory ran out or the lengths are wrong
abbrev pub IfFile : (ℕ → FileFault → Type 0) → ChainError → Type 0
IfFile Why Lengths = Unit {0}
IfFile Why (File index error) = Refuses (Why index) error
