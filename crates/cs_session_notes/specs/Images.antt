-- The meaning of first images of the code.
use Rattle.std.specs.Prelude.{ℕ, if◌then◌else◌, List, [], ◌∷◌, ◌++◌, Option, is_some}
use Rattle.cs_value.specs.declared.value.OwnedValue.{OwnedValue}
use Rattle.cs_session_notes.specs.FirstImages.{FirstImage, first_at}

-- a key with its row, as a map has them
abbrev pub first_of : List ℕ × Option (List OwnedValue) → FirstImage
first_of entry = record { key = entry.0; row = entry.1 }

-- one key more, unless it is there
abbrev pub with_first : List FirstImage → List ℕ → Option (List OwnedValue) → List FirstImage
with_first firsts key row = if is_some (first_at firsts key) then firsts else firsts ++ record { key = key; row = row } ∷ []
