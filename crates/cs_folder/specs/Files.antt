-- The files of a folder, and what is read and written there.
use Rattle.std.specs.Prelude.{◌≡◌, ◌⊎◌, ◌<◌, ◌≤◌, ℕ, List, length, Option, None, Some}
use Rattle.std.specs.FinMap as map
use Rattle.cs_value.specs.Maps.{ByBytes}
use Rattle.cs_folder.specs.declared.folder.TheConstants.{FILE_LIMIT}

-- the bytes of each file, by its name
abbrev pub Files : Type 0
Files = ByBytes (List ℕ)

-- where the files are known, this one has these bytes
abbrev pub IsFile : Option Files → List ℕ → List ℕ → Type 0
IsFile None name bytes = Unit {0}
IsFile (Some files) name bytes = map.get files name ≡ Some bytes

-- it has them, and is not too long
abbrev pub HasFile : Option Files → List ℕ → List ℕ → Type 0
HasFile files name bytes = (length bytes ≤ FILE_LIMIT) × IsFile files name bytes

-- where the files are known, this one is missing or too long
abbrev pub IsUnreadable : Option Files → List ℕ → Type 0
IsUnreadable None name = Unit {0}
IsUnreadable (Some files) name = (map.get files name ≡ None)
    ⊎ ((bytes : List ℕ) × (map.get files name ≡ Some bytes) × (FILE_LIMIT < length bytes))

-- where the files are known, this one has these bytes now, and each other one is as it was
abbrev pub ReplacesFile : Option Files → List ℕ → List ℕ → Option Files → Type 0
ReplacesFile None name bytes new = new ≡ None
ReplacesFile (Some files) name bytes new = new ≡ Some (map.insert files name bytes)
