-- The meaning of types of the code.
use Rattle.std.specs.Prelude.{◌≡◌, ◌≢◌, ℕ, false, List, [], ◌++◌, ◌<◌, length, get_or, is_some}
use Rattle.std.specs.List.{AllByRecursion}
use Rattle.std.specs.Prelude.{string_bytes}
use Rattle.cs_session_notes.specs.declared.attached.Attached.{Attached}
use Rattle.cs_session_notes.specs.FirstImages.{AttachedTable, first_at}

-- its name
abbrev pub name_in : Attached → List ℕ
name_in table = string_bytes table.name

-- a table with all that is noted of it
abbrev pub attached_of : Attached → AttachedTable
attached_of table = record {
  name = string_bytes table.name;
  schema = table.schema;
  firsts = table.firsts.kept ++ table.firsts.pending;
}

-- with what earlier calls noted
abbrev pub kept_of : Attached → AttachedTable
kept_of table = record {
  name = string_bytes table.name;
  schema = table.schema;
  firsts = table.firsts.kept;
}

-- nothing is noted since
abbrev pub HasNonePending : Attached → Type 0
HasNonePending table = table.firsts.pending ≡ []

-- a table with this name is at the index
abbrev pub IsIndexOf : List Attached → List ℕ → ℕ → Type 0
IsIndexOf tables name index = (index < length tables) × ((d : Attached) → name_in (get_or tables index d) ≡ name)

-- the key was not written in the table at the index
abbrev pub IsNewAt : List Attached → List ℕ → ℕ → Type 0
IsNewAt tables key index =
    (t : Attached) → t ≡ get_or tables index t → is_some (first_at (attached_of t).firsts key) ≡ false

-- each table at another index than these has nothing pending, and there is a table at each of these
abbrev pub HaveNonePendingBut : List ℕ → List Attached → Type 0
HaveNonePendingBut indices tables = AllByRecursion (λ p. p < length tables) indices
    × ((i : ℕ) (t : Attached) → AllByRecursion (λ p. p ≢ i) indices → i < length tables → t ≡ get_or tables i t → HasNonePending t)

-- the index is one of these
abbrev pub IsOpen : List ℕ → ℕ → Type 0
IsOpen indices index = ¬ AllByRecursion (λ p. p ≢ index) indices
