-- What a walk through a file knows. No public contract names this.
use Rattle.std.specs.Prelude.{◌≡◌, ◌≢◌, ◌↔◌, ℕ, ◌≤◌, ◌==◌, ◌⊎◌, Bool, false, List, [], ◌∷◌, ◌++◌, length, All}
use Rattle.cs_wire_entries.specs.declared.entry.Entry.{Entry}
use Rattle.cs_wire_entries.specs.Changeset.{HeaderData, GroupData}
use Rattle.cs_wire.specs.Cursor.{Begins}
use Rattle.cs_wire_entries.specs.ReadFaults.{EntryStart}
use Rattle.cs_wire_entries.specs.Views.{group_keys, group_names}

-- its file and its place, the flags of the table that is open, none before the first, and whether that has no entry yet
pub record WalkData : Type 0 where
  pub file : List ℕ
  pub place : ℕ
  pub flags : List ℕ
  pub is_bare : Bool

-- a text is new to those that were met where it is new to these
abbrev pub Knows : List (List ℕ) → List (List ℕ) → Type 0
Knows seen texts = (text : List ℕ) → All (λ t. t ≢ text) seen ↔ All (λ t. t ≢ text) texts

-- after these tables and a header there are these entries, and then perhaps more, and other tables
pub record GoesOn (all closed : List GroupData) (header : HeaderData) (entries : List Entry) : Type 0 where
  pub more : List Entry
  pub others : List GroupData
  pub is : all ≡ closed ++ record { header = header; entries = entries ++ more } ∷ others

-- nothing was passed yet
pub record IsAtStart (place : ℕ) (flags : List ℕ) (is_bare : Bool) (names : List (List ℕ)) : Type 0 where
  pub place_is : place ≡ 0
  pub no_table : flags ≡ []
  pub no_bare : is_bare ≡ false
  pub knows_names : Knows names []

-- a table is open, and some of its entries were passed
pub record IsInTable (file : List ℕ) (place : ℕ) (flags : List ℕ) (is_bare : Bool) (names keys : List (List ℕ)) : Type 0 where
  pub header : HeaderData
  pub entries : List Entry
  pub start : EntryStart file place header entries
  pub flags_are : flags ≡ header.flags
  pub bare : is_bare ≡ (length entries == 0)
  pub knows_names : Knows names (group_names start.groups ++ header.name ∷ [])
  pub knows_keys : Knows keys (group_keys header.flags entries)
  -- whatever the file begins with, up to this place or a later one, begins with them
  pub begins : (all : List GroupData) (to : ℕ) → Begins file to all → place ≤ to → GoesOn all start.groups header entries

abbrev pub IsWalk : List ℕ → ℕ → List ℕ → Bool → List (List ℕ) → List (List ℕ) → Type 0
IsWalk file place flags is_bare names keys =
    IsAtStart place flags is_bare names ⊎ IsInTable file place flags is_bare names keys
