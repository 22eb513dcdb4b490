-- The tables of a file that are named; this project's own.
use Rattle.std.specs.Prelude.{◌≡◌, ℕ, ◌==◌, nat_eq, Bool, List, filter}
use Rattle.std.specs.List.{list_any, slice_split}
use Rattle.std.specs.Cmp.Lexicographic.{pointwise}
use Rattle.cs_wire.specs.Changeset.{GroupData, IsChangeset, file_bytes}

-- the names of a buffer: what is between its zero bytes
abbrev pub names_in : List ℕ → List (List ℕ)
names_in names = slice_split (λ b. b == 0) names

-- the name is among those of the buffer
unfoldable pub is_among : List ℕ → List ℕ → Bool
is_among names name = list_any (λ n. pointwise nat_eq n name) (names_in names)

-- the groups of the tables whose names are in the buffer, in order
abbrev pub selected : List ℕ → List GroupData → List GroupData
selected names groups = filter (λ g. is_among names g.header.name) groups

-- the bytes are the file of a changeset, and out is that of its selected groups
pub record Selects (names file out : List ℕ) : Type 0 where
  pub changeset : List GroupData
  pub is_changeset : IsChangeset changeset
  pub is_file : file ≡ file_bytes changeset
  pub selected_is_changeset : IsChangeset (selected names changeset)
  pub selected_is_file : out ≡ file_bytes (selected names changeset)
