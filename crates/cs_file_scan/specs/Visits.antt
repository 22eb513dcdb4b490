-- What is appended as a file is visited; this project's own.
use Rattle.std.specs.Prelude.{◌≡◌, ℕ, List, ◌++◌}
use Rattle.std.specs.List.{flat_map}
use Rattle.cs_wire_entries.specs.declared.entry.Entry.{Entry}
use Rattle.cs_wire.specs.Changeset.{HeaderData, GroupData, IsFileOf}

-- for a table with its entries, by what is appended for a header and for an entry under these flags
abbrev pub group_text : (HeaderData → List ℕ) → (List ℕ → Entry → List ℕ) → GroupData → List ℕ
group_text header_text entry_text group =
    header_text group.header ++ flat_map (entry_text group.header.flags) group.entries

-- the file is that of a changeset, and this was appended for each of its tables
pub record IsVisited (text : GroupData → List ℕ) (file old new : List ℕ) : Type 0 where
  pub groups : List GroupData
  pub is_file : IsFileOf file groups
  pub written : new ≡ old ++ flat_map text groups
