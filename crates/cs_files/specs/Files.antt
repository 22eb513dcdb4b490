-- What it is for files to be the inverse of one, one with its key columns numbered, and the join of two, and for a text
-- to be what is printed of one.
use Rattle.std.specs.Prelude.{◌≡◌, ℕ, List}
use Rattle.cs_wire.specs.Changeset.{GroupData, IsChangeset, IsAccepted, file_bytes}
use Rattle.cs_wire.specs.ReadFaults.{ReadFails}
use Rattle.cs_group.specs.Inverse.{IsInverse}
use Rattle.cs_group.specs.Joining.{IsJoined, FirstClash}
use Rattle.cs_group.specs.Numbering.{numbered}
use Rattle.cs_files.specs.declared.fault.FileFault.{FileFault}
use Rattle.cs_files.specs.declared.fault.FileFault.TheVariants.{First, Second, Schema}

-- the bytes are the file of a changeset, and out is that of its inverse
pub record Inverts (file out : List ℕ) : Type 0 where
  pub changeset : List GroupData
  pub inverse : List GroupData
  pub is_changeset : IsChangeset changeset
  pub is_file : file ≡ file_bytes changeset
  pub is_inverse : IsInverse changeset inverse
  pub inverse_is_changeset : IsChangeset inverse
  pub inverse_is_file : out ≡ file_bytes inverse

-- the bytes are the file of a changeset, and out is that of it with its key columns numbered
pub record Numbers (file out : List ℕ) : Type 0 where
  pub changeset : List GroupData
  pub is_changeset : IsChangeset changeset
  pub is_file : file ≡ file_bytes changeset
  pub numbered_is_changeset : IsChangeset (numbered changeset)
  pub numbered_is_file : out ≡ file_bytes (numbered changeset)

-- two files, of these changesets
pub record AreFiles (first second : List ℕ) (changeset other : List GroupData) : Type 0 where
  pub is_changeset : IsChangeset changeset
  pub is_file : first ≡ file_bytes changeset
  pub other_is_changeset : IsChangeset other
  pub other_is_file : second ≡ file_bytes other

-- two files, and out is that of what their changesets make together
pub record Joins (first second out : List ℕ) : Type 0 where
  pub changeset : List GroupData
  pub other : List GroupData
  pub join : List GroupData
  pub are_files : AreFiles first second changeset other
  pub is_joined : IsJoined changeset other join
  pub join_is_file : out ≡ file_bytes join

-- the first table of the second file that is not as in the first file is at this place
pub record Clashes (first second : List ℕ) (place : ℕ) : Type 0 where
  pub changeset : List GroupData
  pub other : List GroupData
  pub are_files : AreFiles first second changeset other
  pub clash : FirstClash changeset other place

-- the bytes are the file of a changeset, and the text is what this makes of it
pub record Prints (text_of : List GroupData → List ℕ) (file text : List ℕ) : Type 0 where
  pub changeset : List GroupData
  pub is_changeset : IsChangeset changeset
  pub is_file : file ≡ file_bytes changeset
  pub is_text : text ≡ text_of changeset

-- why the first file, or the only one, is not read
abbrev pub FirstFails : List ℕ → FileFault → Type 0
FirstFails file (First f) = ReadFails file f.kind f.place
FirstFails file (Second f) = ⊥
FirstFails file (Schema s) = ⊥

-- why two changesets are not joined
abbrev pub AreUnjoined : List GroupData → List GroupData → FileFault → Type 0
AreUnjoined changeset other (First f) = ⊥
AreUnjoined changeset other (Second f) = ⊥
AreUnjoined changeset other (Schema s) = FirstClash changeset other s.place

-- why two files are not joined: the first is none, or else the second, or a table differs
abbrev pub JoinFails : List ℕ → List ℕ → FileFault → Type 0
JoinFails first second (First f) = ReadFails first f.kind f.place
JoinFails first second (Second f) = IsAccepted first × ReadFails second f.kind f.place
JoinFails first second (Schema s) = Clashes first second s.place
