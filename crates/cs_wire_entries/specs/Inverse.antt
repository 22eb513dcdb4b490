-- The inverse of an entry: the introduction to SQLite's session extension, under "inverting a changeset". That the
-- indirect flag stays is this project's own.
use Rattle.std.specs.Prelude.{◌≡◌, ℕ, List, ◌++◌}
use Rattle.std.specs.List.{AllZip}
use Rattle.cs_wire_entries.specs.declared.entry.Entry.{Entry}
use Rattle.cs_wire_entries.specs.Entry.{IsEntry, entry_bytes, key_of}
use Rattle.cs_wire_entries.specs.Changeset.{GroupData, ImageData, image_of}

-- before and after exchanged
abbrev pub exchanged : ImageData → ImageData
exchanged image = record { before = image.after; after = image.before }

-- what one entry says of the row with its key, with before and after exchanged
pub record IsInverseEntry (flags : List ℕ) (entry inverse : Entry) : Type 0 where
  pub indirect : inverse.indirect ≡ entry.indirect
  pub key : key_of flags inverse.change ≡ key_of flags entry.change
  pub image : image_of flags inverse ≡ exchanged (image_of flags entry)

-- the bytes of the inverse were appended
pub record AppendsInverse (flags : List ℕ) (entry : Entry) (old new : List ℕ) : Type 0 where
  pub inverse : Entry
  pub is_entry : IsEntry flags inverse
  pub undoes : IsInverseEntry flags entry inverse
  pub written : new ≡ old ++ entry_bytes inverse

-- the same header, and the inverses of the entries in their order
pub record IsInverseGroup (group inverse : GroupData) : Type 0 where
  pub header : inverse.header ≡ group.header
  pub entries : AllZip (IsInverseEntry group.header.flags) group.entries inverse.entries
