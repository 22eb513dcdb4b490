-- The entries of a table that are found by their keys and read where they are, as contracts see them; this project's
-- own.
use Rattle.std.specs.Prelude.{◌≡◌, ℕ, ◌≤◌, List, [], ◌∷◌, ◌++◌, length, map, drop, get_or}
use Rattle.cs_wire_entries.specs.declared.entry.Entry.{Entry}
use Rattle.cs_wire.specs.Entry.{key_of}
use Rattle.cs_wire.specs.Changeset.{GroupData}
use Rattle.cs_file_scan.specs.Chains.{ChainsData}
use Rattle.cs_file_scan.specs.Distinct.{number_of}
use Rattle.cs_file_scan.specs.Tables.{TablesData, EntriesLeft}

-- the file, the flags of the table, the byte offset of each entry and of the end, and the numbers of the keys
pub record KeyedFile : Type 0 where
  pub file : List ℕ
  pub flags : List ℕ
  pub bounds : List ℕ
  pub chains : ChainsData

-- how many entries it has
abbrev pub count_of : KeyedFile → ℕ
count_of keyed = length keyed.chains.numbers

-- the file at the entry of this index
abbrev pub entries_from : KeyedFile → ℕ → TablesData
entries_from keyed index = record { file = keyed.file; place = get_or keyed.bounds index 0; flags = keyed.flags }

-- one more entry
abbrev pub with_entry : KeyedFile → ℕ → ℕ → KeyedFile
with_entry keyed number end = record {
  file = keyed.file;
  flags = keyed.flags;
  bounds = keyed.bounds ++ end ∷ [];
  chains = record { buckets = keyed.chains.buckets; numbers = keyed.chains.numbers ++ number ∷ [] };
}

-- the number of the key of an entry
abbrev pub key_number : List ℕ → Entry → ℕ
key_number flags entry = number_of (key_of flags entry.change)

-- these are the entries, after which these groups are left
pub record AreKeyed (keyed : KeyedFile) (entries : List Entry) (groups : List GroupData) : Type 0 where
  pub left : (index : ℕ) → index ≤ length entries → EntriesLeft (entries_from keyed index) (drop index entries) groups
  pub numbers : keyed.chains.numbers ≡ map (key_number keyed.flags) entries
