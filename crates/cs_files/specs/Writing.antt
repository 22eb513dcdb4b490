-- What is written of a join. No public contract names this: what it is for is said by Files.
use Rattle.std.specs.Prelude.{◌≡◌, ℕ, List, [], Option, None, Some}
use Rattle.cs_wire.specs.Changeset.{GroupData}
use Rattle.cs_file_scan.specs.Tables.{TablesData, EntriesLeft}

-- the bytes of a thing, if there is one
abbrev pub some_bytes : {X : Type 0} → (X → List ℕ) → Option X → List ℕ
some_bytes bytes_of None = []
some_bytes bytes_of (Some x) = bytes_of x

-- the entries of the group are left there, under its flags
abbrev pub IsPartner : Option TablesData → Option GroupData → Type 0
IsPartner None None = Unit {0}
IsPartner None (Some group) = ⊥
IsPartner (Some tables) None = ⊥
IsPartner (Some tables) (Some group) = (tables.flags ≡ group.header.flags) × (behind : List GroupData)
    × EntriesLeft tables group.entries behind
