-- Files in memory.
use Rattle.std.specs.Prelude.{◌≡◌, ◌⊎◌, ℕ, List, []}
use Rattle.std.specs.FinMap as map
use Rattle.sqlite_wal.specs.Recovery.{Image}
use Rattle.sqlite.specs.Effect.{Database, IsDatabase}
use Rattle.sqlite.specs.Files.{HoldsDatabase}
use Rattle.cs_value.specs.State.{State}
use Rattle.cs_rows.specs.declared.fault.StoreError.{StoreError}
use Rattle.cs_rows.specs.declared.fault.StoreError.TheVariants.{DamagedStore}
use Rattle.cs_store.specs.Faults.{IsResource}
use Rattle.cs_store.specs.Opening.{IsFoundIn, IsLeftIn}
use Rattle.cs_store.specs.Store.{HoldsTables, IsDamaged}
use Rattle.cs_store_memory.specs.declared.file.MemoryFile.{MemoryFile}

-- the bytes of a file
abbrev pub bytes_of : MemoryFile → List ℕ
bytes_of file = file.bytes.items

-- no call on the file has failed
abbrev pub IsFresh : MemoryFile → Type 0
IsFresh file = (file.faults ≡ 0) × (file.caught ≡ 0) × (file.refused ≡ 0)

-- a database file that has no log
abbrev pub alone : List ℕ → Image
alone bytes = record { log = []; db = bytes }

-- the bytes of a database file without a log are those of a store with these tables, as a close leaves it, or there are
-- no bytes, and no table
abbrev pub HasTables : State → List ℕ → Type 0
HasTables held bytes = IsLeftIn held (alone bytes) ⊎ ((bytes ≡ []) × (held ≡ map.empty))

-- the bytes of a database file without a log are those of this database
abbrev pub HasDatabase : Database → List ℕ → Type 0
HasDatabase db bytes = IsDatabase db × ∥ HoldsDatabase (alone bytes) db.trees ∥₁

-- An open finds these tables in the bytes: they are those of a database that holds these tables in its records, of this
-- version or the former one, or no record and no table. Other tables may be in it. Or there are no bytes, and no table.
abbrev pub FindsTables : State → List ℕ → Type 0
FindsTables held bytes = ∥ ((db : Database) × HasDatabase db bytes × HoldsTables db held) ∥₁
    ⊎ ((bytes ≡ []) × (held ≡ map.empty))

-- the database that is found in the bytes is damaged
abbrev pub FindsDamage : List ℕ → Type 0
FindsDamage bytes = (db : Database) × IsFoundIn (alone bytes) db × IsDamaged db

-- bytes are refused: the database in them is damaged, memory ran out, or the database refused
abbrev pub RefusesBytes : List ℕ → StoreError → Type 0
RefusesBytes bytes error = ((error ≡ DamagedStore) × FindsDamage bytes) ⊎ IsResource error
