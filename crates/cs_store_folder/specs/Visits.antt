-- What a visit makes of the store in a file.
use Rattle.std.specs.Prelude.{◌≡◌, List, [], ℕ, Option, None, Some, unwrap_or, IfSome, Result, Ok, Err, IfErr, OnOk}
use Rattle.std.specs.FinMap as map
use Rattle.sqlite.specs.Effect.{Database}
use Rattle.cs_value.specs.State.{State}
use Rattle.cs_rows.specs.declared.fault.StoreError.{StoreError}
use Rattle.cs_rows.specs.Faults.{IsResource, IsReadRefusal}
use Rattle.cs_store.specs.Store.{HoldsTables}
use Rattle.cs_store.specs.Opening.{IsFoundIn}
use Rattle.cs_folder.specs.Files.{Files}
use Rattle.cs_store_memory.specs.Memory.{FindsTables, HasDatabase, HasTables, RefusesBytes, alone}
use Rattle.cs_store.specs.Turns.{SparesOthers}

-- The bytes of a file, or none if it is not there.
abbrev pub bytes_in : Files → List ℕ → List ℕ
bytes_in files name = unwrap_or (map.get files name) []

-- The file is a store with these tables, as a visit leaves it, or it is empty or not there, and there is no table.
abbrev pub HasStore : Files → List ℕ → State → Type 0
HasStore files name held = HasTables held (bytes_in files name)

-- This database is found in the file, and is opened as a store with these tables. It can be one of the former version,
-- or a database without a table of records, which has no tables.
abbrev pub OpensStore : Files → List ℕ → Database → State → Type 0
OpensStore files name found held = IsFoundIn (alone (bytes_in files name)) found × HoldsTables found held

-- The file holds a database with all that was in this one, but for the records.
abbrev pub HasOthers : Files → List ℕ → Database → Type 0
HasOthers files name found = (left : Database) × HasDatabase left (bytes_in files name) × SparesOthers found left

-- A store is closed: its file is replaced, and each other one is as it was. If it is not closed, every file is as it
-- was.
abbrev pub KeepsFile : Files → List ℕ → Option Files → Result (Unit {0}) StoreError → Type 0
KeepsFile old name new (Ok done) = (bytes : List ℕ) × (new ≡ Some (map.insert old name bytes))
KeepsFile old name new (Err why) = IsResource why × (new ≡ Some old)

-- A store with these tables is visited, which makes others of them. If it is closed, the file has them.
pub record VisitsStore (Visited : State → State → Type 0) (name : List ℕ) (new : Option Files)
    (closed : Result (Unit {0}) StoreError) (before : State) : Type 0 where
  pub after : State
  pub visited : Visited before after
  pub kept : OnOk closed (IfSome new (λ files. HasStore files name after))

-- The database that is found in a file is opened as a store, visited and closed. Its tables are those that are found in
-- the file. If it is closed, the file has all that was in the database, but for the records.
pub record VisitsFile (Visited : State → State → Type 0) (old : Files) (name : List ℕ) (new : Option Files)
    (closed : Result (Unit {0}) StoreError) : Type 0 where
  pub file : KeepsFile old name new closed
  pub found : Database
  pub held : State
  pub opens : OpensStore old name found held
  pub visits : VisitsStore Visited name new closed held
  pub others : OnOk closed (IfSome new (λ files. HasOthers files name found))
  pub known : (before : State) → FindsTables before (bytes_in old name) → before ≡ held

-- Where the files are not known, only why a store may not be closed.
abbrev pub Visits : (State → State → Type 0) → Option Files → List ℕ → Option Files → Result (Unit {0}) StoreError
    → Type 0
Visits Visited None name new closed = (new ≡ None) × IfErr closed IsResource
Visits Visited (Some old) name new closed = VisitsFile Visited old name new closed

-- The store is not opened. Where the files are known, that is for damage of the database that is found in this one, for
-- memory, or the database refuses. If tables are found in it, it is not for damage.
abbrev pub RefusesVisit : Option Files → List ℕ → StoreError → Type 0
RefusesVisit None name why = IsReadRefusal why
RefusesVisit (Some old) name why = RefusesBytes (bytes_in old name) why
    × ((held : State) → FindsTables held (bytes_in old name) → IsResource why)
