-- How the files of a database are opened as a store, or refused.
use Rattle.std.specs.Prelude.{◌≡◌, ◌⊎◌, ◌≤◌, [], false, IsTrue, Option, None, Some, Result, Ok, Err}
use Rattle.sqlite_disk.specs.declared.Disk.{Ghosts}
use Rattle.sqlite_disk.specs.declared.Files.{Files}
use Rattle.sqlite_trees.specs.Tree.{Trees}
use Rattle.sqlite_wal.specs.Recovery.{Image}
use Rattle.sqlite.specs.Effect.{Database, IsDatabase}
use Rattle.sqlite.specs.declared.error.Error.{Error}
use Rattle.sqlite.specs.declared.error.Error.TheVariants.{SqliteFailure}
use Rattle.sqlite.specs.declared.error.ErrorCode.TheVariants as code
use Rattle.sqlite.specs.declared.file.Leftover.{Leftover}
use Rattle.sqlite.specs.Files.{HoldsDatabase, AreFoundIn, IsCleanLeft, FailsToOpenFiles, LeavesFiles, image_of, file_state, over_files}
use Rattle.sqlite.specs.Held.{Held, IsNew}
use Rattle.sqlite_store.specs.declared.store.FileStore.{FileStore}
use Rattle.sqlite.specs.State.{State, HasCleanDisk, Opens, Survives}
use Rattle.cs_value.specs.State as tables
use Rattle.cs_rows.specs.declared.fault.StoreError.{StoreError}
use Rattle.cs_rows.specs.declared.fault.StoreError.TheVariants.{DamagedStore}
use Rattle.cs_rows.specs.Faults.{IsCaused, IsResource}
use Rattle.cs_store_tables.specs.Failing.{AdoptFails}
use Rattle.cs_store_sql.specs.Records.{KeepsOthers}
use Rattle.cs_store.specs.declared.opening.Unopened.{Unopened}
use Rattle.cs_store.specs.declared.opening.Unopened.TheVariants as unopened
use Rattle.cs_store_tables.specs.Refusals.{refusal_for}
use Rattle.cs_store_tables.specs.Crash.{MayLeave}
use Rattle.cs_store_tables.specs.Store.{HoldsState, HoldsTables, IsAtRest, IsDamaged, tables_in}

-- the contents of files hold a database that is what a crash left of these tables
abbrev pub IsLeftIn : tables.State → Image → Type 0
IsLeftIn held image = ∥ ((trees : Trees) × HoldsDatabase image trees × MayLeave (λ left. left ≡ held) trees) ∥₁

-- the database is the one that the files held
pub record IsFoundIn (image : Image) (db : Database) : Type 0 where
  pub sound : IsDatabase db
  pub holds : (trees : Trees) → HoldsDatabase image trees → db.trees ≡ trees
  pub reads : AreFoundIn image db.trees

-- Files are opened as a store: they held a database, and the store has its tables. The other tables of the database are
-- as they were.
pub record OpensFiles (image : Image) (new : State) : Type 0 where
  pub db : Database
  pub found : IsFoundIn image db
  pub holds : HoldsState new.now
  pub held : HoldsTables db (tables_in new.now)
  pub others : KeepsOthers db new.now
  pub at_rest : IsAtRest new

-- Files held a database that is refused: it is damaged, memory ran out, or it is not adopted for the cause that the error
-- has, since it was opened. The connection shows it as it was found, unless a failure of the disk, which is counted, has shut it. No transaction
-- is open, and a crash leaves that database or a store with its tables.
pub record RefusesFound {D : Type 0} {g : Ghosts D} (image : Image) (e : StoreError) (last : Held (FileStore D g)) : Type 0 where
  pub db : Database
  pub found : IsFoundIn image db
  pub why : ((e ≡ DamagedStore) × IsDamaged db) ⊎ IsResource e
  pub opened : Held (FileStore D g)
  pub shows : (file_state opened).now ≡ db
  pub fresh : IsNew opened × Opens (file_state opened)
  pub since : Survives (file_state opened) (file_state last) (MayLeave (HoldsTables db))
  pub caused : IsCaused (AdoptFails over_files opened last) e
  pub outside : (file_state last).in_transaction ≡ false
  pub still : IsTrue (file_state last).is_open ⊎ (1 ≤ (file_state last).faults)
  pub kept : IsTrue (file_state last).is_open → ((file_state last).now ≡ db) × ((file_state last).committed ≡ db)
  pub leaves : (trees : Trees) → (file_state last).may_leave trees → (trees ≡ db.trees) ⊎ MayLeave (HoldsTables db) trees

-- Files are not opened as a database. The error has its cause in the contents of the files, in a failed call or in memory.
-- The next opening of what is left finds the same database, or none where there was none.
pub record IsUnopened {D : Type 0} {g : Ghosts D} (files : Files D) (e : StoreError) (left : Leftover D g) : Type 0 where
  pub error : Error
  pub is : e ≡ refusal_for error
  pub cause : IsCleanLeft left → FailsToOpenFiles files left error
  pub unharmed : IsCleanLeft left → LeavesFiles files left

-- files are refused: they are not opened as a database, or the database in them is refused
abbrev pub RefusesFiles : {D : Type 0} {g : Ghosts D} → Files D → StoreError → Unopened D g → Type 0
RefusesFiles files e (unopened.Files left) = IsUnopened files e left
RefusesFiles {g = g} files e (unopened.Database conn) = HasCleanDisk (file_state conn) → RefusesFound (image_of g files) e conn

-- the error is one of a path: its files cannot be opened, or are open already, or memory ran out
abbrev pub IsPathError : Error → Type 0
IsPathError error =
    (error ≡ SqliteFailure code.CannotOpen) ⊎ ((error ≡ SqliteFailure code.OutOfMemory) ⊎ (error ≡ SqliteFailure code.DatabaseBusy))

-- a path is refused: its files are not opened, or files that were opened, and were such ones then, are refused
abbrev pub RefusesPath : {D : Type 0} {g : Ghosts D} → (Files D → Type 0) → Image → StoreError → Option (Unopened D g) → Type 0
RefusesPath Were image e None = (error : Error) × (e ≡ refusal_for error) × IsPathError error
RefusesPath {D = D} Were image e (Some (unopened.Files left)) = (files : Files D) × Were files × IsUnopened files e left
RefusesPath Were image e (Some (unopened.Database conn)) = HasCleanDisk (file_state conn) → RefusesFound image e conn

-- what is left of a database has returned what was written
abbrev pub IsHonestRest : {D : Type 0} {g : Ghosts D} → Unopened D g → Type 0
IsHonestRest (unopened.Files left) = Unit {0}
IsHonestRest (unopened.Database conn) = HasCleanDisk (file_state conn)

abbrev pub IsHonestLeft : {D : Type 0} {g : Ghosts D} → Option (Unopened D g) → Type 0
IsHonestLeft None = Unit {0}
IsHonestLeft (Some rest) = IsHonestRest rest

-- What was left of the files of a path was dropped. Where they hold a store with some tables, and where the database file
-- is empty, the reason is memory or the database.
pub record IsDropped {D : Type 0} (g : Ghosts D) (Were : Files D → Type 0) (image : Image) (e : StoreError) : Type 0 where
  pub left : Option (Unopened D g)
  pub refuses : RefusesPath Were image e left
  pub recovers : (held : tables.State) → IsLeftIn held image → IsHonestLeft left → IsResource e
  pub new : image.db ≡ [] → IsHonestLeft left → IsResource e

-- a path is opened as a store, or refused so
abbrev pub RefusesDropped : {D : Type 0} {g : Ghosts D} → Result (Held (FileStore D g)) StoreError → (Files D → Type 0) → Image → Type 0
RefusesDropped (Ok store) Were image = Unit {0}
RefusesDropped {g = g} (Err e) Were image = IsDropped g Were image e
