-- What a store shows, what it reports of its disk, and what a call makes of it.
use Rattle.std.specs.Prelude.{◌≡◌, ◌⊎◌, ◌≤◌, Bool, true, false, IsTrue}
use Rattle.sqlite_disk.specs.Disk.{MoreFaults}
use Rattle.sqlite_trees.specs.View.{doubt}
use Rattle.sqlite.specs.State as sqlite
use Rattle.sqlite.specs.State.{HasCleanDisk}
use Rattle.sqlite.specs.Effect.{Database, IsDatabase}
use Rattle.cs_value.specs.State.{State}
use Rattle.cs_store_sql.specs.Records.{KeepsOthers}
use Rattle.cs_store_tables.specs.Store.{IsAtRest, tables_in}

-- a store shows these tables while its connection is open, whatever batch is; one whose connection a failure of the
-- disk has shut shows none, and any are said to be shown
abbrev pub Shows : sqlite.State → State → Type 0
Shows store tables = IsTrue store.is_open → tables_in store.now ≡ tables

-- while its connection is open no batch is, and what it shows is committed
abbrev pub IsSettled : sqlite.State → Type 0
IsSettled store = IsTrue store.is_open → IsAtRest store

-- no failure of the disk is forgotten, and only one that was counted shuts the connection
pub record TellsFailures (old new : sqlite.State) : Type 0 where
  pub clean : doubt old.is_clean ≤ doubt new.is_clean
  pub counts : old.faults ≤ new.faults
  pub closes : HasCleanDisk new → IsTrue old.is_open → IsTrue new.is_open ⊎ MoreFaults old.faults new.faults

-- All but the records of a database is kept: nothing was done, or one call after another was. Each of them found a
-- database, and keeps all of it but the records.
pub data SparesOthers (old : Database) : Database → Type 0 where
  by_nothing : SparesOthers old old
  by_each : (mid new : Database) → SparesOthers old mid → IsDatabase mid → KeepsOthers mid new → SparesOthers old new

-- a store that is open was open before, and all but the records is kept in its database
pub record SparesStore (old new : sqlite.State) : Type 0 where
  pub was_open : IsTrue new.is_open → IsTrue old.is_open
  pub others : IsTrue new.is_open → SparesOthers old.now new.now

-- ---- what a call makes of a store

-- a store is settled with these tables: while its connection is open, no batch is, and these are committed. If a
-- failure of the disk has shut its connection, any tables will do
abbrev pub Stands : sqlite.State → State → Type 0
Stands store tables = IsTrue store.is_open → IsAtRest store × (tables_in store.now ≡ tables)

-- what is known of a store and its tables: if it is settled, that it is with them, and otherwise that it shows them
abbrev pub Known : Bool → sqlite.State → State → Type 0
Known true store tables = Stands store tables
Known false store tables = Shows store tables

-- what is known of a store with some tables before is known of it with others after, and of both this holds, if the
-- disk has returned what was written; all but the records is kept in the database
pub record TurnsBetween (old new : sqlite.State) (Before After : State → Type 0)
    (Holds : State → State → Type 0) : Type 0 where
  pub disk : TellsFailures old new
  pub done : HasCleanDisk new → (before : State) → Before before → (after : State) × After after × Holds before after
  pub others : HasCleanDisk new → (before : State) → Before before → SparesStore old new

-- a store that was settled with some tables is settled with others
abbrev pub Turns : sqlite.State → sqlite.State → (State → State → Type 0) → Type 0
Turns old new Holds = TurnsBetween old new (Stands old) (Stands new) Holds

-- the tables are the same
abbrev pub AreSame : State → State → Type 0
AreSame before after = after ≡ before

-- the tables were read, and this holds of them
abbrev pub Reads : sqlite.State → sqlite.State → (State → Type 0) → Type 0
Reads old new Holds = Turns old new (λ before after. (after ≡ before) × Holds before)
