-- The state that a store over a connection holds, as its records.
use Rattle.std.specs.Prelude.{◌≡◌, ◌⊎◌, ℕ, List, [], map as map_list, Vec, IsTrue, true, false}
use Rattle.std.specs.Prelude.{Option, None, Some, IfSome, option_map, Result, Ok, Err, IsErrAnd, string_bytes}
use Rattle.std.specs.List.{AllByRecursion}
use Rattle.std.specs.FinMap as map
use Rattle.std.specs.declared.alloc.Global.{Global}
use Rattle.std.specs.declared.string.String.{String}
use Rattle.cs_value.specs.declared.value.OwnedValue.{OwnedValue}
use Rattle.cs_value.specs.Spelling.{row_bytes}
use Rattle.cs_value.specs.State as tables
use Rattle.sqlite_trees.specs.declared.memory.MemStore.{MemStore}
use Rattle.sqlite.specs.Effect.{Database}
use Rattle.sqlite.specs.Held.{Held, state}
use Rattle.sqlite.specs.Steps.{over_memory}
use Rattle.sqlite.specs.State.{State, HasCleanDisk, Shows, KeepsCommit}
use Rattle.cs_rows.specs.declared.fault.StoreError.{StoreError}
use Rattle.cs_rows.specs.Faults.{IsResource}
use Rattle.cs_store_sql.specs.declared.records.Place.{Place}
use Rattle.cs_store_sql.specs.Records.{HoldsRecords, IsPlaced, DeclaresRecords, IsDeclaredOtherwise, LacksRecords, KeepsOthers, record_rows, records_in, GoesOn, KeepsContent, KeepsCrash}
use Rattle.cs_store_encoding.specs.Stored.{Stores, StoresInSome, state_of}
use Rattle.cs_rows.specs.Rows.{IsRowIn}

-- the state that the records of a database are of
abbrev pub tables_in : Database → tables.State
tables_in db = state_of (record_rows db)

-- the database has the table of records, and they are those of a state
pub record HoldsState (db : Database) : Type 0 where
  pub records : HoldsRecords db
  pub stores : Stores (records_in db) (tables_in db)

-- no record is there yet: nothing has the name of the table of records, or the table is empty
abbrev pub IsVacant : Database → Type 0
IsVacant db = LacksRecords db.schema ⊎ (HoldsRecords db × (record_rows db ≡ []))

-- the tables that a database holds: none where no record is there yet, else those that its records stand for, in this
-- version or in the former one
abbrev pub HoldsTables : Database → tables.State → Type 0
HoldsTables db held = (IsVacant db × (held ≡ map.empty)) ⊎ (HoldsRecords db × StoresInSome (records_in db) held)

-- the database holds no state, not even the empty one
abbrev pub HoldsNone : Database → Type 0
HoldsNone db = (held : tables.State) → ¬ HoldsTables db held

-- the table of records is declared otherwise, or its records are those of no state
abbrev pub IsDamaged : Database → Type 0
IsDamaged db = IsDeclaredOtherwise db.schema ⊎ (DeclaresRecords db.schema × HoldsNone db)

-- while the connection is open, it shows a state, and a state was committed last, which it shows outside a transaction;
-- all but the records is as it was committed
pub record IsStore (s : State) : Type 0 where
  pub open_inside : IsTrue s.in_transaction → IsTrue s.is_open
  pub settled : s.in_transaction ≡ false → IsTrue s.is_open → s.now ≡ s.committed
  pub now : IsTrue s.is_open → HoldsState s.now
  pub committed : IsTrue s.is_open → HoldsState s.committed
  pub others : IsTrue s.is_open → KeepsOthers s.committed s.now

-- it is a store, if the disk has returned what was written
abbrev pub IsSound : State → Type 0
IsSound s = HasCleanDisk s → IsStore s

-- what is known of a table: its name, its schema, and a key with the place of its row
abbrev pub KnownData : Type 0
KnownData = List ℕ × tables.SchemaData × Option (List ℕ × Place)

-- in this database the table has that schema, and the row of the key, if a key is known, is at that place
pub record IsKnown (db : Database) (known : KnownData) : Type 0 where
  pub schema : tables.schema_at (tables_in db) known.0 ≡ Some known.1
  pub placed : IfSome known.2 (λ sought. IsPlaced db known.0 sought.0 sought.1)

-- what is known is so of the database that is shown, if the disk has returned what was written
abbrev pub Knows : State → Option KnownData → Type 0
Knows s known = HasCleanDisk s → IfSome known (IsKnown s.now)

-- what is known of a table, without the key
abbrev pub without_key : Option KnownData → Option KnownData
without_key known = option_map (λ t. (t.0, t.1, None)) known

-- what a call that commits nothing keeps: what a crash leaves, what was committed last, and that this is a store;
-- outside a transaction, where what is shown was committed, all that is shown; it begins no transaction, and keeps the
-- marks of one that is still open
pub record KeepsStore (old new : State) : Type 0 where
  pub crash : KeepsCrash old new
  pub commit : HasCleanDisk new → KeepsCommit old new
  pub sound : IsSound old → IsSound new
  pub outside : HasCleanDisk new → old.in_transaction ≡ false → (IsTrue old.is_open → old.now ≡ old.committed)
      → KeepsContent old new
  pub inside : HasCleanDisk new → IsTrue new.in_transaction → IsTrue old.in_transaction
  pub marks : HasCleanDisk new → IsTrue new.in_transaction → IsTrue old.in_transaction → new.marks ≡ old.marks

-- a reader of what is stored gives it back, or is refused memory
abbrev pub Recovers : {X : Type 0} → Result X StoreError → X → Type 0
Recovers (Ok x) stored = x ≡ stored
Recovers (Err e) stored = IsResource e

-- where a failure of the disk has shut the connection, the call is refused, and for such a reason
abbrev pub RefusesShut : {X E : Type 0} → State → (E → Type 0) → Result X E → Type 0
RefusesShut s Why result = s.is_open ≡ false → IsErrAnd result Why

-- a transaction begins with what was committed
pub record Begins (old new : State) : Type 0 where
  pub autocommit : old.in_transaction ≡ false
  pub settled : old.now ≡ old.committed
  pub shown : Shows old new old.now old.committed true

-- it ends, and what it shows is committed
pub record Ends (old new : State) : Type 0 where
  pub inside : IsTrue old.in_transaction
  pub shown : Shows old new old.now old.now false

-- no transaction is open, and what is shown is committed
pub record IsAtRest (s : State) : Type 0 where
  pub is_open : IsTrue s.is_open
  pub autocommit : s.in_transaction ≡ false
  pub committed : s.committed ≡ s.now

-- a store is adopted: no transaction was open, and the tables that the database held are committed; the other tables
-- are as they were
pub record Adopts (old new : State) : Type 0 where
  pub was_clean : HasCleanDisk old
  pub outside : old.in_transaction ≡ false
  pub was_open : IsTrue old.is_open
  pub at_rest : IsAtRest new
  pub holds : HoldsState new.now
  pub held : HoldsTables old.now (tables_in new.now)
  pub others : KeepsOthers old.now new.now

-- a transaction is open
pub record IsInside (s : State) : Type 0 where
  pub is_open : IsTrue s.is_open
  pub inside : IsTrue s.in_transaction

-- inside a transaction, the tables that the database held are held as a store holds them
pub record SetsUp (old new : State) : Type 0 where
  pub on : GoesOn old new
  pub holds : HoldsState new.now
  pub held : HoldsTables old.now (tables_in new.now)
  pub others : KeepsOthers old.now new.now

-- the bytes are those of the rows in turn, each a row of a table of this schema
pub record AreStored (schema : tables.SchemaData) (stored : List (List ℕ)) (rows : List (List OwnedValue)) : Type 0 where
  pub spelled : stored ≡ map_list row_bytes rows
  pub each : AllByRecursion (IsRowIn schema) rows

-- a list that is read gives what is stored, or is refused memory
abbrev pub RecoversList : {X : Type 0} → Result (Vec X Global) StoreError → List X → Type 0
RecoversList (Ok list) stored = list.items ≡ stored
RecoversList (Err e) stored = IsResource e

-- a table without rows is added, of a name that no table had
pub record AddsTable (old : tables.State) (name : List ℕ) (schema : tables.SchemaData)
    (new : tables.State) : Type 0 where
  pub free : map.get old name ≡ None
  pub added : new ≡ tables.with_table old name schema

-- names that are read give what is stored, or memory is refused
abbrev pub AreNamed : Result (Vec (String Global) Global) StoreError → List (List ℕ) → Type 0
AreNamed (Ok names) stored = map_list string_bytes names.items ≡ stored
AreNamed (Err e) stored = IsResource e

-- a connection in memory returns what was written
abbrev pub MemoryIsHonest : Type 0
MemoryIsHonest = (conn : Held MemStore) → HasCleanDisk (state over_memory conn)
