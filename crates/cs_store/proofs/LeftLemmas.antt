-- What a crash left of a store is adopted with its tables.
use Rattle.std.proofs.Common.{◌≡◌, ◌⊎◌, inl, inr, IsTrue, refl, sym, subst, ◌∙◌}
use Rattle.std.proofs.Math.Logic.{∥∥₁_elim, ∥∥₁_map}
use Rattle.std.specs.Coded.{Coded-set}
use Rattle.sqlite_disk.specs.declared.Disk.{Ghosts}
use Rattle.sqlite_schema.specs.declared.schema.Schema.{Schema}
use Rattle.sqlite_catalog.specs.Listing.{IsSound as IsSoundIn}
use Rattle.sqlite_catalog.proofs.ReadLemmas.{reads, read_once}
use Rattle.sqlite_trees.specs.Tree.{Trees}
use Rattle.sqlite_trees.specs.Objects.{catalog_tree}
use Rattle.sqlite_wal.specs.Recovery.{Image}
use Rattle.sqlite.specs.Effect.{Database}
use Rattle.sqlite.specs.Files.{HoldsDatabase}
use Rattle.sqlite.specs.State.{State, HasCleanDisk}
use Rattle.sqlite.specs.Held.{AreDatabases, Held}
use Rattle.sqlite.proofs.Theorems.{opens_again}
use Rattle.sqlite_store.specs.declared.store.FileStore.{FileStore}
use Rattle.sqlite_store.specs.FileStore.{state as files_state, view, recovers}
use Rattle.cs_value.specs.State as tables
use Rattle.cs_rows.specs.declared.fault.StoreError.{StoreError}
use Rattle.cs_rows.specs.declared.fault.StoreError.TheVariants.{DamagedStore}
use Rattle.cs_rows.specs.Faults.{IsResource}
use Rattle.cs_store_sql.specs.Records.{HoldsRecords, records_in}
use Rattle.cs_store_encoding.specs.Stored.{version, Stores}
use Rattle.cs_store_tables.specs.Store.{HoldsTables, IsDamaged, Adopts, tables_in}
use Rattle.cs_store.specs.Opening.{IsLeftIn, IsFoundIn, OpensFiles, RefusesFound}
use Rattle.cs_store_tables.specs.Crash.{MayLeave, LeavesOnly, IsLeftOf}
use Rattle.cs_store_adoption.proofs.AdoptionLemmas.{nothing_held, vacant_holds, damaged_none}
use Rattle.cs_store_encoding.proofs.StateOf.{stored_once}

-- trees list one schema
pub listed_once : (trees : Trees) (s t : Schema) → IsSoundIn s trees → IsSoundIn t trees → s ≡ t
listed_once trees s t one other =
    let read = reads (trees catalog_tree) s one.lists in
    read_once _ s t read.tables read.indexes read.views (reads (trees catalog_tree) t other.lists)

-- the database has the records of the tables that are left
left_stored : (held : tables.State) (db : Database) → IsLeftOf held db → HoldsRecords db × Stores (records_in db) held
left_stored held db is =
    let same = listed_once db.trees is.left.schema db.schema is.left.store.records.sound is.sound in (
      subst (λ (s : Schema). HoldsRecords (record { schema = s; trees = db.trees })) same is.left.store.records,
      subst (λ (s : Schema). Stores (records_in (record { schema = s; trees = db.trees })) held) same
          (subst (Stores (records_in (record { schema = is.left.schema; trees = db.trees }))) is.left.tables is.left.store.stores),
    )

left_holds : (held : tables.State) (db : Database) → IsLeftOf held db → HoldsTables db held
left_holds held db is = let own = left_stored held db is in inr (own.0, (version, inl refl, own.1))

-- a database holds the tables of only one state
holds_once : (db : Database) (one other : tables.State) → HoldsTables db one → HoldsTables db other → one ≡ other
holds_once db one other (inl a) (inl b) = a.1 ∙ sym b.1
holds_once db one other (inl (inl nothing, e)) (inr b) = e ∙ sym (nothing_held db other nothing (inr b))
holds_once db one other (inl (inr vacant, e)) (inr b) = e ∙ sym (vacant_holds db other vacant.1 (inr b))
holds_once db one other (inr a) (inl (inl nothing, e)) = nothing_held db one nothing (inr a) ∙ sym e
holds_once db one other (inr a) (inl (inr vacant, e)) = vacant_holds db one vacant.1 (inr a) ∙ sym e
holds_once db one other (inr a) (inr b) = stored_once (records_in db) one other a.1.2 b.1.2

-- so it is adopted with these
pub held_adopts : (held : tables.State) (old new : State) → HoldsTables old.now held → Adopts old new → tables_in new.now ≡ held
held_adopts held old new is adopts = holds_once old.now (tables_in new.now) held adopts.held is

-- or refused for memory or by the database
pub held_refused : (held : tables.State) (db : Database) (e : StoreError) → HoldsTables db held
    → ((e ≡ DamagedStore) × IsDamaged db) ⊎ IsResource e → IsResource e
held_refused held db e is (inl damaged) = absurd (damaged_none db damaged.1 held is)
held_refused held db e is (inr resource) = resource

-- as what is left is
pub left_adopts : (held : tables.State) (old new : State) → IsLeftOf held old.now → Adopts old new → tables_in new.now ≡ held
left_adopts held old new is = held_adopts held old new (left_holds held old.now is)

pub left_refused : (held : tables.State) (db : Database) (e : StoreError) → IsLeftOf held db
    → ((e ≡ DamagedStore) × IsDamaged db) ⊎ IsResource e → IsResource e
left_refused held db e is = held_refused held db e (left_holds held db is)

-- a database that files held is what was left in them
found_left : (held : tables.State) (trees : Trees) (image : Image) (db : Database) → HoldsDatabase image trees → MayLeave (λ left. left ≡ held) trees → IsFoundIn image db → IsLeftOf held db
found_left held trees image db holds left found = record { sound = found.sound; left = subst (MayLeave (λ left. left ≡ held)) (sym (found.holds trees holds)) left }

-- so files that hold it are opened with its tables
pub left_opens : (held : tables.State) (image : Image) (new : State) → IsLeftIn held image → OpensFiles image new → tables_in new.now ≡ held
left_opens held image new left opens = ∥∥₁_elim left (Coded-set tables.state_code _ _) (λ it.
    holds_once opens.db (tables_in new.now) held opens.held (left_holds held opens.db (found_left held it.0 image opens.db it.1 it.2 opens.found)))

-- or refused for memory or by the database
pub left_refuses : {D : Type 0} {g : Ghosts D} (held : tables.State) (image : Image) (e : StoreError) (last : Held (FileStore D g)) → IsLeftIn held image → RefusesFound image e last → IsResource e
left_refuses held image e last left refuses = elim refuses.why [
  | inl damaged ↦ absurd (∥∥₁_elim left (λ x y. absurd x) (λ it. damaged_none refuses.db damaged.1 held (left_holds held refuses.db (found_left held it.0 image refuses.db it.1 it.2 refuses.found))))
  | inr resource ↦ resource
]

-- ---- files that a crash leaves

-- they hold the store, if a crash leaves nothing else of it
pub left_in : {D : Type 0} {g : Ghosts D} (held : tables.State) (s : State) (it : FileStore D g) → HasCleanDisk s → LeavesOnly (λ left. left ≡ held) s → ((trees : Trees) → recovers it trees → s.may_leave trees)
    → IsTrue (view it).is_numbered → AreDatabases (recovers it) → (image : Image) → (files_state it).may_leave image → IsLeftIn held image
left_in held s it clean leaves quiet numbered sound image may =
    ∥∥₁_map (opens_again it numbered sound image may) (λ found. (found.0, found.2, leaves clean found.0 (quiet found.0 found.1)))
