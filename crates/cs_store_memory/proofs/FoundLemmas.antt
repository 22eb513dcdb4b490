-- The tables of a database that is found in bytes.
use Rattle.std.proofs.Common.{◌≡◌, ◌⊎◌, [], ℕ, List, true, false, inl, inr, refl, sym, subst, ◌∙◌}
use Rattle.std.proofs.Math.Logic.{∥∥₁_elim, ∥∥₁_map}
use Rattle.std.specs.FinMap as map
use Rattle.std.specs.Coded.{Coded-set}
use Rattle.sqlite_disk.specs.declared.Disk.{Ghosts}
use Rattle.sqlite_disk.specs.declared.Files.{Files}
use Rattle.sqlite_trees.specs.Tree.{Trees}
use Rattle.sqlite_wal.specs.Recovery.{Image}
use Rattle.sqlite.specs.Effect.{Database, IsDatabase}
use Rattle.sqlite.specs.Files.{image_of}
use Rattle.sqlite.specs.declared.error.Error.{Error}
use Rattle.sqlite.specs.State.{State, HasCleanDisk}
use Rattle.cs_value.specs.State as tables
use Rattle.cs_rows.specs.declared.fault.StoreError.{StoreError}
use Rattle.cs_rows.specs.declared.fault.StoreError.TheVariants.{DamagedStore}
use Rattle.cs_rows.specs.Faults.{IsResource, IsStoreFault, refused_for}
use Rattle.cs_store_sql.specs.Faults as records_faults
use Rattle.cs_store_sql.specs.declared.fault.RecordsError.{RecordsError}
use Rattle.cs_store_sql.specs.declared.fault.RecordsError.TheVariants as records
use Rattle.cs_store_sql.specs.Records.{records_in}
use Rattle.cs_store_tables.specs.Refusals.{cause_of, refusal_for, refusal_of}
use Rattle.cs_store_tables.specs.Store.{Adopts, HoldsTables, IsDamaged, tables_in}
use Rattle.cs_store.specs.Stored.{Stores, version}
use Rattle.cs_store.specs.declared.opening.Unopened.{Unopened}
use Rattle.cs_store.specs.declared.opening.Unopened.TheVariants as unopened
use Rattle.cs_store.specs.Opening.{IsFoundIn, IsHonestRest, OpensFiles, RefusesFiles}
use Rattle.cs_store.proofs.LeftLemmas.{listed_once, held_adopts, held_refused}
use Rattle.cs_store_memory.specs.Memory.{alone, FindsTables, HasDatabase, HasTables, RefusesBytes}

-- a database with the same trees holds the same tables
same_holds : (db found : Database) (held : tables.State) → IsDatabase db → IsDatabase found → found.trees ≡ db.trees → HoldsTables db held → HoldsTables found held
same_holds db found held sound other trees holds =
    let listed = subst (λ (t : Trees). IsDatabase (record { schema = found.schema; trees = t })) trees other in
    let schema = listed_once db.trees db.schema found.schema sound listed in
    let same : db ≡ found = λ i. record { schema = schema i; trees = (sym trees) i } in
    subst (λ (d : Database). HoldsTables d held) same holds

-- so does the one that is found in its bytes
found_holds : (db found : Database) (bytes : List ℕ) (held : tables.State) {P : Type 0} → ((x y : P) → x ≡ y) → HasDatabase db bytes → HoldsTables db held → IsFoundIn (alone bytes) found
    → (HoldsTables found held → P) → P
found_holds db found bytes held prop has holds is then =
    ∥∥₁_elim has.1 prop (λ own. then (same_holds db found held has.0 is.sound (is.holds db.trees own) holds))

-- an open store has the tables that are found in the bytes
pub found_opens : (held : tables.State) (bytes : List ℕ) (new : State) → HasCleanDisk new → ((bytes ≡ []) → held ≡ map.empty → tables_in new.now ≡ held) → FindsTables held bytes
    → OpensFiles (alone bytes) new → tables_in new.now ≡ held
found_opens held bytes new clean empty (inr none) opens = empty none.0 none.1
found_opens held bytes new clean empty (inl finds) opens = ∥∥₁_elim finds (Coded-set tables.state_code _ _) (λ it.
    found_holds it.0 opens.db bytes held (Coded-set tables.state_code _ _) it.1 it.2 opens.found (λ holds.
    held_adopts held was new holds (record {
      was_clean = clean;
      outside = refl;
      was_open = refl;
      at_rest = opens.at_rest;
      holds = opens.holds;
      held = opens.held;
      others = opens.others;
    })))
  where
    -- a connection that shows the database that was found
    was : State
    was = record new { now = opens.db; is_open = true; in_transaction = false }

-- damage is neither out of memory nor a fault of the database
no_fault : IsStoreFault DamagedStore → ⊥
no_fault fault = elim fault [ ]

no_resource : (e : StoreError) → e ≡ DamagedStore → IsResource e → ⊥
no_resource e damaged (inl memory) = let same = sym damaged ∙ memory in cc
no_resource e damaged (inr fault) = no_fault (subst IsStoreFault damaged fault)

-- bytes in which tables are found are refused only for memory or by the database
pub found_refused : (held : tables.State) (bytes : List ℕ) (e : StoreError) → (bytes ≡ [] → IsResource e) → FindsTables held bytes → RefusesBytes bytes e → IsResource e
found_refused held bytes e empty (inr none) refuses = empty none.0
found_refused held bytes e empty (inl finds) (inr resource) = resource
found_refused held bytes e empty (inl finds) (inl damaged) =
    absurd (∥∥₁_elim finds (λ x y. absurd x) (λ it.
    found_holds it.0 damaged.1.0 bytes held (λ x y. absurd x) it.1 it.2 damaged.1.1 (λ holds.
    no_resource e damaged.0 (held_refused held damaged.1.0 e holds (inl (damaged.0, damaged.1.2))))))

-- ---- what an open of files refuses

-- an error of the database is one
error_resource : (error : Error) → IsResource (refusal_for error)
error_resource error = of (records_faults.refusal_of error)
  where
    of : (e : RecordsError) → IsResource (refusal_of e)
    of records.NoMemory = inl refl
    of (records.Database error) = inr (refused_for (cause_of error))

-- files in memory are refused as their bytes are
pub refuses_bytes : {D : Type 0} {g : Ghosts D} (files : Files D) (bytes : List ℕ) (e : StoreError) (left : Unopened D g) → image_of g files ≡ alone bytes → IsHonestRest left → RefusesFiles files e left → RefusesBytes bytes e
refuses_bytes files bytes e (unopened.Files left) same honest refuses = inr (subst IsResource (sym refuses.is) (error_resource refuses.error))
refuses_bytes files bytes e (unopened.Database conn) same honest refuses =
    let found = refuses honest in
    elim found.why [
      | inl damaged ↦ inl (damaged.0, (found.db, subst (λ (image : Image). IsFoundIn image found.db) same found.found, damaged.1))
      | inr resource ↦ inr resource
    ]

-- a store that a close left is found with its tables
pub has_finds : (held : tables.State) (bytes : List ℕ) → HasTables held bytes → FindsTables held bytes
has_finds held bytes (inr none) = inr none
has_finds held bytes (inl left) = inl (∥∥₁_map left (λ it. (
  record { schema = it.2.schema; trees = it.0 },
  (it.2.store.records.sound, ∣ it.1 ∣₁),
  inr (it.2.store.records, (version, inl refl, subst (Stores (records_in (record { schema = it.2.schema; trees = it.0 }))) it.2.tables it.2.store.stores)),
)))
