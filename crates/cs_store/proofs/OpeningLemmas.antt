-- Files that are opened as a store, or refused.
use Rattle.std.proofs.Common.{◌≡◌, ◌⊎◌, [], inl, inr, IsTrue, arith, refl, ap, sym, subst, ◌∙◌}
use Rattle.std.specs.FinMap as map
use Rattle.sqlite.specs.Effect.{Database}
use Rattle.sqlite.specs.State.{State, HasCleanDisk, Opens, IsLive, Survives}
use Rattle.sqlite.specs.Start.{FindsIn}
use Rattle.sqlite_disk.specs.declared.Disk.{Ghosts}
use Rattle.sqlite_store.specs.declared.store.FileStore.{FileStore}
use Rattle.sqlite.specs.Held.{Held, IsNew}
use Rattle.sqlite.specs.Files.{AreFoundIn, IsEmpty, file_state, over_files}
use Rattle.sqlite_wal.specs.Recovery.{Image}
use Rattle.cs_rows.specs.declared.fault.StoreError.{StoreError}
use Rattle.cs_rows.specs.declared.fault.StoreError.TheVariants.{DamagedStore}
use Rattle.cs_rows.specs.Faults.{IsCaused, IsResource}
use Rattle.cs_store_tables.specs.Failing.{AdoptFails}
use Rattle.cs_store_sql.specs.Records.{KeepsContent, LacksRecords}
use Rattle.cs_store_tables.specs.Store.{HoldsTables, IsDamaged, Adopts, tables_in}
use Rattle.cs_store_tables.specs.Crash.{MayLeave, LeavesTakenOver}
use Rattle.sqlite.proofs.ListingLemmas.{empty_is_sound}
use Rattle.cs_store_adoption.proofs.AdoptionLemmas.{empty_lacks, nothing_held, nothing_damaged}
use Rattle.cs_store.specs.Opening.{IsFoundIn, OpensFiles, RefusesFound}
use Rattle.cs_store.proofs.LeftLemmas.{listed_once}

-- a database over files that were opened is the one that they held
found_in : (image : Image) (found : State) → FindsIn image found → Opens found → IsLive found → IsTrue found.is_open → IsFoundIn image found.now
found_in image found finds opens live is_open = record {
  sound = (live is_open).0;
  holds = λ trees holds. ap (λ (db : Database). db.trees) opens.clean ∙ finds.holds trees holds;
  reads = subst (λ (db : Database). AreFoundIn image db.trees) (sym opens.clean) finds.reads;
}

-- so a store over it has the tables that they held
pub opens_files : (image : Image) (found new : State) → FindsIn image found → Opens found → IsLive found → Adopts found new → OpensFiles image new
opens_files image found new finds opens live adopts = record {
  db = found.now;
  found = found_in image found finds opens live adopts.was_open;
  holds = adopts.holds;
  held = adopts.held;
  others = adopts.others;
  at_rest = adopts.at_rest;
}

-- and one that is refused shows what they held
pub refuses_found : {D : Type 0} {g : Ghosts D} (image : Image) (found last : Held (FileStore D g)) (e : StoreError) → IsNew found → FindsIn image (file_state found) → Opens (file_state found)
    → IsLive (file_state found) → ((e ≡ DamagedStore) × IsDamaged (file_state found).now) ⊎ IsResource e → IsCaused (AdoptFails over_files found last) e
    → KeepsContent (file_state found) (file_state last) → Survives (file_state found) (file_state last) (MayLeave (HoldsTables (file_state found).now)) → LeavesTakenOver (file_state found) (file_state last)
    → HasCleanDisk (file_state last) → RefusesFound image e last
refuses_found image found last e new finds opens live why caused kept survives leaves clean = record {
  db = (file_state found).now;
  found = found_in image (file_state found) finds opens live opens.is_open;
  why = why;
  opened = found;
  shows = refl;
  fresh = (new, opens);
  since = survives;
  caused = caused;
  outside = kept.mode ∙ opens.autocommit;
  still = elim (survives.closes clean opens.is_open) [
    | inl is_open ↦ inl is_open
    | inr more ↦ inr (omega (arith, more))
  ];
  kept = λ is_open. (kept.now is_open, kept.committed is_open ∙ sym opens.clean);
  leaves = λ trees may. subst (λ (d : Database). (trees ≡ d.trees) ⊎ MayLeave (HoldsTables (file_state found).now) trees) (sym opens.clean) (leaves.opened opens.is_open clean trees may);
}

-- ---- empty files

-- the database of files without a byte declares nothing
blank_lacks : (image : Image) (db : Database) → image.db ≡ [] → IsFoundIn image db → LacksRecords db.schema
blank_lacks image db none found =
    let empty : IsEmpty db.trees = elim found.reads [
      | inl adopted ↦ absurd (let present = rw none at adopted.3.found.present in omega arith)
      | inr nothing ↦ nothing.1
    ] in
    empty_lacks db.schema (listed_once db.trees db.schema (record { tables = []; indexes = []; views = [] }) found.sound (empty_is_sound db.trees empty.1))

-- they become a store without tables
pub new_opens : (image : Image) (new : State) → image.db ≡ [] → OpensFiles image new → tables_in new.now ≡ map.empty
new_opens image new none it = nothing_held it.db (tables_in new.now) (blank_lacks image it.db none it.found) it.held

-- and are not refused for damage
pub new_refuses : {D : Type 0} {g : Ghosts D} (image : Image) (e : StoreError) (last : Held (FileStore D g)) → image.db ≡ [] → RefusesFound image e last → IsResource e
new_refuses image e last none it = nothing_damaged it.db e (blank_lacks image it.db none it.found) it.why
