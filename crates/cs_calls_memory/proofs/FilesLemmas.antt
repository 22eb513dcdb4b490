-- What files hold of a store.
use Rattle.std.proofs.Common.{◌≡◌, inl, inr, IsTrue, ap, sym, subst, ◌∙◌, refl, true}
use Rattle.sqlite_disk.specs.declared.Disk.{Ghosts}
use Rattle.sqlite_pool.specs.Pool.{state as pool_state}
use Rattle.sqlite_store.specs.declared.store.FileStore.{FileStore}
use Rattle.sqlite_store.specs.FileStore.{view}
use Rattle.sqlite_trees.specs.View.{IsClean, doubt}
use Rattle.sqlite_wal.specs.Recovery.{Image}
use Rattle.sqlite.specs.Files.{file_state}
use Rattle.sqlite.specs.State as sqlite
use Rattle.cs_value.specs.State.{State}
use Rattle.cs_store.specs.Crash.{LeavesOnly}
use Rattle.cs_store.specs.Opening.{OpensFiles}
use Rattle.cs_store.specs.Store.{tables_in}
use Rattle.cs_store.proofs.LeftLemmas.{left_opens}
use Rattle.cs_store.proofs.OpeningLemmas.{new_opens}
use Rattle.cs_calls_memory.specs.Hosting.{HoldsIn, IsOpenedIn, LastsAsShown, MemoryStore}

-- what is over a disk that never takes a wrong answer as true reads back what was written
pub clean_files : {D : Type 0} {g : Ghosts D} → ((disk : D) → g.is_clean disk ≡ true) → (it : FileStore D g) → IsClean (view it)
unfolding doubt pool_state
clean_files is_clean it = rw (is_clean _, is_clean _) refl

-- files are opened with the tables that they hold
holds_opens : (held : State) (image : Image) (new : sqlite.State) → HoldsIn held image → OpensFiles image new → tables_in new.now ≡ held
holds_opens held image new (inl left) opens = left_opens held image new left opens
holds_opens held image new (inr none) opens = new_opens image new none.0 opens ∙ sym none.1

-- and a crash leaves only these
pub shown_lasts : (image : Image) (store : MemoryStore) → OpensFiles image (file_state store)
    → (IsTrue (file_state store).is_open → LeavesOnly (λ left. left ≡ tables_in (file_state store).committed) (file_state store)) → LastsAsShown store
shown_lasts image store opens leaves =
    subst (λ (t : State). LeavesOnly (λ left. left ≡ t) (file_state store)) (ap tables_in opens.at_rest.committed) (leaves opens.at_rest.is_open)

pub opened_in : (image : Image) (store : MemoryStore) → OpensFiles image (file_state store)
    → (IsTrue (file_state store).is_open → LeavesOnly (λ left. left ≡ tables_in (file_state store).committed) (file_state store)) → IsOpenedIn image store
opened_in image store opens leaves = record {
  opens = opens;
  shows = λ held holds. holds_opens held image (file_state store) holds opens;
  lasts = shown_lasts image store opens leaves;
}
