-- What a close leaves of a store in a file in memory.
use Rattle.std.proofs.Common.{◌≡◌, [], IsTrue}
use Rattle.std.proofs.Math.Logic.{∥∥₁_map}
use Rattle.sqlite_disk.specs.declared.Disk.{Ghosts}
use Rattle.sqlite_disk.specs.declared.Files.{Files}
use Rattle.sqlite_wal.proofs.LogLemmas.{SeenMayStay}
use Rattle.sqlite_store.specs.declared.store.FileStore.{FileStore}
use Rattle.sqlite_store.specs.Laws.{stays_at}
use Rattle.sqlite.specs.Closing.{IsCopied}
use Rattle.sqlite.specs.Files.{file_state, image_of}
use Rattle.sqlite.specs.Held.{Held}
use Rattle.cs_store.specs.Crash.{LeavesOnly}
use Rattle.cs_store.specs.Store.{tables_in}
use Rattle.cs_store.specs.Opening.{IsLeftIn}

-- the database file without the log holds the tables of the last commit
pub left_alone : {D : Type 0} {g : Ghosts D} → SeenMayStay g → (store : Held (FileStore D g)) (files : Files D)
    → (IsTrue (file_state store).is_open → LeavesOnly (λ left. left ≡ tables_in (file_state store).committed) (file_state store))
    → IsCopied store files → IsLeftIn (tables_in (file_state store).committed) (record (image_of g files) { log = [] })
left_alone stays store files leaves copied =
    ∥∥₁_map copied.seen.alone (λ holds. ((file_state store).committed.trees, holds, leaves copied.was_open copied.was_clean _ (stays_at store.store stays copied.was_open)))
