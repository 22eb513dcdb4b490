-- A disk that never takes a wrong answer as true: what is over it reads back what was written.
use Rattle.std.proofs.Common.{◌≡◌, true, refl}
use Rattle.sqlite_disk.specs.declared.Disk.{Ghosts}
use Rattle.sqlite_pool.specs.Pool.{state as pool_state}
use Rattle.sqlite_store.specs.declared.store.FileStore.{FileStore}
use Rattle.sqlite_trees.specs.View.{doubt}
use Rattle.sqlite.specs.Files.{file_state}
use Rattle.sqlite.specs.Held.{Held}
use Rattle.sqlite.specs.State.{HasCleanDisk}
use Rattle.cs_store.specs.declared.opening.Unopened.{Unopened}
use Rattle.cs_store.specs.declared.opening.Unopened.TheVariants as unopened
use Rattle.cs_store.specs.Opening.{IsHonestRest}

module _ {D : Type 0} {g : Ghosts D} (is_clean : (disk : D) → g.is_clean disk ≡ true) where
  pub honest : (conn : Held (FileStore D g)) → HasCleanDisk (file_state conn)
  unfolding doubt pool_state
  honest conn = rw (is_clean _, is_clean _) refl

  pub honest_rest : (rest : Unopened D g) → IsHonestRest rest
  honest_rest (unopened.Files left) = tt
  honest_rest (unopened.Database conn) = honest conn
