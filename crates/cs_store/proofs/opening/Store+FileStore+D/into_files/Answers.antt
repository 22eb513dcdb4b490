-- `opening::Store+FileStore+D::into_files`: the clauses `quiet`, `undone` and `left`.
use Rattle.std.proofs.Common.{◌≡◌, arith}
use Rattle.sqlite.specs.Files.{file_state}
use Rattle.sqlite.specs.State.{HasCleanDisk}
use Rattle.cs_store_tables.specs.Crash.{LeavesOnly}
use Rattle.cs_store.proofs.LeftLemmas.{left_in}
use Rattle.cs_store.proofs.opening.Store+FileStore+D.into_files.Goals as goal

pub returns : goal.returns
returns g c = record {
  quiet = rw c.into_connection.ensures at c.into_store.ensures.quiet;
  undone = rw c.into_connection.ensures at c.into_store.ensures.undone;
  left = λ held clean leaves image may.
      let conn = c.into_connection.result in
      let leaves_conn : LeavesOnly (λ left. left ≡ held) (file_state conn) = rw c.into_connection.ensures leaves in
      let quiet = c.into_store.ensures.quiet in
      let was : HasCleanDisk (file_state conn) = omega (arith, quiet.clean) in
      left_in held (file_state conn) c.into_store.result was leaves_conn quiet.outcomes (c.into_store.ensures.numbered clean) (c.into_store.ensures.sound clean) image may;
}
