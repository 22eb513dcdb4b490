-- `closed::ClosedStore::of`: the files hold what lasts of the store.
use Rattle.std.proofs.Common.{refl}
use Rattle.cs_calls_memory.proofs.closed.ClosedStore.of.Goals as goal

pub returns-in-AtRest-clause-closed : goal.returns-in-AtRest-clause-closed
returns-in-AtRest-clause-closed c =
    rw c.in-AtRest.is (record { outside = λ inside. inside; holds = c.files_of.ensures; session = refl })
