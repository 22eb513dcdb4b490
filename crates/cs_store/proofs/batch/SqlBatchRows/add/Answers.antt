-- `batch::SqlBatchRows::add`: what `add_row` asks for, the clauses `caused` and `kept`.
use Rattle.std.proofs.Common.{refl}
use Rattle.cs_store.proofs.FailureLemmas.{accepted}
use Rattle.cs_store.proofs.batch.SqlBatchRows.add.Goals as goal

pub add_row-requires-clause-fits : goal.add_row-requires-clause-fits
add_row-requires-clause-fits g c = rw c.store.view_is c.requires

pub returns-clause-caused : goal.returns-clause-caused
returns-clause-caused g c clean = rw c.store.view_is at (c.add_row.ensures.caused clean)

pub returns-clause-kept : goal.returns-clause-kept
returns-clause-kept g c = (refl, rw c.store.view_is at c.add_row.ensures.kept, λ is clean. rw c.store.view_is at (accepted c.add_row.result _ (c.add_row.ensures.leads clean) is))
