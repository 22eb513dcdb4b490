-- `batch::SqlBatch::declare`: what it ensures.
use Rattle.std.proofs.Common.{refl}
use Rattle.cs_store.proofs.batch.SqlBatch.declare.Goals as goal

pub returns : goal.returns
returns g c =
    let e = rw c.store.view_is at c.add_table.ensures in
    record {
      declared = e.declared;
      refused = e.refused;
      caused = e.caused;
      named = e.named;
      same_reference = refl;
      leads = e.leads;
      kept = e.kept;
    }
