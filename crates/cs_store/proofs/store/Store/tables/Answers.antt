-- `store::Store::tables`: the clause `reads`.
use Rattle.cs_store_tables.proofs.FailureLemmas.{answered}
use Rattle.cs_store.proofs.store.Store.tables.Goals as goal

pub returns-clause-reads : goal.returns-clause-reads
returns-clause-reads g c clean is = rw c.self.view_is at (answered c.list_tables.result _ c.list_tables.ensures.named (c.list_tables.ensures.reads clean) is)
