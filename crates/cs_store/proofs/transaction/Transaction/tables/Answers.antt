-- `transaction::Transaction::tables`: what it ensures.
use Rattle.cs_store.proofs.transaction.Transaction.tables.Goals as goal

pub returns : goal.returns
returns g c = rw c.self.view_is at c.tables.ensures
