-- `transaction::Transaction::rows`: what it ensures.
use Rattle.cs_store.proofs.transaction.Transaction.rows.Goals as goal

pub returns : goal.returns
returns g c = rw c.self.view_is at c.rows.ensures
