-- `transaction::Transaction::get`: what it ensures.
use Rattle.cs_store.proofs.transaction.Transaction.get.Goals as goal

pub returns : goal.returns
returns g c = rw c.self.view_is at c.get.ensures
