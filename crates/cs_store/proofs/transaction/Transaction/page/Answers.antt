-- `transaction::Transaction::page`: what it ensures.
use Rattle.cs_store.proofs.transaction.Transaction.page.Goals as goal

pub returns : goal.returns
returns g c = rw c.self.view_is at c.page.ensures
