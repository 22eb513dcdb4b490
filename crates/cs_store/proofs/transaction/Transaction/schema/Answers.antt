-- `transaction::Transaction::schema`: what it ensures.
use Rattle.cs_store.proofs.transaction.Transaction.schema.Goals as goal

pub returns : goal.returns
returns g c = rw c.self.view_is at c.schema.ensures
