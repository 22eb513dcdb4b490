-- `transaction::Transaction::add_table`: what it ensures.
use Rattle.cs_store.proofs.transaction.Transaction.add_table.Goals as goal

pub returns : goal.returns
returns g c =
    let e = rw c.self.view_is at (rw c.store.view_is at c.add_table.ensures) in
    record {
      declared = e.declared;
      refused = e.refused;
      caused = e.caused;
      named = e.named;
      leads = e.leads;
      kept = e.kept;
    }
