-- `store::Store::tables_law`: what it ensures.
use Rattle.cs_store.proofs.store.Store.tables_law.Goals as goal

pub returns : goal.returns
returns g c = rw (← c.self.view_is) (λ clean is_open. ((c.self.invariant.0 clean).now is_open).stores.is_state)
