-- `store::Store::database_law`: what it ensures.
use Rattle.cs_store.proofs.store.Store.database_law.Goals as goal

pub returns : goal.returns
returns g c = rw (← c.self.view_is) (λ clean is_open. ((c.self.invariant.0 clean).now is_open).records.sound)
