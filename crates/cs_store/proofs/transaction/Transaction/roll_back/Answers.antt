-- `transaction::Transaction::roll_back`: the invariant of the store.
use Rattle.sqlite.specs.Held.{state}
use Rattle.cs_store_tables.proofs.StoreLemmas.{dropped_sound}
use Rattle.cs_store.proofs.transaction.Transaction.roll_back.Goals as goal

pub invariant_of-store : goal.invariant_of-store
invariant_of-store g c = (dropped_sound (state g.S.Store c.store.inside.conn) (state g.S.Store c.roll_back.new.conn) c.roll_back.ensures.survives c.roll_back.ensures.undone c.store.invariant.0, λ clean. tt)
