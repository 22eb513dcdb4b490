-- `transaction::Transaction::mark`: the invariant of `store`.
use Rattle.sqlite.specs.Held.{state}
use Rattle.cs_store_tables.proofs.StoreLemmas.{dropped_sound}
use Rattle.cs_store.proofs.transaction.Transaction.mark.Goals as goal

pub invariant_of-store-in-Err : goal.invariant_of-store-in-Err
invariant_of-store-in-Err g c = (dropped_sound (state g.S.Store c.store.inside.conn) (state g.S.Store c.mark.new.conn) c.mark.ensures.survives c.in-Err.ensures.undone c.store.invariant.0, λ clean. tt)
