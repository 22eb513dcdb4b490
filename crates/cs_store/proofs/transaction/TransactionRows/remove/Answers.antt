-- `transaction::TransactionRows::remove`: the clauses `caused` and `kept`.
use Rattle.sqlite.specs.Held.{state}
use Rattle.cs_store_tables.proofs.FailureLemmas.{caused_so, remove_fails}
use Rattle.cs_store.proofs.FailureLemmas.{accepted}
use Rattle.cs_store.proofs.transaction.TransactionRows.remove.Goals as goal

pub returns-clause-caused : goal.returns-clause-caused
returns-clause-caused g c clean =
    rw c.self.view_is at (rw c.store.view_is at (caused_so c.remove_row.result _ _ (remove_fails (state g.S.Store c.store.inside.conn) (state g.S.Store c.remove_row.new.conn) c.args.table.now c.args.key.now) (c.remove_row.ensures.caused clean)))

pub returns-clause-kept : goal.returns-clause-kept
returns-clause-kept g c = (rw c.self.view_is at (rw c.store.view_is at c.remove_row.ensures.kept), λ is clean. rw c.self.view_is at (rw c.store.view_is at (accepted c.remove_row.result _ (c.remove_row.ensures.leads clean) is)))
