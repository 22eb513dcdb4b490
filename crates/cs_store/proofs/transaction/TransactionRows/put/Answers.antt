-- `transaction::TransactionRows::put`: what `put_row` asks for, the clauses `caused` and `kept`.
use Rattle.sqlite.specs.Held.{state}
use Rattle.cs_store_tables.proofs.FailureLemmas.{caused_so, put_fails}
use Rattle.cs_store.proofs.FailureLemmas.{accepted}
use Rattle.cs_store.proofs.transaction.TransactionRows.put.Goals as goal

pub put_row-requires-clause-fits : goal.put_row-requires-clause-fits
put_row-requires-clause-fits g c = rw (c.store.view_is, c.self.view_is) c.requires

pub returns-clause-caused : goal.returns-clause-caused
returns-clause-caused g c clean =
    rw c.self.view_is at (rw c.store.view_is at (caused_so c.put_row.result _ _ (put_fails (state g.S.Store c.store.inside.conn) (state g.S.Store c.put_row.new.conn) c.args.table.now c.args.key.now c.args.row.now) (c.put_row.ensures.caused clean)))

pub returns-clause-kept : goal.returns-clause-kept
returns-clause-kept g c = (rw c.self.view_is at (rw c.store.view_is at c.put_row.ensures.kept), λ is clean. rw c.self.view_is at (rw c.store.view_is at (accepted c.put_row.result _ (c.put_row.ensures.leads clean) is)))
