-- `transaction::TransactionRows::list`: the clauses `caused` and `kept`.
use Rattle.sqlite.specs.Held.{state}
use Rattle.cs_store_tables.specs.Failing.{Writes}
use Rattle.cs_store_tables.proofs.FailureLemmas.{caused_so, read_fails}
use Rattle.cs_store_tables.specs.Laws.{leads_so}
use Rattle.cs_store.proofs.FailureLemmas.{accepted}
use Rattle.cs_store.proofs.transaction.TransactionRows.list.Goals as goal

pub returns-clause-caused : goal.returns-clause-caused
returns-clause-caused g c clean =
    rw c.self.view_is at (rw c.store.view_is at (caused_so c.list_rows.result _ _ (read_fails (Writes (λ held write. ⊥)) (state g.S.Store c.store.inside.conn) (state g.S.Store c.list_rows.new.conn)) (c.list_rows.ensures.caused clean)))

pub returns-clause-kept : goal.returns-clause-kept
returns-clause-kept g c = (rw c.self.view_is at (rw c.store.view_is at c.list_rows.ensures.kept), λ is clean. rw c.self.view_is at (rw c.store.view_is at (leads_so (λ held statement. ⊥) (Writes (λ held write. ⊥)) (λ held statement none. absurd none) (accepted c.list_rows.result _ (c.list_rows.ensures.leads clean) is))))
