-- `transaction::Transaction::commit`: the clauses `atomic`, `left`, `unsure` and `stands`.
use Rattle.sqlite.specs.Held.{state}
use Rattle.cs_store.proofs.CrashLemmas.{ended_atomic, ended_left, leaves_commit, undone_stands}
use Rattle.cs_store.proofs.transaction.Transaction.commit.Goals as goal

pub returns-in-Ok-clause-atomic : goal.returns-in-Ok-clause-atomic
returns-in-Ok-clause-atomic g c =
    rw (← c.self.view_is, ← c.store.view_is) (ended_atomic g.S.Store g.met.S.Store.settled c.store.inside.conn c.store.invariant.0 (state g.S.Store c.commit_with.new.conn) c.commit_with.ensures.survives)

pub returns-in-Ok-clause-left : goal.returns-in-Ok-clause-left
returns-in-Ok-clause-left g c =
    let left = ended_left g.S.Store g.met.S.Store.settled c.store.inside.conn c.store.invariant.0 c.commit_with.result _ c.commit_with.new.conn c.commit_with.ensures.survives c.commit_with.ensures.committed in
    rw (← c.self.view_is, ← c.store.view_is) (rw c.in-Ok.is at left)

pub returns-in-Err-clause-unsure : goal.returns-in-Err-clause-unsure
returns-in-Err-clause-unsure g c =
    rw (← c.self.view_is, ← c.store.view_is) (ended_atomic g.S.Store g.met.S.Store.settled c.store.inside.conn c.store.invariant.0 (state g.S.Store c.commit_with.new.conn) c.commit_with.ensures.survives)

pub returns-in-Err-clause-stands : goal.returns-in-Err-clause-stands
returns-in-Err-clause-stands g c =
    let stands = undone_stands g.S.Store g.met.S.Store.settled g.met.S.Store.stays c.store.inside.conn c.commit_with.new.conn
    (leaves_commit g.S.Store g.met.S.Store.settled c.store.inside.conn c.store.invariant.0) c.commit_with.result _ _
    (ended_atomic g.S.Store g.met.S.Store.settled c.store.inside.conn c.store.invariant.0 (state g.S.Store c.commit_with.new.conn) c.commit_with.ensures.survives) c.commit_with.ensures.undone in
    rw (← c.self.view_is, ← c.store.view_is) (rw c.in-Err.is at stands)
