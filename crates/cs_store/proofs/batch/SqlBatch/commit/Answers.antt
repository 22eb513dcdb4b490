-- `batch::SqlBatch::commit`: the clauses `others`, `atomic`, `left` and `stands`.
use Rattle.sqlite.specs.Held.{state}
use Rattle.cs_store_tables.specs.Laws.{was_clean}
use Rattle.cs_store.proofs.CrashLemmas.{ended_atomic, ended_left, ended_others, leaves_commit, undone_stands}
use Rattle.cs_store.proofs.batch.SqlBatch.commit.Goals as goal

pub returns-clause-others : goal.returns-clause-others
returns-clause-others g c clean =
    let old = state g.S.Store c.store.inside.conn in
    let new = state g.S.Store c.commit_with.new.conn in
    rw (← c.store.view_is) (ended_others c.commit_with.result old new (c.store.invariant.0 (was_clean old new c.commit_with.ensures.survives clean)) (c.commit_with.ensures.committed clean))

pub returns-clause-atomic : goal.returns-clause-atomic
returns-clause-atomic g c =
    rw (← c.store.view_is) (ended_atomic g.S.Store g.met.S.Store.settled c.store.inside.conn c.store.invariant.0 (state g.S.Store c.commit_with.new.conn) c.commit_with.ensures.survives)

pub returns-clause-left : goal.returns-clause-left
returns-clause-left g c =
    rw (← c.store.view_is) (ended_left g.S.Store g.met.S.Store.settled c.store.inside.conn c.store.invariant.0 c.commit_with.result _ c.commit_with.new.conn c.commit_with.ensures.survives c.commit_with.ensures.committed)

pub returns-clause-stands : goal.returns-clause-stands
returns-clause-stands g c =
    rw (← c.store.view_is) (undone_stands g.S.Store g.met.S.Store.settled g.met.S.Store.stays c.store.inside.conn c.commit_with.new.conn
    (leaves_commit g.S.Store g.met.S.Store.settled c.store.inside.conn c.store.invariant.0) c.commit_with.result _ _
    (ended_atomic g.S.Store g.met.S.Store.settled c.store.inside.conn c.store.invariant.0 (state g.S.Store c.commit_with.new.conn) c.commit_with.ensures.survives) c.commit_with.ensures.undone)
