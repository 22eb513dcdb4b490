-- `store::Store::adopt`: the invariant of the store, the clauses `found`, `recovers` and `leaves`.
use Rattle.sqlite.specs.Held.{state}
use Rattle.cs_store.proofs.CrashLemmas.{taken_over}
use Rattle.cs_store_tables.proofs.StoreLemmas.{adopted_sound}
use Rattle.cs_store.proofs.LeftLemmas.{held_adopts, held_refused, left_adopts, left_refused}
use Rattle.cs_store.proofs.store.Store.adopt.Goals as goal

pub invariant_of-result : goal.invariant_of-result
invariant_of-result g c = (adopted_sound (state g.S.Store c.args.conn) (state g.S.Store c.adopt.new.conn) c.in-Ok.ensures.adopted, λ clean. tt)

pub returns-in-Ok-clause-found : goal.returns-in-Ok-clause-found
returns-in-Ok-clause-found g c held is clean = held_adopts held (state g.S.Store c.args.conn) (state g.S.Store c.adopt.new.conn) is (c.in-Ok.ensures.adopted clean)

pub returns-in-Err-clause-found : goal.returns-in-Err-clause-found
returns-in-Err-clause-found g c held is clean = held_refused held (state g.S.Store c.args.conn).now c.in-Err.error is (c.in-Err.ensures.refused clean)

pub returns-in-Ok-clause-recovers : goal.returns-in-Ok-clause-recovers
returns-in-Ok-clause-recovers g c held left clean = left_adopts held (state g.S.Store c.args.conn) (state g.S.Store c.adopt.new.conn) left (c.in-Ok.ensures.adopted clean)

pub returns-in-Err-clause-recovers : goal.returns-in-Err-clause-recovers
returns-in-Err-clause-recovers g c held left clean = left_refused held (state g.S.Store c.args.conn).now c.in-Err.error left (c.in-Err.ensures.refused clean)

pub returns-in-Ok-clause-leaves : goal.returns-in-Ok-clause-leaves
returns-in-Ok-clause-leaves g c = taken_over g.S.Store g.met.S.Store.settled c.args.conn c.adopt.new.conn c.adopt.ensures.survives c.adopt.ensures.unstarted

pub returns-in-Err-clause-leaves : goal.returns-in-Err-clause-leaves
returns-in-Err-clause-leaves g c = taken_over g.S.Store g.met.S.Store.settled c.args.conn c.adopt.new.conn c.adopt.ensures.survives c.adopt.ensures.unstarted
