-- `store::Store::into_transaction`: what it ensures if the transaction begins.
use Rattle.cs_store.proofs.CrashLemmas.{begun_left}
use Rattle.cs_store.proofs.store.Store.into_transaction.Goals as goal

pub returns-in-Ok : goal.returns-in-Ok
returns-in-Ok g c =
    rw (← c.store.view_is) (record {
      begun = c.in-Ok.ensures.begun;
      survives = c.begin_with.ensures.survives;
      leaves = begun_left g.S.Store g.met.S.Store.settled c.store.inside.conn c.store.invariant.0 c.begin_with.new.conn c.begin_with.ensures.survives c.in-Ok.ensures.begun;
      refused = tt;
      caused = tt;
      kept = tt;
      keeps_crash = tt;
    })
