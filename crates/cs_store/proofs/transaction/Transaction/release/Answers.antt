-- `transaction::Transaction::release`: the invariants of `store`, and what it ensures.
use Rattle.std.proofs.Common.{subst, sym}
use Rattle.std.specs.Prelude.{IfSome}
use Rattle.sqlite.specs.Effect.{Database}
use Rattle.sqlite.specs.Held.{state}
use Rattle.sqlite.specs.State.{HasCleanDisk}
use Rattle.cs_store_sql.specs.Marks.{HasMark}
use Rattle.cs_store_tables.specs.Laws.{was_clean}
use Rattle.cs_store_tables.specs.Store.{IsKnown}
use Rattle.cs_store_tables.proofs.StoreLemmas.{back_store, dropped_sound}
use Rattle.cs_store.proofs.transaction.Transaction.release.Goals as goal

pub invariant_of-store-in-Err : goal.invariant_of-store-in-Err
invariant_of-store-in-Err g c =
    let old = state g.S.Store c.store.inside.conn in
    let new = state g.S.Store c.release.new.conn in
    let has : HasCleanDisk old → HasMark old = rw (c.store.view_is, c.self.view_is) c.requires in
    let survives = c.release.ensures.survives has in
    (dropped_sound old new survives (λ clean. c.in-Err.ensures.undone (has (was_clean old new survives clean)) clean) c.store.invariant.0, λ clean. tt)

pub invariant_of-store : goal.invariant_of-store
invariant_of-store g c =
    let old = state g.S.Store c.store.inside.conn in
    let new = state g.S.Store c.release.new.conn in
    let has : HasCleanDisk old → HasMark old = rw (c.store.view_is, c.self.view_is) c.requires in
    let survives = c.release.ensures.survives has in (
      λ clean.
          let was = was_clean old new survives clean in
          let mark = has was in
          let store = c.store.invariant.0 was in
          let shown = (c.in-Ok.ensures.released mark.0 mark.1 mark.2 clean).0 in
          back_store old new old.now shown (store.now shown.was_open) (store.others shown.was_open) store,
      λ clean.
          let was = was_clean old new survives clean in
          let mark = has was in
          let shown = (c.in-Ok.ensures.released mark.0 mark.1 mark.2 clean).0 in
          subst (λ (db : Database). IfSome c.store.inside.known (IsKnown db)) (sym shown.now_is) (c.store.invariant.1 was),
    )

pub returns-in-Err : goal.returns-in-Err
returns-in-Err g c =
    let old = state g.S.Store c.store.inside.conn in
    let new = state g.S.Store c.release.new.conn in
    let has : HasCleanDisk old → HasMark old = rw (c.store.view_is, c.self.view_is) c.requires in
    let survives = c.release.ensures.survives has in
    rw (← c.self.view_is, ← c.store.view_is) (record {
      released = λ before db is clean. tt;
      undone = λ clean. c.in-Err.ensures.undone (has (was_clean old new survives clean)) clean;
      refused = c.in-Err.ensures.refused;
      caused = λ clean. c.in-Err.ensures.caused (has (was_clean old new survives clean)) clean;
      survives = survives;
    })

pub returns : goal.returns
returns g c =
    let old = state g.S.Store c.store.inside.conn in
    let has : HasCleanDisk old → HasMark old = rw (c.store.view_is, c.self.view_is) c.requires in
    rw (← c.self.view_is, ← c.store.view_is) (record {
      released = c.in-Ok.ensures.released;
      undone = λ clean. tt;
      refused = tt;
      caused = λ clean. tt;
      survives = c.release.ensures.survives has;
    })
