-- `watching::watch`: the tables so far are attached, but for histories, and the store is as it was.
use Rattle.std.proofs.Common.{◌≡◌, map, take, string_bytes}
use Rattle.sqlite.specs.Held.{state}
use Rattle.sqlite.specs.State.{HasCleanDisk}
use Rattle.cs_store.specs.Store.{KeepsStore, tables_in}
use Rattle.cs_history.proofs.WatchLemmas.{WatchesNames}
use Rattle.cs_history.proofs.watching.watch.Given as goal

abbrev pub invariant-loop-table : goal.invariant-loop-table
invariant-loop-table g l = record {
  kept : KeepsStore (state g.S.Store l.initial.store) (state g.S.Store l.store);
  same : HasCleanDisk (state g.S.Store l.store) → (state g.S.Store l.store).now ≡ (state g.S.Store l.initial.store).now;
  watches : HasCleanDisk (state g.S.Store l.store)
      → WatchesNames (tables_in (state g.S.Store l.initial.store).now) (map string_bytes (take l.table-index l.table-items)) l.session;
}
