-- What an apply commits whose handler chooses less.
use Rattle.std.proofs.Common.{ℕ, List, Result}
use Rattle.sqlite.specs.State.{State}
use Rattle.cs_value.specs.State as tables
use Rattle.cs_store.specs.Crash.{CanBegin, IsAtomic}
use Rattle.cs_store.specs.Transacts.{Transacts}
use Rattle.cs_store.proofs.CrashLemmas.{atomic_weaker}
use Rattle.cs_apply_conflict_kinds.specs.declared.conflict.Choice.{Choice}
use Rattle.cs_apply_conflict_kinds.specs.declared.conflict.Noop.{Noop}
use Rattle.cs_apply_engine.specs.declared.conflict.Conflict.{Conflict}
use Rattle.cs_apply_engine.specs.declared.running.Direction.{Direction}
use Rattle.cs_apply_engine.specs.Running.{Handler}
use Rattle.cs_apply.specs.Crash.{AppliesInto}
use Rattle.cs_apply.proofs.RevertLemmas.{with_weaker}

revert_atomic : (P Q : Handler) → ((k : Conflict) (c : Choice) → P k c → Q k c) → (noop : Noop) (file : List ℕ) (direction : Direction) (before : tables.State) (old new : State)
    → IsAtomic CanBegin (AppliesInto P noop file direction before) old new → IsAtomic CanBegin (AppliesInto Q noop file direction before) old new
revert_atomic P Q f noop file direction before old new =
    atomic_weaker CanBegin (AppliesInto P noop file direction before) (AppliesInto Q noop file direction before) old new
    (λ left may. record { met = may.met; skips = may.skips; writes = may.writes; passed = may.passed; applies = with_weaker P Q f noop file direction before may.met may.skips may.writes may.passed left may.applies })

pub revert_transacts : {X E : Type 0} (P Q : Handler) → ((k : Conflict) (c : Choice) → P k c → Q k c) → (noop : Noop) (file : List ℕ) (direction : Direction) (before : tables.State) (old new : State)
    (result : Result X E) → Transacts (AppliesInto P noop file direction before) old new result → Transacts (AppliesInto Q noop file direction before) old new result
revert_transacts P Q f noop file direction before old new result it = record {
  at_rest = it.at_rest;
  others = it.others;
  kept = it.kept;
  atomic = revert_atomic P Q f noop file direction before old new it.atomic;
  left = it.left;
  stands = it.stands;
}
