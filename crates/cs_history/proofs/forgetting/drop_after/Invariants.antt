-- `forgetting::drop_after`: the rows up to the key, and all else, are as they were.
use Rattle.std.proofs.Common.{Ok}
use Rattle.sqlite.specs.Held.{state}
use Rattle.cs_history.specs.Carrying.{Works}
use Rattle.cs_history.specs.Moving.{DropsAfter}
use Rattle.cs_history.specs.Stored.{IsHistory}
use Rattle.cs_history.specs.declared.fault.HistoryFault.{HistoryFault}
use Rattle.cs_history.proofs.forgetting.drop_after.Given as goal

abbrev pub invariant-loop : goal.invariant-loop
invariant-loop g l = Works {E = HistoryFault} (λ (x : Unit {0}) before after. IsHistory before l.name → DropsAfter l.key l.name before after)
    (state g.S.Store l.initial.transaction) (state g.S.Store l.transaction) (Ok (tt {0}))
