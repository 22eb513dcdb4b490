-- `acting::forget_undone`: other tables and the actions that are done are as they were.
use Rattle.std.proofs.Common.{Ok}
use Rattle.sqlite.specs.Held.{state}
use Rattle.cs_history.specs.Carrying.{Works}
use Rattle.cs_history.specs.Moving.{Forgotten}
use Rattle.cs_history.specs.Stored.{IsHistory}
use Rattle.cs_history.specs.declared.fault.HistoryFault.{HistoryFault}
use Rattle.cs_history.proofs.acting.forget_undone.Given as goal

abbrev pub invariant-loop : goal.invariant-loop
invariant-loop g l = Works {E = HistoryFault} (λ (x : Unit {0}) before after. IsHistory before l.name → Forgotten l.name before after)
    (state g.S.Store l.initial.transaction) (state g.S.Store l.transaction) (Ok (tt {0}))
