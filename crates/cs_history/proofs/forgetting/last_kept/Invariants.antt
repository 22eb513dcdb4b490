-- `forgetting::last_kept`: the rows up to the key are kept.
use Rattle.std.proofs.Common.{◌≡◌, Ok}
use Rattle.sqlite.specs.Held.{state}
use Rattle.cs_value.specs.State.{rows_at}
use Rattle.cs_history.specs.Carrying.{Works}
use Rattle.cs_history.specs.Stored.{IsHistory}
use Rattle.cs_history.specs.declared.fault.HistoryFault.{HistoryFault}
use Rattle.cs_history.proofs.ForgetLemmas.{KeepsSoFar}
use Rattle.cs_history.proofs.forgetting.last_kept.Given as goal

abbrev pub invariant-loop-count : goal.invariant-loop-count
invariant-loop-count g l = Works {E = HistoryFault} (λ (x : Unit {0}) before after. (after ≡ before) × (IsHistory before l.name → KeepsSoFar l.fn.keep l.fn.bytes l.count l.room l.last (rows_at before l.name)))
    (state g.S.Store l.initial.transaction) (state g.S.Store l.transaction) (Ok (tt {0}))

abbrev pub decreases-loop-count : goal.decreases-loop-count
decreases-loop-count g l = l.count
