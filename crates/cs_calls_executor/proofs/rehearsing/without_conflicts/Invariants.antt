-- those so far are copied
use Rattle.std.proofs.Common.{◌≡◌, map, take}
use Rattle.cs_calls_executor.proofs.rehearsing.without_conflicts.Given as goal

abbrev pub invariant-loop-chosen : goal.invariant-loop-chosen
invariant-loop-chosen l = l.list.items ≡ map (λ c. c.choice) (take l.chosen-index l.choices)
