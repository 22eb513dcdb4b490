-- those so far are the same
use Rattle.std.proofs.Common.{◌≡◌, map, take}
use Rattle.cs_calls_executor.proofs.rehearsing.are_repeated.Given as goal

abbrev pub invariant-loop-index : goal.invariant-loop-index
invariant-loop-index l = take l.index l.conflicts ≡ map (λ c. c.conflict) (take l.index l.choices)
