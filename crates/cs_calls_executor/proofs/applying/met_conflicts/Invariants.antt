use Rattle.std.proofs.Common.{map, take, Ok}
use Rattle.sqlite.specs.Held.{state}
use Rattle.cs_calls_conversions.specs.Conflicts.{met_by}
use Rattle.cs_calls_executor.specs.Answered.{IsOpen, Reads}
use Rattle.cs_calls_executor.proofs.applying.met_conflicts.Given as goal

-- those of the conflicts so far were read
abbrev pub invariant-loop-met : goal.invariant-loop-met
invariant-loop-met g l =
    IsOpen (state g.S.Store l.initial.transaction)
    → Reads (λ tables. Ok (map (met_by tables) (take l.met-index l.conflicts))) (state g.S.Store l.initial.transaction) (state g.S.Store l.transaction) (Ok l.list.items)
