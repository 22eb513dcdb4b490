use Rattle.std.proofs.Common.{◌≡◌, length, map, take, Ok}
use Rattle.sqlite.specs.Held.{state}
use Rattle.cs_calls_executor.specs.Answered.{IsOpen, Reads}
use Rattle.cs_calls_executor.specs.Applying.{found_by}
use Rattle.cs_calls_executor.proofs.rehearsing.found_conflicts.Given as goal

-- those of the conflicts so far were read
abbrev pub invariant-loop-found : goal.invariant-loop-found
invariant-loop-found g l = record {
  read : IsOpen (state g.S.Store l.initial.transaction)
      → Reads (λ tables. Ok (map (found_by tables) (take l.found-index l.conflicts))) (state g.S.Store l.initial.transaction) (state g.S.Store l.transaction) (Ok l.list.items);
  counted : length l.list.items ≡ length (take l.found-index l.conflicts);
}
