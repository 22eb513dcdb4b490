use Rattle.std.proofs.Common.{◌≡◌, map}
use Rattle.cs_rows.proofs.memory.Table.list.Given as goal

-- the rows so far are listed
abbrev pub invariant-loop-row : goal.invariant-loop-row
invariant-loop-row l = l.listed.items ≡ map (λ row. row.now) l.yielded
