-- The numbers so far are copied.
use Rattle.std.proofs.Common.{◌≡◌, take}
use Rattle.cs_changegroup.proofs.table.copy_chains.Given as goal

abbrev pub invariant-loop-index : goal.invariant-loop-index
invariant-loop-index l = l.copy.numbers ≡ take l.index l.keys.numbers
