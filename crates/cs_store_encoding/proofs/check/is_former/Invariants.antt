use Rattle.std.proofs.Common.{◌≡◌, ℕ, ◌<◌, get_or, false}
use Rattle.cs_value.specs.State.{is_marked}
use Rattle.cs_store_encoding.proofs.check.is_former.Given as goal

-- the columns so far refuse NULL only where they are of the key
abbrev pub invariant-loop-column : goal.invariant-loop-column
invariant-loop-column l = (k : ℕ) → k < l.column → get_or l.schema.refuses k false ≡ is_marked (get_or l.schema.flags k 0)
