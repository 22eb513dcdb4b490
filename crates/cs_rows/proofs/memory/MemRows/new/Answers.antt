-- `memory::MemRows::new`: the invariant of `result`.
use Rattle.cs_value.proofs.StateLemmas.{empty_state}
use Rattle.cs_rows.proofs.memory.MemRows.new.Goals as goal

pub invariant_of-result : goal.invariant_of-result
invariant_of-result c = rw c.new.ensures.empty empty_state
