-- `memory::Table::new`: the invariant of `result`.
use Rattle.cs_value.proofs.StateLemmas.{empty_table}
use Rattle.cs_rows.proofs.memory.Table.new.Goals as goal

pub invariant_of-result : goal.invariant_of-result
invariant_of-result c = rw c.new.ensures.empty (empty_table c.args.schema c.requires)
