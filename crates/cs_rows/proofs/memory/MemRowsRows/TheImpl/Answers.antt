-- `memory::MemRowsRows::TheImpl`: what it ensures.
use Rattle.cs_rows.proofs.memory.MemRowsRows.TheImpl.Goals as goal

-- rows in memory are honest
pub add-asks : goal.add-asks
add-asks c = c.requires tt

pub put-asks : goal.put-asks
put-asks c = c.requires tt
