-- `memory::MemRows::tables_law`: what it ensures.
use Rattle.cs_rows.proofs.memory.MemRows.tables_law.Goals as goal

pub returns : goal.returns
returns c = rw (← c.self.view_is) c.self.invariant
