-- `memory::MemRowsRows::put`: what `put_row` asks for.
use Rattle.cs_rows.proofs.memory.MemRowsRows.put.Goals as goal

pub put_row-requires : goal.put_row-requires
put_row-requires c = rw (c.in_ok-copy.ensures, c.in_ok-copy-2.ensures) c.requires
