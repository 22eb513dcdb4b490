-- `host::MemoryHost::to_bytes`: its clauses.
use Rattle.cs_calls_memory.proofs.host.MemoryHost.to_bytes.Goals as goal

pub returns-in-Ok-saved-clause-made : goal.returns-in-Ok-saved-clause-made
returns-in-Ok-saved-clause-made c held lasts =
    rw c.in-Ok-saved.is at c.save-closed.ensures.made held (c.in-Ok.ensures.closed.holds held (rw c.take.ensures lasts))

pub returns-in-Ok-saved-clause-kept : goal.returns-in-Ok-saved-clause-kept
returns-in-Ok-saved-clause-kept c held lasts = c.save-closed.ensures.kept held (c.in-Ok.ensures.closed.holds held (rw c.take.ensures lasts))

pub returns-in-Err-saved-clause-kept : goal.returns-in-Err-saved-clause-kept
returns-in-Err-saved-clause-kept c held lasts = c.save-closed.ensures.kept held (c.in-Ok.ensures.closed.holds held (rw c.take.ensures lasts))

pub returns-in-Err-saved-clause-refused : goal.returns-in-Err-saved-clause-refused
returns-in-Err-saved-clause-refused c held lasts =
    rw c.in-Err-saved.is at c.save-closed.ensures.refused held (c.in-Ok.ensures.closed.holds held (rw c.take.ensures lasts))
