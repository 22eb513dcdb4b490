-- `store::closed_file_law`: what it ensures.
use Rattle.cs_store_memory.proofs.FoundLemmas.{has_finds}
use Rattle.cs_store_memory.proofs.store.closed_file_law.Goals as goal

pub returns : goal.returns
returns c = has_finds
