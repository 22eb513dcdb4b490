-- `store::memory_files_law`: what it ensures.
use Rattle.std.proofs.Common.{refl}
use Rattle.cs_store_memory.proofs.HonestLemmas.{honest}
use Rattle.cs_store_memory.proofs.store.memory_files_law.Goals as goal

pub returns : goal.returns
returns c = honest (λ disk. refl) c.args.store.now
