-- `laws::memory_law`: what it ensures.
use Rattle.cs_store_adoption.proofs.AdoptionLemmas.{memory_honest}
use Rattle.cs_store.proofs.laws.memory_law.Goals as goal

pub returns : goal.returns
returns c = memory_honest
