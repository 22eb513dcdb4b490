-- `store::Store+MemStore::new_memory`: the clauses `empty`, `at_rest` and `named`.
use Rattle.sqlite.specs.Held.{state}
use Rattle.sqlite.specs.Steps.{over_memory}
use Rattle.cs_store_adoption.proofs.AdoptionLemmas.{memory_honest, empty_lacks, nothing_held, nothing_damaged}
use Rattle.cs_store.proofs.store.Store+MemStore.new_memory.Goals as goal

pub returns-in-Ok-adopt-clause-empty : goal.returns-in-Ok-adopt-clause-empty
returns-in-Ok-adopt-clause-empty c = nothing_held (state over_memory c.in-Ok.conn).now _ (empty_lacks _ c.in-Ok.ensures.empty.2) (c.in-Ok-adopt.ensures.adopted (memory_honest c.in-Ok-adopt.store)).held

pub returns-in-Ok-adopt-clause-at_rest : goal.returns-in-Ok-adopt-clause-at_rest
returns-in-Ok-adopt-clause-at_rest c = (c.in-Ok-adopt.ensures.adopted (memory_honest c.in-Ok-adopt.store)).at_rest

pub returns-in-Err-adopt-clause-named : goal.returns-in-Err-adopt-clause-named
returns-in-Err-adopt-clause-named c = nothing_damaged (state over_memory c.in-Ok.conn).now c.in-Err-adopt.error (empty_lacks _ c.in-Ok.ensures.empty.2) (c.in-Err-adopt.ensures.refused (memory_honest c.in-Err-adopt._conn))
