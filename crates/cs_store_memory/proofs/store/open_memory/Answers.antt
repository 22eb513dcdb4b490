-- `store::open_memory`: its clauses.
use Rattle.std.proofs.Common.{refl, inr}
use Rattle.std.specs.FinMap as map
use Rattle.std.proofs.lemmas.Result.{IfOk-weaker}
use Rattle.cs_store_memory.proofs.store.open_memory.Goals as goal

pub returns-clause-empty : goal.returns-clause-empty
returns-clause-empty c = c.open_file.ensures.found map.empty (inr (c.new.ensures.empty, refl))

pub returns-clause-at_rest : goal.returns-clause-at_rest
returns-clause-at_rest c = IfOk-weaker c.open_file.result _ _ (λ store opens. opens.at_rest) c.open_file.ensures.opened

pub returns-clause-named : goal.returns-clause-named
returns-clause-named c = c.open_file.ensures.undamaged map.empty (inr (c.new.ensures.empty, refl))
