-- `store::Store::schema`: what it ensures.
use Rattle.cs_store_tables.proofs.FailureLemmas.{answered}
use Rattle.cs_store.proofs.store.Store.schema.Goals as goal

pub returns : goal.returns
returns g c =
    let e = rw c.self.view_is at c.find_schema.ensures in
    record {
      found = e.found;
      same = e.same;
      refused = e.refused;
      shut = e.shut;
      caused = e.caused;
      named = e.named;
      reads = λ clean is. answered c.find_schema.result _ e.named (e.reads clean) is;
      rests = e.rests;
      kept = e.kept;
    }
