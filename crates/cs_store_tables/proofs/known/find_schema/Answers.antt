-- `known::find_schema`: what it ensures where the table is not looked up, and where there is none.
use Rattle.std.proofs.Common.{sym, ap, ◌∙◌}
use Rattle.std.specs.Option.{option_map}
use Rattle.std.proofs.lemmas.Result.{err_from_is_err_and}
use Rattle.cs_store_tables.proofs.known.find_schema.Goals as goal

pub returns-in_err-look_up : goal.returns-in_err-look_up
returns-in_err-look_up g c =
    let p = err_from_is_err_and c.from_residual.result c.from_residual.ensures.1 in
    let e = c.in_err-look_up.ensures in
    rw (p.1, p.2) (record {
      found = λ clean. tt;
      same = λ clean. tt;
      refused = e.refused;
      shut = e.shut;
      caused = e.caused;
      named = e.named;
      knows = e.knows;
      leads = λ clean. tt;
      reads = λ clean. tt;
      rests = e.rests;
      kept = e.kept;
    })

pub returns-in-None : goal.returns-in-None
returns-in-None g c =
    let e = c.in_ok-look_up.ensures in
    record {
      found = λ clean. sym (ap (option_map (λ t. t.1)) c.in-None.is) ∙ e.found clean;
      same = e.same;
      refused = λ clean. tt;
      shut = e.shut;
      caused = λ clean. tt;
      named = tt;
      knows = e.knows;
      leads = e.leads;
      reads = e.reads;
      rests = e.rests;
      kept = e.kept;
    }
