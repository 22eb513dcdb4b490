-- `known::count_rows`: what it ensures.
use Rattle.std.proofs.Common.{length, ◌∙◌, sym, ap}
use Rattle.std.specs.FinMap as map
use Rattle.std.specs.Option.{option_map}
use Rattle.std.proofs.lemmas.Result.{err_from_is_err_and}
use Rattle.cs_value.specs.State.{RowMap}
use Rattle.sqlite.specs.Held.{state}
use Rattle.cs_store_tables.specs.Laws.{keeps_then, leads_on_then, read_then, was_clean}
use Rattle.cs_store_tables.proofs.FailureLemmas.{so_caused}
use Rattle.cs_rows.proofs.MemoryLemmas.{no_values}
use Rattle.cs_store_tables.proofs.ReadLemmas.{no_rows_at}
use Rattle.cs_store_tables.proofs.known.count_rows.Goals as goal

pub returns-in-Ok-clause-kept : goal.returns-in-Ok-clause-kept
returns-in-Ok-clause-kept g c = keeps_then c.look_up.ensures.kept c.count_rows.ensures.kept

pub returns-in-Err-clause-caused : goal.returns-in-Err-clause-caused
returns-in-Err-clause-caused g c clean =
    let kept = c.look_up.ensures.kept in
    let then = c.count_rows.ensures.kept in
    so_caused _ _ c.in-Err.error (λ why fails. read_then (state g.S.Store c.args.conn.now) (state g.S.Store c.look_up.new.conn) (state g.S.Store c.count_rows.new.conn) why kept.crash
    (was_clean (state g.S.Store c.look_up.new.conn) (state g.S.Store c.count_rows.new.conn) then.crash clean) then.crash fails) (c.in-Err.ensures.caused (kept.sound c.requires.sound) clean)

pub returns-in-Ok-clause-leads : goal.returns-in-Ok-clause-leads
returns-in-Ok-clause-leads g c clean =
    let was = was_clean (state g.S.Store c.look_up.new.conn) (state g.S.Store c.count_rows.new.conn) c.count_rows.ensures.kept.crash clean in
    leads_on_then c.look_up.ensures.kept.crash (c.in_ok-look_up.ensures.leads was) (c.in-Ok.ensures.leads clean)

pub returns-in_err-look_up : goal.returns-in_err-look_up
returns-in_err-look_up g c =
    let p = err_from_is_err_and c.from_residual.result c.from_residual.ensures.1 in
    let e = c.in_err-look_up.ensures in
    rw (p.1, p.2) (record {
      counted = λ clean. tt;
      tells = λ clean. tt;
      same = λ clean. tt;
      refused = e.refused;
      shut = e.shut;
      caused = e.caused;
      named = e.named;
      knows = e.knows;
      leads = λ clean. tt;
      reads = λ clean. tt;
      rests = e.rests;
      kept = e.kept;
    })

pub returns-in-None : goal.returns-in-None
returns-in-None g c =
    let e = c.in_ok-look_up.ensures in
    record {
      counted = λ clean. sym (ap length no_values) ∙ ap (λ (r : RowMap). length (map.values r)) (sym (no_rows_at _ c.args.name.now (sym (e.found clean) ∙ ap (option_map (λ t. t.1)) c.in-None.is)));
      tells = e.found;
      same = e.same;
      refused = λ clean. tt;
      shut = e.shut;
      caused = λ clean. tt;
      named = tt;
      knows = e.knows;
      leads = e.leads;
      reads = e.reads;
      rests = e.rests;
      kept = e.kept;
    }

pub returns-in-Ok-clause-refused : goal.returns-in-Ok-clause-refused
returns-in-Ok-clause-refused g c clean = tt

pub returns-in-Ok-clause-caused : goal.returns-in-Ok-clause-caused
returns-in-Ok-clause-caused g c clean = tt

pub returns-in-Ok-clause-named : goal.returns-in-Ok-clause-named
returns-in-Ok-clause-named g c = tt

pub returns-in-Err-clause-counted : goal.returns-in-Err-clause-counted
returns-in-Err-clause-counted g c clean = tt

pub returns-in-Err-clause-tells : goal.returns-in-Err-clause-tells
returns-in-Err-clause-tells g c clean = tt

pub returns-in-Err-clause-same : goal.returns-in-Err-clause-same
returns-in-Err-clause-same g c clean = tt

pub returns-in-Err-clause-leads : goal.returns-in-Err-clause-leads
returns-in-Err-clause-leads g c clean = tt

pub returns-in-Err-clause-reads : goal.returns-in-Err-clause-reads
returns-in-Err-clause-reads g c clean = tt

pub returns-in-Err-clause-knows : goal.returns-in-Err-clause-knows
returns-in-Err-clause-knows g c clean = tt

pub returns-in-Err-clause-kept : goal.returns-in-Err-clause-kept
returns-in-Err-clause-kept g c = keeps_then c.look_up.ensures.kept c.count_rows.ensures.kept
