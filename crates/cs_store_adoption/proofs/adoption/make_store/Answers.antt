-- `adoption::make_store`: the clauses `set_up` and `caused`.
use Rattle.sqlite.specs.Held.{state}
use Rattle.cs_store_tables.specs.Laws.{was_clean}
use Rattle.cs_store_adoption.proofs.AdoptionLemmas.{made_then}
use Rattle.cs_store_tables.proofs.WriteLemmas.{on_ok_then}
use Rattle.std.proofs.Common.{inr, sym, subst}
use Rattle.cs_rows.specs.Faults.{IsCaused}
use Rattle.cs_store_tables.specs.Failing.{HasMade, SetUpFails}
use Rattle.cs_store_adoption.proofs.AdoptionFailures.{making_refused, version_refused}
use Rattle.cs_store_adoption.proofs.adoption.make_store.Goals as goal

pub returns-in-Ok-clause-set_up : goal.returns-in-Ok-clause-set_up
returns-in-Ok-clause-set_up g c clean =
    let made_clean = was_clean (state g.S.Store c.make_table.new.conn) (state g.S.Store c.write_version.new.conn) c.write_version.ensures.survives clean in
    let made = c.in-Ok.ensures.made made_clean c.requires.lacks in
    on_ok_then c.write_version.result _ _ (λ set. made_then (state g.S.Store c.args.conn.now) (state g.S.Store c.make_table.new.conn) (state g.S.Store c.write_version.new.conn) c.requires.lacks
    (c.in-Ok.ensures.goes_on made_clean) (c.in-Ok.ensures.others made_clean) made.0.sound made.1 set)
    (c.write_version.ensures.set_up clean)

pub returns-in-Err-clause-caused : goal.returns-in-Err-clause-caused
returns-in-Err-clause-caused g c clean =
    let old = state g.S.Store c.args.conn.now in
    let inside = c.requires.inside (was_clean old (state g.S.Store c.make_table.new.conn) c.make_table.ensures.survives clean) in
    subst (IsCaused (SetUpFails g.S.Store c.args.conn.now c.make_table.new.conn)) (sym c.refused.ensures.is)
    (making_refused g.S.Store c.args.conn.now c.make_table.new.conn c.requires.lacks inside.inside c.make_table.ensures.survives c.in-Err.error (c.in-Err.ensures.failed clean))

pub returns-in-Ok-clause-caused : goal.returns-in-Ok-clause-caused
returns-in-Ok-clause-caused g c clean =
    let old = state g.S.Store c.args.conn.now in
    let mid = state g.S.Store c.make_table.new.conn in
    let made_clean = was_clean mid (state g.S.Store c.write_version.new.conn) c.write_version.ensures.survives clean in
    let made = c.in-Ok.ensures.made made_clean c.requires.lacks in
    let made_in : HasMade old.now mid.now = record { lacked = c.requires.lacks; holds = made.0; empty = made.1; others = c.in-Ok.ensures.others made_clean } in
    version_refused g.S.Store c.args.conn.now c.write_version.new.conn c.make_table.new.conn c.write_version.result
    (record { inside = (c.in-Ok.ensures.goes_on made_clean).mode; shows = (made.0, inr made_in); crash = c.make_table.ensures.survives }) c.write_version.ensures.survives (c.write_version.ensures.caused clean)
