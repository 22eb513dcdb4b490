-- `adoption::check_store`: the clauses `refused` and `caused`.
use Rattle.sqlite.specs.Held.{state}
use Rattle.cs_store_tables.specs.Laws.{was_clean}
use Rattle.cs_store_tables.specs.Store.{HoldsNone}
use Rattle.cs_store_adoption.proofs.AdoptionLemmas.{same_damage}
use Rattle.std.proofs.Common.{sym, subst}
use Rattle.cs_rows.specs.Faults.{IsCaused}
use Rattle.cs_store_tables.specs.Failing.{SetUpFails}
use Rattle.cs_store_tables.proofs.FailureLemmas.{caused_so}
use Rattle.cs_store_adoption.proofs.AdoptionFailures.{read_refused, set_up_from}
use Rattle.cs_store_adoption.proofs.adoption.check_store.Goals as goal

pub returns-in-Ok-clause-refused : goal.returns-in-Ok-clause-refused
returns-in-Ok-clause-refused g c clean =
    let read_clean = was_clean (state g.S.Store c.list_records.new.conn) (state g.S.Store c.check_listed.new.conn) c.check_listed.ensures.survives clean in
    same_damage c.check_listed.result HoldsNone _ _ (c.in-Ok.ensures.reads read_clean).0.now_is (c.check_listed.ensures.refused clean)

pub returns-in-Ok-clause-caused : goal.returns-in-Ok-clause-caused
returns-in-Ok-clause-caused g c clean =
    let read_clean = was_clean (state g.S.Store c.list_records.new.conn) (state g.S.Store c.check_listed.new.conn) c.check_listed.ensures.survives clean in
    caused_so c.check_listed.result (SetUpFails g.S.Store c.list_records.new.conn c.check_listed.new.conn) (SetUpFails g.S.Store c.args.conn.now c.check_listed.new.conn)
    (set_up_from g.S.Store c.args.conn.now c.list_records.new.conn c.check_listed.new.conn (c.in-Ok.ensures.reads read_clean).0.now_is c.list_records.ensures.keeps_crash read_clean c.check_listed.ensures.survives)
    (c.check_listed.ensures.caused clean)

pub returns-in-Err-clause-caused : goal.returns-in-Err-clause-caused
returns-in-Err-clause-caused g c clean =
    let declared = c.requires.declared (was_clean (state g.S.Store c.args.conn.now) (state g.S.Store c.list_records.new.conn) c.list_records.ensures.keeps_crash clean) in
    subst (IsCaused (SetUpFails g.S.Store c.args.conn.now c.list_records.new.conn)) (sym c.refused.ensures.is)
    (read_refused g.S.Store c.args.conn.now c.list_records.new.conn c.in-Err.error (c.in-Err.ensures.failed clean (λ live. declared.0)))
