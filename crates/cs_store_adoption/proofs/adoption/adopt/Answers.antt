-- `adoption::adopt`: the clauses `refused`, `caused` and `survives`.
use Rattle.std.proofs.Common.{Err}
use Rattle.sqlite.specs.Held.{state}
use Rattle.cs_store_tables.specs.Laws.{was_clean}
use Rattle.cs_store_tables.specs.Store.{IsDamaged}
use Rattle.cs_store_adoption.proofs.AdoptionLemmas.{adopted_survives, same_damage}
use Rattle.std.proofs.Common.{inr}
use Rattle.cs_store_tables.specs.Failing.{AdoptFails, SetUpFails}
use Rattle.cs_store_tables.proofs.FailureLemmas.{so_caused}
use Rattle.cs_store_adoption.proofs.AdoptionFailures.{set_up_from, set_up_to}
use Rattle.cs_store_adoption.proofs.adoption.adopt.Goals as goal

pub returns-in-Err-set_up-clause-refused : goal.returns-in-Err-set_up-clause-refused
returns-in-Err-set_up-clause-refused g c clean =
    let set_clean = was_clean (state g.S.Store c.set_up.new.conn) (state g.S.Store c.roll_back.new.conn) c.roll_back.ensures.survives clean in
    let begun_clean = was_clean (state g.S.Store c.begin.new.conn) (state g.S.Store c.set_up.new.conn) c.set_up.ensures.survives set_clean in
    let same = (c.in-Ok.ensures.begun begun_clean).1.now_is in
    same_damage {X = Unit {0}} (Err c.in-Err-set_up.error) IsDamaged (state g.S.Store c.args.conn.now).now (state g.S.Store c.begin.new.conn).now same (c.in-Err-set_up.ensures.refused set_clean)

pub returns-in-Ok-set_up-clause-survives : goal.returns-in-Ok-set_up-clause-survives
returns-in-Ok-set_up-clause-survives g c =
    adopted_survives (state g.S.Store c.args.conn.now) (state g.S.Store c.begin.new.conn) (state g.S.Store c.set_up.new.conn) (state g.S.Store c.commit.new.conn)
    c.begin.ensures.survives (λ clean. (c.in-Ok.ensures.begun clean).1.now_is) c.set_up.ensures.survives c.in-Ok-set_up.ensures.set_up c.commit.ensures.survives

pub returns-in-Err-set_up-clause-caused : goal.returns-in-Err-set_up-clause-caused
returns-in-Err-set_up-clause-caused g c clean =
    let old = c.args.conn.now in
    let set_clean = was_clean (state g.S.Store c.set_up.new.conn) (state g.S.Store c.roll_back.new.conn) c.roll_back.ensures.survives clean in
    let begun_clean = was_clean (state g.S.Store c.begin.new.conn) (state g.S.Store c.set_up.new.conn) c.set_up.ensures.survives set_clean in
    let same = (c.in-Ok.ensures.begun begun_clean).1.now_is in
    so_caused (SetUpFails g.S.Store c.begin.new.conn c.set_up.new.conn) (AdoptFails g.S.Store old c.roll_back.new.conn) c.in-Err-set_up.error
    (λ cause fails. inr (set_up_to g.S.Store old c.set_up.new.conn c.roll_back.new.conn c.roll_back.ensures.survives cause
    (set_up_from g.S.Store old c.begin.new.conn c.set_up.new.conn same c.begin.ensures.survives begun_clean c.set_up.ensures.survives cause fails)))
    (c.in-Err-set_up.ensures.caused set_clean)
