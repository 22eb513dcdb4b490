-- `adoption::write_version`: the clause `set_up`.
use Rattle.sqlite.specs.Held.{state}
use Rattle.cs_store_adoption.proofs.AdoptionLemmas.{writes_version}
use Rattle.cs_store_adoption.proofs.adoption.write_version.Goals as goal

pub returns-in-Ok-clause-set_up : goal.returns-in-Ok-clause-set_up
returns-in-Ok-clause-set_up g c clean =
    let before = c.put_record.ensures.was_clean clean in
    let needs = c.requires.records before in
    let set = c.in-Ok.ensures.set clean needs.0 in
    let held = writes_version (state g.S.Store c.args.conn.now).now (state g.S.Store c.put_record.new.conn).now needs.0 needs.1 set in
    record { on = c.in-Ok.ensures.goes_on clean needs.0 (c.requires.inside before).inside; holds = held.0; held = held.1; others = set.others }
