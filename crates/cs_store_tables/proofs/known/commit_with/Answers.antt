-- `known::commit_with`: the clauses `sound` and `knows`.
use Rattle.std.proofs.Common.{ap}
use Rattle.sqlite.specs.Effect.{Database}
use Rattle.sqlite.specs.Held.{state}
use Rattle.cs_store_tables.specs.Laws.{was_clean}
use Rattle.cs_store_tables.specs.Store.{tables_in}
use Rattle.cs_store_tables.proofs.KnownLemmas.{knows_still}
use Rattle.cs_store_tables.proofs.StoreLemmas.{ended_store}
use Rattle.cs_store_tables.proofs.known.commit_with.Goals as goal

pub returns-in-Ok-clause-sound : goal.returns-in-Ok-clause-sound
returns-in-Ok-clause-sound g c clean =
    let old = state g.S.Store c.args.conn.now in
    let new = state g.S.Store c.commit.new.conn in
    ended_store c.commit.result old new (c.commit.ensures.committed clean) (c.commit.ensures.undone clean) (c.requires.sound (was_clean old new c.commit.ensures.survives clean))

pub returns-in-Ok-clause-knows : goal.returns-in-Ok-clause-knows
returns-in-Ok-clause-knows g c =
    let old = state g.S.Store c.args.conn.now in
    let new = state g.S.Store c.commit.new.conn in
    rw c.forget_key.ensures (knows_still old new c.args.known.now (was_clean old new c.commit.ensures.survives)
    (λ clean. ap (λ (db : Database). tables_in db) (c.in-Ok.ensures.committed clean).1.now_is) c.requires.knows)

pub returns-in-Err-clause-sound : goal.returns-in-Err-clause-sound
returns-in-Err-clause-sound g c clean =
    let old = state g.S.Store c.args.conn.now in
    let new = state g.S.Store c.commit.new.conn in
    ended_store c.commit.result old new (c.commit.ensures.committed clean) (c.commit.ensures.undone clean) (c.requires.sound (was_clean old new c.commit.ensures.survives clean))
