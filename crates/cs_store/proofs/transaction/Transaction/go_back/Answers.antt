-- `transaction::Transaction::go_back`: the invariant of `store`, the clauses `undone`, `caused` and `survives`.
use Rattle.std.proofs.Common.{IsTrue}
use Rattle.sqlite.specs.Held.{state}
use Rattle.sqlite.specs.State.{HasCleanDisk}
use Rattle.cs_store_tables.specs.Laws.{was_clean}
use Rattle.cs_store.specs.Within.{HasBefore}
use Rattle.cs_store.proofs.WithinLemmas.{gone_sound}
use Rattle.cs_store.proofs.transaction.Transaction.go_back.Goals as goal

pub invariant_of-store : goal.invariant_of-store
invariant_of-store g c =
    let old = state g.S.Store c.store.inside.conn in
    let new = state g.S.Store c.go_back.new.conn in
    let has : HasCleanDisk old → IsTrue old.in_transaction → HasBefore old = rw (c.store.view_is, c.self.view_is) c.requires in
    (gone_sound old new c.go_back.result has c.go_back.ensures.survives c.go_back.ensures.back c.go_back.ensures.undone c.store.invariant.0, λ clean. tt)

pub returns-clause-undone : goal.returns-clause-undone
returns-clause-undone g c clean =
    let old = state g.S.Store c.store.inside.conn in
    let new = state g.S.Store c.go_back.new.conn in
    let has : HasCleanDisk old → IsTrue old.in_transaction → HasBefore old = rw (c.store.view_is, c.self.view_is) c.requires in
    let survives = c.go_back.ensures.survives (λ was inside. let it = has was inside in (it.0, it.1, it.4)) in
    rw c.self.view_is at (rw c.store.view_is at (c.go_back.ensures.undone (λ inside. let it = has (was_clean old new survives clean) inside in (it.0, it.1, it.4)) clean))

pub returns-clause-caused : goal.returns-clause-caused
returns-clause-caused g c clean =
    let old = state g.S.Store c.store.inside.conn in
    let new = state g.S.Store c.go_back.new.conn in
    let has : HasCleanDisk old → IsTrue old.in_transaction → HasBefore old = rw (c.store.view_is, c.self.view_is) c.requires in
    let survives = c.go_back.ensures.survives (λ was inside. let it = has was inside in (it.0, it.1, it.4)) in
    rw c.self.view_is at (rw c.store.view_is at (c.go_back.ensures.caused (λ inside. let it = has (was_clean old new survives clean) inside in (it.0, it.1, it.4)) clean))

pub returns-clause-survives : goal.returns-clause-survives
returns-clause-survives g c =
    let old = state g.S.Store c.store.inside.conn in
    let has : HasCleanDisk old → IsTrue old.in_transaction → HasBefore old = rw (c.store.view_is, c.self.view_is) c.requires in
    rw c.self.view_is at (rw c.store.view_is at (c.go_back.ensures.survives (λ clean inside. let it = has clean inside in (it.0, it.1, it.4))))
