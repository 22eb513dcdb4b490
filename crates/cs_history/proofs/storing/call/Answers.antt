-- `storing::call`: the clause `transacts`. The transaction does not begin, the call is refused in it, it is committed, or
-- it is not.
use Rattle.sqlite.specs.Held.{state}
use Rattle.cs_store.specs.Store.{tables_in}
use Rattle.cs_store.proofs.TransactLemmas.{committed_transacts, dropped_transacts, unbegun_transacts, uncommitted_transacts}
use Rattle.cs_history.specs.Calls.{Does}
use Rattle.cs_history.proofs.storing.call.Goals as goal

pub returns-in-Err-clause-transacts : goal.returns-in-Err-clause-transacts
returns-in-Err-clause-transacts g c =
    let it = c.in-Err.ensures in
    unbegun_transacts g.S.Store g.met.S.Store.settled g.met.S.Store.stays c.args.store c.in-Err.store c.crash_law.ensures c.from.result (Does c.args.call c.args.name.now (tables_in (state g.S.Store c.args.store).now)) it.keeps_crash it.kept

pub returns-in-Ok-commit-clause-transacts : goal.returns-in-Ok-commit-clause-transacts
returns-in-Ok-commit-clause-transacts g c =
    let it = c.in-Ok.ensures in
    let one = c.in-Ok-call_in_transaction.ensures.done in
    let end = c.in-Ok-commit.ensures in
    committed_transacts g.S.Store g.met.S.Store.settled g.met.S.Store.stays c.args.store c.in-Ok-commit.store c.crash_law.ensures (state g.S.Store c.in-Ok.transaction) (state g.S.Store c.call_in_transaction.new.transaction) it.begun it.survives one.kept
    (Does c.args.call c.args.name.now) (λ clean. (one.made clean).1) end.atomic.survives (tt {0}) end.committed end.others end.left

pub returns-in-Err-commit-clause-transacts : goal.returns-in-Err-commit-clause-transacts
returns-in-Err-commit-clause-transacts g c =
    let it = c.in-Ok.ensures in
    let one = c.in-Ok-call_in_transaction.ensures.done in
    let end = c.in-Err-commit.ensures in
    uncommitted_transacts g.S.Store g.met.S.Store.settled g.met.S.Store.stays c.args.store c.in-Err-commit.store c.crash_law.ensures (state g.S.Store c.in-Ok.transaction) (state g.S.Store c.call_in_transaction.new.transaction) it.begun it.survives one.kept
    (Does c.args.call c.args.name.now) (λ clean. (one.made clean).1) end.unsure.survives c.from-in-Err-commit.result end.undone

pub returns-in-Err-call_in_transaction-clause-transacts : goal.returns-in-Err-call_in_transaction-clause-transacts
returns-in-Err-call_in_transaction-clause-transacts g c =
    let it = c.in-Ok.ensures in
    let one = c.in-Err-call_in_transaction.ensures.done in
    dropped_transacts g.S.Store g.met.S.Store.settled g.met.S.Store.stays c.args.store c.roll_back.result c.crash_law.ensures (state g.S.Store c.in-Ok.transaction) (state g.S.Store c.call_in_transaction.new.transaction) it.begun it.survives one.kept
    c.in-Err-call_in_transaction.fault (Does c.args.call c.args.name.now (tables_in (state g.S.Store c.args.store).now)) c.roll_back.ensures.survives c.roll_back.ensures.undone
