-- `answering::check_at_rest`: the clauses `at_rest` and `kept`.
use Rattle.std.proofs.Common.{◌≡◌, rules}
use Rattle.sqlite.specs.Held.{state}
use Rattle.cs_shell_executor.proofs.TurnLemmas.{batch_refused, batch_undone, on_err}
use Rattle.cs_shell_executor.proofs.answering.check_at_rest.Goals as goal

pub returns-in_err-_batch-clause-kept : goal.returns-in_err-_batch-clause-kept
returns-in_err-_batch-clause-kept g c =
    let old = state g.S.Store c.args.store.now in
    let last = state g.S.Store c.begin.follows.lender-at-none in
    let refused = rw c.in_err-_batch.was at c.begin.follows.holds-at-none in
    on_err _ (batch_refused old last refused.0 refused.1)

pub returns-clause-at_rest : goal.returns-clause-at_rest
returns-clause-at_rest g c =
    let old = state g.S.Store c.args.store.now in
    let begun = state g.S.Store c.in_ok-_batch._batch.store.now in
    let last = state g.S.Store c.drop-batch.new.self.0 in
    let same : c.drop-batch.new.self.0 ≡ c.store-2-1.given.0 = search rules in
    rw (← same) (batch_undone old begun last c.in_ok-_batch.ensures.survives c.in_ok-_batch.ensures.begun c.drop-batch.ensures.survives c.drop-batch.ensures.undone)
