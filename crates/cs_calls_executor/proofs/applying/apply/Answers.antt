-- `applying::apply`: the mark is not set, the call ends as its work does, or the mark is not dropped.
use Rattle.std.proofs.Common.{Bool, subst}
use Rattle.sqlite.specs.Held.{state}
use Rattle.cs_store.specs.Within.{EndsCall}
use Rattle.cs_calls_executor.proofs.MarkLemmas.{marked_apply, unmarked_apply, unreleased_apply}
use Rattle.cs_calls_executor.proofs.CallLemmas.{resource}
use Rattle.cs_calls_executor.proofs.applying.apply.Goals as goal

pub returns-in-Err : goal.returns-in-Err
returns-in-Err g c inside =
    unmarked_apply c.args.call.now (state g.S.Store c.args.transaction.now) inside (state g.S.Store c.mark.new.self) c.store_refusal.result (resource c.in-Err.error c.store_refusal.result c.store_refusal.ensures c.in-Err.ensures.refused) c.mark.ensures.survives c.in-Err.ensures.undone

pub returns-in-Ok : goal.returns-in-Ok
returns-in-Ok g c inside =
    let mid = state g.S.Store c.work-result.new.transaction in
    let new = state g.S.Store c.end_call.new.self in
    marked_apply c.args.call.now (state g.S.Store c.args.transaction.now) inside (state g.S.Store c.mark.new.self) mid new c.in_default.ensures.marked c.mark.ensures.survives c.end_call.ensures.survives c.work-result.result c.work-result.ensures
    (λ before db marks clean. subst (λ (b : Bool). EndsCall b before db mid new) c.is_ok.ensures.value (c.in-Ok.ensures.ends before db marks clean))

pub returns-in-Err-end_call : goal.returns-in-Err-end_call
returns-in-Err-end_call g c inside =
    unreleased_apply c.args.call.now (state g.S.Store c.args.transaction.now) inside (state g.S.Store c.mark.new.self) (state g.S.Store c.work-result.new.transaction) (state g.S.Store c.end_call.new.self) c.in_default.ensures.marked c.mark.ensures.survives c.end_call.ensures.survives
    c.store_refusal-in-Err-end_call.result c.work-result.result (resource c.in-Err-end_call.error c.store_refusal-in-Err-end_call.result c.store_refusal-in-Err-end_call.ensures c.in-Err-end_call.ensures.refused) c.work-result.ensures c.in-Err-end_call.ensures.undone
