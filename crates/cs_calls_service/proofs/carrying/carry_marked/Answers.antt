-- `carrying::carry_marked`: the mark is not set, the call ends as its work does, or the mark is not dropped.
use Rattle.sqlite.specs.Held.{state}
use Rattle.cs_calls_executor.proofs.CallLemmas.{resource}
use Rattle.cs_calls_service.proofs.NotedLemmas.{marked_done, marked_refused, unmarked_noted, unreleased_done, unreleased_refused}
use Rattle.cs_calls_service.proofs.carrying.carry_marked.Goals as goal

pub returns-in-Err : goal.returns-in-Err
returns-in-Err g c inside =
    unmarked_noted c.args.call c.args.session (state g.S.Store c.args.transaction.now) inside (state g.S.Store c.mark.new.self) c.store_refusal.result (resource c.in-Err.error c.store_refusal.result c.store_refusal.ensures c.in-Err.ensures.refused) c.mark.ensures.survives c.in-Err.ensures.undone

pub returns-in-Ok-end_call : goal.returns-in-Ok-end_call
returns-in-Ok-end_call g c inside =
    marked_done c.args.call c.args.session (state g.S.Store c.args.transaction.now) inside (state g.S.Store c.mark.new.self) (state g.S.Store c.work.new.transaction) (state g.S.Store c.end_call.new.self) c.in_default.ensures.marked c.mark.ensures.survives c.end_call.ensures.survives
    c.in-Ok.noted c.keep.result c.keep.ensures c.in-Ok.ensures c.in-Ok-end_call.ensures.ends

pub returns-in-Err-end_call : goal.returns-in-Err-end_call
returns-in-Err-end_call g c inside =
    unreleased_done c.args.call c.args.session (state g.S.Store c.args.transaction.now) inside (state g.S.Store c.mark.new.self) (state g.S.Store c.work.new.transaction) (state g.S.Store c.end_call.new.self) c.in_default.ensures.marked c.mark.ensures.survives c.end_call.ensures.survives
    c.store_refusal-in-Err-end_call.result c.forget.result c.in-Ok.noted (resource c.in-Err-end_call.error c.store_refusal-in-Err-end_call.result c.store_refusal-in-Err-end_call.ensures c.in-Err-end_call.ensures.refused) c.forget.ensures c.in-Ok.ensures c.in-Err-end_call.ensures.undone

pub returns-in-Ok-end_call-2 : goal.returns-in-Ok-end_call-2
returns-in-Ok-end_call-2 g c inside =
    let end = c.end_call-in-Err-work in
    marked_refused c.args.call c.args.session (state g.S.Store c.args.transaction.now) inside (state g.S.Store c.mark.new.self) (state g.S.Store c.work.new.transaction) (state g.S.Store end.new.self) c.in_default.ensures.marked c.mark.ensures.survives end.ensures.survives
    (c.in-Err-work.why, c.in-Err-work.session) c.in-Err-work.ensures c.in-Ok-end_call-2.ensures.ends

pub returns-in-Err-end_call-2 : goal.returns-in-Err-end_call-2
returns-in-Err-end_call-2 g c inside =
    let end = c.end_call-in-Err-work in
    let it = c.in-Err-end_call-2 in
    let why = c.store_refusal-in-Err-end_call-2 in
    unreleased_refused c.args.call c.args.session (state g.S.Store c.args.transaction.now) inside (state g.S.Store c.mark.new.self) (state g.S.Store c.work.new.transaction) (state g.S.Store end.new.self) c.in_default.ensures.marked c.mark.ensures.survives end.ensures.survives
    why.result (c.in-Err-work.why, c.in-Err-work.session) (resource it.error why.result why.ensures it.ensures.refused) c.in-Err-work.ensures it.ensures.undone
