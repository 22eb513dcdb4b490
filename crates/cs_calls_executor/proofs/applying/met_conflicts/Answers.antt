-- `applying::met_conflicts`: the next conflict is read, or there is no memory for it.
use Rattle.std.proofs.Common.{◌≤◌, List, map, length, Ok, subst}
use Rattle.std.proofs.lemmas.List.{take_all}
use Rattle.std.proofs.lemmas.Result.{err_from_is_err_and}
use Rattle.sqlite.specs.Held.{state}
use Rattle.cs_apply_engine.specs.declared.conflict.Met.{Met}
use Rattle.cs_calls_conversions.specs.Conflicts.{met_by}
use Rattle.cs_calls_executor.specs.Answered.{Reads}
use Rattle.cs_calls_executor.proofs.ApplyLemmas.{failed_read, more_read, none_read, unkept_read}
use Rattle.cs_calls_executor.proofs.applying.met_conflicts.Goals as goal

pub loop-met-init : goal.loop-met-init
loop-met-init g c is_open = rw c.new-list.ensures.items (none_read _ (state g.S.Store c.args.transaction.now) is_open)

pub returns-in_err-met_conflict : goal.returns-in_err-met_conflict
returns-in_err-met_conflict g c is_open =
    let p = err_from_is_err_and c.from_residual.result c.from_residual.ensures.1 in
    rw (p.1, p.2) (failed_read met_by c.args.conflicts.now (state g.S.Store c.args.transaction.now) (state g.S.Store c.loop-met.transaction) (state g.S.Store c.met_conflict.new.transaction) c.loop-met.met-index c.met-item.result c.loop-met.list.items (c.loop-met.invariant is_open) c.in_err-met_conflict.field-0.0 c.in_err-met_conflict.ensures)

pub returns-in_err-push : goal.returns-in_err-push
returns-in_err-push g c is_open =
    let p = err_from_is_err_and c.from_residual-in_err-push.result c.from_residual-in_err-push.ensures.1 in
    rw (p.1, p.2) (unkept_read met_by c.args.conflicts.now (state g.S.Store c.args.transaction.now) (state g.S.Store c.loop-met.transaction) (state g.S.Store c.met_conflict.new.transaction) c.loop-met.met-index c.met-item.result c.loop-met.list.items (c.loop-met.invariant is_open) c.in_ok-met_conflict.field-0 c.in_ok-met_conflict.ensures)

pub loop-met-preserved : goal.loop-met-preserved
loop-met-preserved g c is_open =
    more_read met_by c.args.conflicts.now (state g.S.Store c.args.transaction.now) (state g.S.Store c.loop-met.transaction) (state g.S.Store c.met_conflict.new.transaction) c.loop-met.met-index c.met-item.result c.loop-met.list.items (c.loop-met.invariant is_open) c.in_ok-met_conflict.field-0 c.in_ok-met_conflict.ensures
    c.push.new.self.items c.loop-met-test.true c.met-item.is c.in_ok-push.ensures.items

pub returns : goal.returns
returns g c is_open =
    let conflicts = c.args.conflicts.now in
    let past : length conflicts ≤ c.loop-met.met-index = c.loop-met-test.false in
    rw (c.new.ensures) (subst (λ (l : List Met). Reads (λ tables. Ok (map (met_by tables) l)) (state g.S.Store c.args.transaction.now) (state g.S.Store c.loop-met.transaction) (Ok c.loop-met.list.items)) (take_all c.loop-met.met-index conflicts past) (c.loop-met.invariant is_open))
