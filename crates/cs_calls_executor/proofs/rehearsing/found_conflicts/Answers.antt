-- `rehearsing::found_conflicts`: the next conflict is read, or there is no memory for it.
use Rattle.std.proofs.Common.{◌≡◌, ◌≤◌, List, map, length, Ok, refl, ap, subst, ◌∙◌}
use Rattle.std.proofs.lemmas.List.{take_all}
use Rattle.std.proofs.lemmas.Result.{err_from_is_err_and}
use Rattle.sqlite.specs.Held.{state}
use Rattle.cs_apply_rehearsal.specs.declared.found.Found.{Found}
use Rattle.cs_calls_executor.specs.Answered.{Reads}
use Rattle.cs_calls_executor.specs.Applying.{found_by}
use Rattle.cs_calls_executor.proofs.ApplyLemmas.{failed_read, more_counted, more_read, none_read, unkept_read}
use Rattle.cs_calls_executor.proofs.rehearsing.found_conflicts.Goals as goal

pub loop-found-init : goal.loop-found-init
loop-found-init g c = record {
  read = λ is_open. rw c.new-list.ensures.items (none_read _ (state g.S.Store c.args.transaction.now) is_open);
  counted = rw c.new-list.ensures.items refl;
}

pub returns-in_err-found_conflict-clause-read : goal.returns-in_err-found_conflict-clause-read
returns-in_err-found_conflict-clause-read g c is_open =
    let p = err_from_is_err_and c.from_residual.result c.from_residual.ensures.1 in
    rw (p.1, p.2) (failed_read found_by c.args.conflicts.now (state g.S.Store c.args.transaction.now) (state g.S.Store c.loop-found.transaction) (state g.S.Store c.found_conflict.new.transaction) c.loop-found.found-index c.found-item.result c.loop-found.list.items (c.loop-found.invariant.read is_open)
    c.in_err-found_conflict.field-0.0 c.in_err-found_conflict.ensures)

pub returns-in_err-push-clause-read : goal.returns-in_err-push-clause-read
returns-in_err-push-clause-read g c is_open =
    let p = err_from_is_err_and c.from_residual-in_err-push.result c.from_residual-in_err-push.ensures.1 in
    rw (p.1, p.2) (unkept_read found_by c.args.conflicts.now (state g.S.Store c.args.transaction.now) (state g.S.Store c.loop-found.transaction) (state g.S.Store c.found_conflict.new.transaction) c.loop-found.found-index c.found-item.result c.loop-found.list.items (c.loop-found.invariant.read is_open)
    c.in_ok-found_conflict.field-0 c.in_ok-found_conflict.ensures)

pub loop-found-preserved : goal.loop-found-preserved
loop-found-preserved g c = record {
  read = λ is_open.
      more_read found_by c.args.conflicts.now (state g.S.Store c.args.transaction.now) (state g.S.Store c.loop-found.transaction) (state g.S.Store c.found_conflict.new.transaction) c.loop-found.found-index c.found-item.result c.loop-found.list.items (c.loop-found.invariant.read is_open)
      c.in_ok-found_conflict.field-0 c.in_ok-found_conflict.ensures c.push.new.self.items c.loop-found-test.true c.found-item.is c.in_ok-push.ensures.items;
  counted = more_counted c.args.conflicts.now c.loop-found.found-index c.found-item.result c.loop-found.list.items c.push.new.self.items c.in_ok-found_conflict.field-0 c.loop-found-test.true c.in_ok-push.ensures.items c.loop-found.invariant.counted;
}

pub returns-clause-read : goal.returns-clause-read
returns-clause-read g c is_open =
    let conflicts = c.args.conflicts.now in
    let past : length conflicts ≤ c.loop-found.found-index = c.loop-found-test.false in
    rw (c.new.ensures) (subst (λ (l : List Found). Reads (λ tables. Ok (map (found_by tables) l)) (state g.S.Store c.args.transaction.now) (state g.S.Store c.loop-found.transaction) (Ok c.loop-found.list.items)) (take_all c.loop-found.found-index conflicts past) (c.loop-found.invariant.read is_open))

pub returns-clause-counted : goal.returns-clause-counted
returns-clause-counted g c =
    let past : length c.args.conflicts.now ≤ c.loop-found.found-index = c.loop-found-test.false in
    rw (c.new.ensures) (c.loop-found.invariant.counted ∙ ap length (take_all c.loop-found.found-index c.args.conflicts.now past))
