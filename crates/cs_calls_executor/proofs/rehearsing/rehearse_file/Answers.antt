-- `rehearsing::rehearse_file`: what was found is read and sent, or the file is not rehearsed.
use Rattle.std.proofs.Common.{map}
use Rattle.std.proofs.lemmas.Result.{err_from_is_err_and}
use Rattle.sqlite.specs.Held.{state}
use Rattle.cs_calls_executor.specs.Applying.{found_by}
use Rattle.cs_calls_executor.specs.declared.applying.ApplyCall.TheVariants.{Rehearse}
use Rattle.cs_calls_executor.proofs.RehearsalLemmas.{quiet_open, refused_works, rehearsed_quiet, rehearsed_works, unread_works, unsent_rehearsal}
use Rattle.cs_calls_executor.proofs.rehearsing.rehearse_file.Goals as goal

pub returns-in_err-conflicts-in-Ok : goal.returns-in_err-conflicts-in-Ok
returns-in_err-conflicts-in-Ok g c =
    let old = state g.S.Store c.args.transaction.now in
    let mid = state g.S.Store c.rehearse.new.transaction in
    let quiet = rehearsed_quiet old mid c.in-Ok.ensures.within.kept c.in-Ok.ensures.shown in
    let p = err_from_is_err_and c.from_residual.result c.from_residual.ensures.1 in
    rw (p.1, p.2) (unread_works (Rehearse c.args.file.now c.args.noop) old mid (state g.S.Store c.found_conflicts.new.transaction) (λ tables. map (found_by tables) c.in-Ok.found.items) c.in_err-conflicts-in-Ok.field-0.0 quiet
    (rw c.deref.ensures.value at (c.in_err-conflicts-in-Ok.ensures.read (quiet_open old mid quiet))))

pub returns-in_err-bytes-in-Ok : goal.returns-in_err-bytes-in-Ok
returns-in_err-bytes-in-Ok g c =
    let old = state g.S.Store c.args.transaction.now in
    let mid = state g.S.Store c.rehearse.new.transaction in
    let quiet = rehearsed_quiet old mid c.in-Ok.ensures.within.kept c.in-Ok.ensures.shown in
    let p = err_from_is_err_and c.from_residual-in_err-bytes-in-Ok.result c.from_residual-in_err-bytes-in-Ok.ensures.1 in
    rw (p.1, p.2, ← c.as_slice.ensures.same) (unsent_rehearsal c.as_slice.result.now c.args.noop old mid (state g.S.Store c.found_conflicts.new.transaction) c.in-Ok.found.items quiet c.in-Ok.ensures.rehearsed c.in_ok-conflicts-in-Ok.conflicts
    (rw c.deref.ensures.value at (c.in_ok-conflicts-in-Ok.ensures.read (quiet_open old mid quiet))) c.in_err-bytes-in-Ok.field-0.0 c.in_err-bytes-in-Ok.ensures.err)

pub returns-in_ok-bytes-in-Ok : goal.returns-in_ok-bytes-in-Ok
returns-in_ok-bytes-in-Ok g c =
    let old = state g.S.Store c.args.transaction.now in
    let mid = state g.S.Store c.rehearse.new.transaction in
    let quiet = rehearsed_quiet old mid c.in-Ok.ensures.within.kept c.in-Ok.ensures.shown in
    rw (← c.as_slice.ensures.same) (rehearsed_works c.as_slice.result.now c.args.noop old mid (state g.S.Store c.found_conflicts.new.transaction) c.in-Ok.found.items quiet c.in-Ok.ensures.rehearsed c.in_ok-conflicts-in-Ok.conflicts
    (rw c.deref.ensures.value at (c.in_ok-conflicts-in-Ok.ensures.read (quiet_open old mid quiet))) c.in_ok-bytes-in-Ok.bytes c.new-written.result c.new-written.ensures.items c.in_ok-bytes-in-Ok.ensures.ok)

pub returns-in-Err : goal.returns-in-Err
returns-in-Err g c =
    rw (← c.as_slice.ensures.same) (refused_works (Rehearse c.as_slice.result.now c.args.noop) (state g.S.Store c.args.transaction.now) (state g.S.Store c.rehearse.new.transaction) (state g.S.Store c.finish.new.transaction) c.in-Err.fault c.finish.result _ c.in-Err.ensures.within c.in-Err.ensures.refused (c.finish.ensures tt))
