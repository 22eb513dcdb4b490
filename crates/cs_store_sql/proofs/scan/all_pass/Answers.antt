-- `scan::all_pass`: the invariant of the loop, and each clause where the scan ends.
use Rattle.std.proofs.Common.{rules, IfErr, refl, [], ◌≡◌, ◌∙◌, w64, FitsSigned, to_z, of_z}
use Rattle.std.proofs.lemmas.Int.{to_z-of_z}
use Rattle.sqlite.specs.State.{HasCleanDisk}
use Rattle.sqlite.specs.Held.{state}
use Rattle.cs_store_sql.specs.Failing.{CannotRead, IsFailure}
use Rattle.cs_store_sql.specs.Records.{Rests, KeepsCrash}
use Rattle.cs_store_sql.specs.Statements.{scan_text}
use Rattle.cs_store_sql.proofs.FailureLemmas.{failure}
use Rattle.cs_store_sql.proofs.QueryLemmas.{keeps_crash, fails_rests, on_err}
use Rattle.cs_store_sql.proofs.QueryTexts.{scan_is_query}
use Rattle.cs_store_sql.proofs.ScanLemmas.{scan_begins, step_crash, step_rests, step_passed, step_on, step_unnumbered, step_failed, step_fails, scan_fails, room_falls}
use Rattle.cs_store_sql.proofs.scan.all_pass.Goals as goal

pub rows-init : goal.rows-init
rows-init g c =
    let made = c.in_ok-rows.ensures in
    (refl, scan_begins g.S.Store (g.T.RecordTest.passes c.args.test.now) c.args.conn.now c.in_ok-rows.rows.conn.now made.begun made.survives)

pub returns-in_err-row-clause-keeps_crash : goal.returns-in_err-row-clause-keeps_crash
returns-in_err-row-clause-keeps_crash g c =
    let moved = c.next.follows.holds-at-none in
    let now = c.next.follows.lender-at-none.conn.now in
    let kept : KeepsCrash (state g.S.Store c.args.conn.now) (state g.S.Store now) = step_crash g.S.Store _ _ _ now _ c.rows.invariant.1 moved.survives in
    search rules

pub returns-in_err-row-clause-rests : goal.returns-in_err-row-clause-rests
returns-in_err-row-clause-rests g c clean =
    let moved = c.next.follows.holds-at-none in
    let now = c.next.follows.lender-at-none.conn.now in
    let late : HasCleanDisk (state g.S.Store now) = search rules in
    let rests : Rests (state g.S.Store c.args.conn.now) (state g.S.Store now) = step_rests g.S.Store _ _ _ now _ c.rows.invariant.1 moved.survives late _ (rw c.in_err-row.was at (moved.err late)) in
    search (rules, on_err)

pub returns-in_err-rows-clause-keeps_crash : goal.returns-in_err-rows-clause-keeps_crash
returns-in_err-rows-clause-keeps_crash g c =
    let refused = rw c.in_err-rows.was at c.query.follows.holds-at-none in
    keeps_crash scan_text [] (state g.S.Store c.args.conn.now) (state g.S.Store c.query.follows.lender-at-none) scan_is_query refused.survives

pub returns-in_err-rows-clause-rests : goal.returns-in_err-rows-clause-rests
returns-in_err-rows-clause-rests g c clean =
    let refused = rw c.in_err-rows.was at c.query.follows.holds-at-none in
    on_err _ _ (fails_rests scan_text [] (state g.S.Store c.args.conn.now) (state g.S.Store c.query.follows.lender-at-none) _ (refused.err clean))

pub returns-in_default-clause-passed : goal.returns-in_default-clause-passed
returns-in_default-clause-passed g c clean has passed =
    let moved = c.next.follows.holds-at-none in
    let now = c.next.follows.lender-at-none.conn.now in
    let late : HasCleanDisk (state g.S.Store now) = search rules in
    step_passed g.S.Store _ _ _ now _ c.rows.invariant.1 moved.survives late has (rw (c.in_ok-row.was, c.in_default.is) at (moved.ok late))

pub returns-in_default-number_above-clause-failed : goal.returns-in_default-number_above-clause-failed
returns-in_default-number_above-clause-failed g c clean has failed =
    let moved = c.next.follows.holds-at-none in
    let now = c.next.follows.lender-at-none.conn.now in
    let late : HasCleanDisk (state g.S.Store now) = search rules in
    step_unnumbered g.S.Store _ _ _ now _ c.rows.invariant.1 moved.survives late (rw c.in_ok-row.was at (moved.same late)) c.in-Some.row.now (rw (c.in_ok-row.was, c.in-Some.is) at (moved.ok late)) has
    (rw c.in_default-number_above.is at c.number_above.ensures)

pub returns-then-not-branch-clause-failed : goal.returns-then-not-branch-clause-failed
returns-then-not-branch-clause-failed g c clean has failed =
    let moved = c.next.follows.holds-at-none in
    let now = c.next.follows.lender-at-none.conn.now in
    let late : HasCleanDisk (state g.S.Store now) = search rules in
    step_failed g.S.Store _ _ _ now _ c.rows.invariant.1 moved.survives late (rw c.in_ok-row.was at (moved.same late)) c.in-Some.row.now (rw (c.in_ok-row.was, c.in-Some.is) at (moved.ok late)) has
    (c.in_ok-is_good.ensures.failed (search rules))

pub rows-preserved : goal.rows-preserved
rows-preserved g c =
    let moved = c.next.follows.holds-at-none in
    let now = c.next.follows.lender-at-none.conn.now in
    let number = c.in-Some-number_above.number in
    let fits : FitsSigned w64 number = search rules in
    let same : to_z w64 (of_z w64 number) ≡ number = to_z-of_z w64 number fits in (
      moved.same_reference ∙ c.rows.invariant.0,
      (
        step_crash g.S.Store _ _ _ now _ c.rows.invariant.1 moved.survives,
        λ clean. rw same (step_on g.S.Store _ _ _ now _ c.rows.invariant.1 moved.survives clean (rw c.in_ok-row.was at (moved.same clean)) c.in-Some.row.now (rw (c.in_ok-row.was, c.in-Some.is) at (moved.ok clean)) number
            (rw c.in-Some-number_above.is at c.number_above.ensures) (c.in_ok-is_good.ensures.passed (search rules))),
      ),
    )

pub rows-smaller : goal.rows-smaller
rows-smaller g c =
    let number = c.in-Some-number_above.number in
    let fits : FitsSigned w64 number = search rules in
    let same : to_z w64 (of_z w64 number) ≡ number = to_z-of_z w64 number fits in
    rw same (room_falls c.rows.last number (rw c.in-Some-number_above.is at c.number_above.ensures).1 fits)

pub returns-in_err-row-clause-caused : goal.returns-in_err-row-clause-caused
returns-in_err-row-clause-caused g c clean has =
    let moved = c.next.follows.holds-at-none in
    let now = c.next.follows.lender-at-none.conn.now in
    let late : HasCleanDisk (state g.S.Store now) = search rules in
    let fails : IfErr c.from_residual-in_err-row.result (IsFailure (CannotRead (state g.S.Store c.args.conn.now) (state g.S.Store now))) = failure c.from_residual-in_err-row.result _ c.in_err-row.field-0.0 c.from_residual-in_err-row.ensures.1
    (λ other. step_fails g.S.Store _ _ _ now _ c.rows.invariant.1 moved.survives late has _ other (rw c.in_err-row.was at (moved.err late))) in
    search rules

pub returns-in_err-rows-clause-caused : goal.returns-in_err-rows-clause-caused
returns-in_err-rows-clause-caused g c clean has =
    let refused = rw c.in_err-rows.was at c.query.follows.holds-at-none in
    failure c.from_residual.result _ c.in_err-rows.field-0.0 c.from_residual.ensures.1 (λ other. scan_fails (state g.S.Store c.args.conn.now) (state g.S.Store c.query.follows.lender-at-none) _ has other (refused.err clean))
