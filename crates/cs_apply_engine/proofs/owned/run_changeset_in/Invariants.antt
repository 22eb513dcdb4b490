-- The run is past the groups so far.
use Rattle.std.proofs.Common.{◌≡◌, true, take}
use Rattle.std.specs.Fn.{FnReturnsAt}
use Rattle.cs_apply_conflict_kinds.specs.declared.conflict.Noop.TheVariants.{Report as Reported}
use Rattle.cs_apply_engine.specs.Tally.{is_listed}
use Rattle.cs_apply_engine.specs.Running.{directed}
use Rattle.cs_apply_engine.specs.Run.{IsBehind}
use Rattle.cs_apply_engine.specs.Writes.{IsRunWrite}
use Rattle.cs_apply_engine.proofs.owned.run_changeset_in.Given as goal

abbrev pub invariant-loop-group : goal.invariant-loop-group
invariant-loop-group g l =
    let rows = g.B.Rows in
    goal.H-IsAlwaysCallable g l.handler × rows.keeps (IsRunWrite (directed l.direction l.changeset)) true l.fn.rows l.rows × (l.run.tables ≡ l.group-index) × ((l.run.noop ≡ Reported) × (l.run.tally.ignored ≡ 0)) × (is_listed l.run.tally.written ≡ true)
    × (rows.is_honest l.rows → rows.is_honest l.fn.rows × IsBehind (FnReturnsAt g.H.Fn l.handler) (rows.state l.fn.rows) (directed l.direction (take l.group-index l.changeset)) l.run (rows.state l.rows))
