-- The run is past the tables so far.
use Rattle.std.proofs.Common.{◌≡◌, ◌≤◌, ◌-◌, length, true}
use Rattle.std.specs.Fn.{FnReturnsAt}
use Rattle.cs_apply_engine.specs.Tally.{is_listed}
use Rattle.cs_apply_engine.specs.Writes.{IsFileWrite}
use Rattle.cs_apply_engine.proofs.FileLemmas.{RunsTables}
use Rattle.cs_apply_engine.proofs.running.tally_in.Given as goal

abbrev pub invariant-tables : goal.invariant-tables
invariant-tables g l =
    let rows = g.B.Rows in
    goal.H-IsAlwaysCallable g l.handler × rows.keeps (IsFileWrite l.direction l.file) true l.fn.rows l.rows × (l.tables.file ≡ l.file) × (l.run.tables ≤ l.tables.place) × (l.tables.place ≤ length l.tables.file) × (l.run.tally.ignored ≤ l.tables.place)
    × (l.run.noop ≡ l.fn.noop) × (is_listed l.run.tally.written ≡ is_listed l.fn.written)
    × RunsTables (FnReturnsAt g.H.Fn l.handler) l.direction l.file l.tables l.run (rows.is_honest l.rows) (rows.is_honest l.fn.rows) (rows.state l.fn.rows) (rows.state l.rows)

abbrev pub decreases-tables : goal.decreases-tables
decreases-tables g l = length l.tables.file - l.tables.place
