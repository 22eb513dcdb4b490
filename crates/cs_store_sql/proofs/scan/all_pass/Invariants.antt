use Rattle.std.proofs.Common.{◌≡◌}
use Rattle.sqlite.specs.Held.{state}
use Rattle.cs_store_sql.proofs.ScanLemmas.{Scans, room}
use Rattle.cs_store_sql.proofs.scan.all_pass.Given as goal

-- the rows that were shown so far passed
abbrev pub invariant-rows : goal.invariant-rows
invariant-rows g l = (l.rows.conn.ghost_name ≡ l.initial.rows.conn.ghost_name) × Scans g.S.Store (g.T.RecordTest.passes l.test) (state g.S.Store l.fn.conn) l.rows.conn.now l.last

-- each number is above the one before it
abbrev pub decreases-rows : goal.decreases-rows
decreases-rows g l = room l.last
