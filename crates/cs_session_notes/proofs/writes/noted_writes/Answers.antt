-- `writes::noted_writes`: the invariant of the loop at `table`.
use Rattle.std.proofs.Common.{map, take, refl}
use Rattle.cs_value.proofs.ListLemmas.{map_more_at}
use Rattle.cs_session_notes.specs.Views.{attached_of}
use Rattle.cs_session_notes.proofs.WritesLemmas.{table_more}
use Rattle.cs_session_notes.proofs.writes.noted_writes.Goals as goal

pub loop-table-preserved : goal.loop-table-preserved
loop-table-preserved c =
    let tables = c.args.tables.now in
    let i = c.loop-table.table-index in
    rw (map_more_at tables i c.table-item.result c.loop-table-test.true c.table-item.is attached_of, table_more (map attached_of (take i tables)) (attached_of c.table-item.result), c.in_ok-append_writes.ensures, c.loop-table.invariant) refl
