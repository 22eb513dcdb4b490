-- `tables::AttachedTables::unwritten`: what `push` asks for, and the invariant of the loop at `table`.
use Rattle.cs_session_notes.proofs.TablesLemmas.{fresh_unwritten, unwritten_more}
use Rattle.cs_session_notes.proofs.tables.AttachedTables.unwritten.Goals as goal

pub push-requires : goal.push-requires
push-requires c =
    rw c.as_str.ensures.value (fresh_unwritten c.args.tables.now c.loop-table.table-index c.table-item.result c.loop-table-test.true c.table-item.is c.requires c.loop-table.copy c.loop-table.invariant.0)

pub loop-table-preserved : goal.loop-table-preserved
loop-table-preserved c = (
  unwritten_more c.args.tables.now c.loop-table.table-index c.table-item.result c.loop-table-test.true c.table-item.is c.loop-table.copy _ _ _ c.as_str.ensures.value c.in_ok-copy.ensures c.loop-table.invariant.0 c.in_ok-push.ensures.pushed,
  c.push.ensures.none_pending c.loop-table.invariant.1,
)
