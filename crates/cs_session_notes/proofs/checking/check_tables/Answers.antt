-- `checking::check_tables`: the invariant of the loop at `table`, the clauses `refused` and `attached`.
use Rattle.std.proofs.Common.{◌∙◌, arith}
use Rattle.std.proofs.lemmas.List.{take_all}
use Rattle.std.proofs.lemmas.Result.{err_from_is_err_and}
use Rattle.cs_session_notes.specs.FirstImages.{AttachedTable, HasAttached}
use Rattle.cs_session_notes.specs.Views.{attached_of}
use Rattle.cs_value.proofs.ListLemmas.{All-map_more_at, Any-map_at}
use Rattle.cs_session_notes.proofs.EntriesLemmas.{refuses_one}
use Rattle.cs_session_notes.proofs.checking.check_tables.Goals as goal

pub returns-in_err-check_table-clause-refused : goal.returns-in_err-check_table-clause-refused
returns-in_err-check_table-clause-refused g c = λ honest.
    let p = err_from_is_err_and c.from_residual.result c.from_residual.ensures.1 in
    let state = g.B.Rows.state c.args.rows.now in
    let table = c.table-item.result in
    let so = c.loop-table.invariant.1 (c.check_table.ensures.was_honest honest) in
    let refused = rw so.1 at (c.in_err-check_table.ensures.refused honest) in
    let lacks = Any-map_at c.args.tables.now c.loop-table.table-index table c.loop-table-test.true c.table-item.is attached_of (λ (t : AttachedTable). ¬ HasAttached state t) in
    rw (p.1, p.2) (refuses_one state _ (attached_of table) _ lacks refused)

pub loop-table-preserved : goal.loop-table-preserved
loop-table-preserved g c = (
  g.B.Rows.keeps_then _ _ _ _ _ c.loop-table.invariant.0 c.in_ok-check_table.ensures.kept,
  λ honest.
      let so = c.loop-table.invariant.1 (c.check_table.ensures.was_honest honest) in
      let has = rw so.1 at (c.in_ok-check_table.ensures.attached honest) in (
        so.0,
        c.in_ok-check_table.ensures.same honest ∙ so.1,
        All-map_more_at c.args.tables.now c.loop-table.table-index c.table-item.result c.loop-table-test.true c.table-item.is attached_of (HasAttached (g.B.Rows.state c.args.rows.now)) so.2 has,
      ),
)

pub returns-clause-attached : goal.returns-clause-attached
returns-clause-attached g c = λ honest.
    let all = take_all c.loop-table.table-index c.args.tables.now (omega arith) in
    rw all at (c.loop-table.invariant.1 honest).2
