-- `records::add_record`: each clause.
use Rattle.std.proofs.Common.{Some, true}
use Rattle.std.proofs.lemmas.Result.{err_from_is_err_and}
use Rattle.sqlite.specs.Held.{state}
use Rattle.cs_store_sql.specs.Failing.{puts}
use Rattle.cs_store_sql.proofs.AddLemmas.{adds, was_free}
use Rattle.cs_store_sql.proofs.RecordLemmas.{accepts, refuses}
use Rattle.cs_store_sql.proofs.StatementLemmas.{not_unique_stays}
use Rattle.cs_store_sql.proofs.records.add_record.Goals as goal

pub returns-in_err-execute-clause-refused : goal.returns-in_err-execute-clause-refused
returns-in_err-execute-clause-refused g c clean =
    let p = err_from_is_err_and c.from_residual.result c.from_residual.ensures.1 in
    rw (p.1, p.2) (λ same. not_unique_stays _ _ _ _ _ same (c.in_err-execute.ensures.runs clean))

pub returns-in_err-execute-clause-writes : goal.returns-in_err-execute-clause-writes
returns-in_err-execute-clause-writes g c =
    refuses (puts true c.args.tab.now c.args.key.now c.args.value.now) (state g.S.Store c.args.conn.now) (state g.S.Store c.execute.new.self) c.args.tab.now c.args.key.now (Some c.args.value.now)
    (rw (c.params-to_sql.ensures, c.params-to_sql-2.ensures, c.params-to_sql-3.ensures) at c.execute.ensures.survives) _ c.from_residual.result c.from_residual.ensures
    (λ clean. rw (c.params-to_sql.ensures, c.params-to_sql-2.ensures, c.params-to_sql-3.ensures) at (c.in_err-execute.ensures.runs clean))

pub returns-clause-free : goal.returns-clause-free
returns-clause-free g c clean has =
    was_free _ _ _ _ _ _ has (rw (c.params-to_sql.ensures, c.params-to_sql-2.ensures, c.params-to_sql-3.ensures) at (c.in_ok-execute.ensures.runs clean))

pub returns-clause-writes : goal.returns-clause-writes
returns-clause-writes g c =
    accepts (puts true c.args.tab.now c.args.key.now c.args.value.now) (state g.S.Store c.args.conn.now) (state g.S.Store c.execute.new.self) c.args.tab.now c.args.key.now (Some c.args.value.now)
    (rw (c.params-to_sql.ensures, c.params-to_sql-2.ensures, c.params-to_sql-3.ensures) at c.execute.ensures.survives) _
    (λ clean. rw (c.params-to_sql.ensures, c.params-to_sql-2.ensures, c.params-to_sql-3.ensures) at (c.in_ok-execute.ensures.runs clean)) (λ clean has runs. adds _ _ _ _ _ _ has runs)
