-- `records::remove_record`: what each statement that removes a record does.
use mir.Syntax.{w64}
use mir.Val.{SFits}
use Rattle.std.proofs.Common.{None, rules, arith}
use Rattle.std.proofs.lemmas.Int.{to_z-of_z}
use Rattle.sqlite.specs.Held.{state}
use Rattle.cs_store_sql.specs.Failing.{removes, takes}
use Rattle.cs_store_sql.proofs.RecordLemmas.{accepts, refuses}
use Rattle.cs_store_sql.proofs.RemoveLemmas as remove
use Rattle.cs_store_sql.proofs.records.remove_record.Goals as goal

pub returns-in_err-execute-in-At : goal.returns-in_err-execute-in-At
returns-in_err-execute-in-At g c =
    let fits : SFits w64 c.in-At.rowid = search rules in
    rw c.in-At.is (refuses (takes c.in-At.rowid c.args.tab.now c.args.key.now) (state g.S.Store c.args.conn.now) (state g.S.Store c.execute.new.self) c.args.tab.now c.args.key.now None
    (rw (c.params-to_sql.ensures, to_z-of_z w64 c.in-At.rowid fits) at c.execute.ensures.survives) _ c.from_residual.result c.from_residual.ensures
    (λ clean. rw (c.params-to_sql.ensures, to_z-of_z w64 c.in-At.rowid fits) at (c.in_err-execute-in-At.ensures.runs clean)))

pub returns-in_ok-execute-in-At : goal.returns-in_ok-execute-in-At
returns-in_ok-execute-in-At g c =
    let fits : SFits w64 c.in-At.rowid = search rules in
    rw c.in-At.is (accepts (takes c.in-At.rowid c.args.tab.now c.args.key.now) (state g.S.Store c.args.conn.now) (state g.S.Store c.execute.new.self) c.args.tab.now c.args.key.now None
    (rw (c.params-to_sql.ensures, to_z-of_z w64 c.in-At.rowid fits) at c.execute.ensures.survives) _
    (λ clean. rw (c.params-to_sql.ensures, to_z-of_z w64 c.in-At.rowid fits) at (c.in_ok-execute-in-At.ensures.runs clean))
    (λ clean has runs. remove.takes _ _ _ _ _ _ has (rw c.in-At.is at (c.requires (omega (arith, clean, c.execute.ensures.survives.clean)) has)) runs))

pub returns-in_err-execute-in-Unknown : goal.returns-in_err-execute-in-Unknown
returns-in_err-execute-in-Unknown g c =
    rw c.in-Unknown.is (refuses (removes c.args.tab.now c.args.key.now) (state g.S.Store c.args.conn.now) (state g.S.Store c.execute-in-Unknown.new.self) c.args.tab.now c.args.key.now None
    (rw (c.params-to_sql-in-Unknown.ensures, c.params-to_sql-in-Unknown-2.ensures) at c.execute-in-Unknown.ensures.survives) _ c.from_residual-in_err-execute-in-Unknown.result c.from_residual-in_err-execute-in-Unknown.ensures
    (λ clean. rw (c.params-to_sql-in-Unknown.ensures, c.params-to_sql-in-Unknown-2.ensures) at (c.in_err-execute-in-Unknown.ensures.runs clean)))

pub returns-in_ok-execute-in-Unknown : goal.returns-in_ok-execute-in-Unknown
returns-in_ok-execute-in-Unknown g c =
    rw c.in-Unknown.is (accepts (removes c.args.tab.now c.args.key.now) (state g.S.Store c.args.conn.now) (state g.S.Store c.execute-in-Unknown.new.self) c.args.tab.now c.args.key.now None
    (rw (c.params-to_sql-in-Unknown.ensures, c.params-to_sql-in-Unknown-2.ensures) at c.execute-in-Unknown.ensures.survives) _
    (λ clean. rw (c.params-to_sql-in-Unknown.ensures, c.params-to_sql-in-Unknown-2.ensures) at (c.in_ok-execute-in-Unknown.ensures.runs clean)) (λ clean has runs. remove.removes _ _ _ _ _ has runs))
