-- `records::put_record`: what each statement that puts a record does.
use mir.Syntax.{w64}
use mir.Val.{SFits}
use Rattle.std.proofs.Common.{Some, false, rules, arith}
use Rattle.std.proofs.lemmas.Int.{to_z-of_z}
use Rattle.sqlite.specs.Held.{state}
use Rattle.cs_store_sql.specs.Failing.{puts, replaces}
use Rattle.cs_store_sql.proofs.RecordLemmas.{accepts, refuses}
use Rattle.cs_store_sql.proofs.ReplaceLemmas as replace
use Rattle.cs_store_sql.proofs.SetLemmas.{sets}
use Rattle.cs_store_sql.proofs.records.put_record.Goals as goal

pub returns-in_err-execute-in-Unknown : goal.returns-in_err-execute-in-Unknown
returns-in_err-execute-in-Unknown g c =
    rw c.in-Unknown.is (refuses (puts false c.args.tab.now c.args.key.now c.args.value.now) (state g.S.Store c.args.conn.now) (state g.S.Store c.execute.new.self) c.args.tab.now c.args.key.now (Some c.args.value.now)
    (rw (c.params-to_sql.ensures, c.params-to_sql-in-Unknown.ensures, c.params-to_sql-in-Unknown-2.ensures) at c.execute.ensures.survives) _ c.from_residual.result c.from_residual.ensures
    (λ clean. rw (c.params-to_sql.ensures, c.params-to_sql-in-Unknown.ensures, c.params-to_sql-in-Unknown-2.ensures) at (c.in_err-execute-in-Unknown.ensures.runs clean)))

pub returns-in_ok-execute-in-Unknown : goal.returns-in_ok-execute-in-Unknown
returns-in_ok-execute-in-Unknown g c =
    rw c.in-Unknown.is (accepts (puts false c.args.tab.now c.args.key.now c.args.value.now) (state g.S.Store c.args.conn.now) (state g.S.Store c.execute.new.self) c.args.tab.now c.args.key.now (Some c.args.value.now)
    (rw (c.params-to_sql.ensures, c.params-to_sql-in-Unknown.ensures, c.params-to_sql-in-Unknown-2.ensures) at c.execute.ensures.survives) _
    (λ clean. rw (c.params-to_sql.ensures, c.params-to_sql-in-Unknown.ensures, c.params-to_sql-in-Unknown-2.ensures) at (c.in_ok-execute-in-Unknown.ensures.runs clean)) (λ clean has runs. sets _ _ _ _ _ _ has runs))

pub returns-in_err-execute-in-At : goal.returns-in_err-execute-in-At
returns-in_err-execute-in-At g c =
    let fits : SFits w64 c.in-At.rowid = search rules in
    rw c.in-At.is (refuses (replaces c.in-At.rowid c.args.tab.now c.args.key.now c.args.value.now) (state g.S.Store c.args.conn.now) (state g.S.Store c.execute-in-At.new.self) c.args.tab.now c.args.key.now (Some c.args.value.now)
    (rw (c.params-to_sql-in-At.ensures, c.params-to_sql-in-At-2.ensures, to_z-of_z w64 c.in-At.rowid fits) at c.execute-in-At.ensures.survives) _ c.from_residual-in_err-execute-in-At.result c.from_residual-in_err-execute-in-At.ensures
    (λ clean. rw (c.params-to_sql-in-At.ensures, c.params-to_sql-in-At-2.ensures, to_z-of_z w64 c.in-At.rowid fits) at (c.in_err-execute-in-At.ensures.runs clean)))

pub returns-in_ok-execute-in-At : goal.returns-in_ok-execute-in-At
returns-in_ok-execute-in-At g c =
    let fits : SFits w64 c.in-At.rowid = search rules in
    rw c.in-At.is (accepts (replaces c.in-At.rowid c.args.tab.now c.args.key.now c.args.value.now) (state g.S.Store c.args.conn.now) (state g.S.Store c.execute-in-At.new.self) c.args.tab.now c.args.key.now (Some c.args.value.now)
    (rw (c.params-to_sql-in-At.ensures, c.params-to_sql-in-At-2.ensures, to_z-of_z w64 c.in-At.rowid fits) at c.execute-in-At.ensures.survives) _
    (λ clean. rw (c.params-to_sql-in-At.ensures, c.params-to_sql-in-At-2.ensures, to_z-of_z w64 c.in-At.rowid fits) at (c.in_ok-execute-in-At.ensures.runs clean))
    (λ clean has runs. replace.replaces _ _ _ _ _ _ _ has (rw c.in-At.is at (c.requires (omega (arith, clean, c.execute-in-At.ensures.survives.clean)) has)) runs))
