-- `editing::carry_out`: the edit is carried out, or refused.
use Rattle.sqlite.specs.Held.{state}
use Rattle.cs_calls_executor.proofs.RefusedEdits.{edit_made, edit_refused}
use Rattle.cs_calls_executor.proofs.editing.carry_out.Goals as goal

pub returns-in-Ok : goal.returns-in-Ok
returns-in-Ok g c =
    edit_made c.args.table.now c.args.schema.now c.args.key.now c.args.edit.now (state g.S.Store c.args.transaction.now) (state g.S.Store c.edit.new.self) c.in-Ok.written c.in-Ok.ensures.edited c.in-Ok.ensures.within

pub returns-in-Err : goal.returns-in-Err
returns-in-Err g c =
    edit_refused c.args.table.now c.args.schema.now c.args.key.now c.args.edit.now (state g.S.Store c.args.transaction.now) (state g.S.Store c.edit.new.self) c.in-Err.error c.edit_refusal.result c.edit_refusal.ensures c.in-Err.ensures.refused c.in-Err.ensures.within
