-- `editing::declare`: there is no memory for the declaration, it is done, or it is refused.
use Rattle.std.proofs.lemmas.Result.{err_from_is_err_and}
use Rattle.sqlite.specs.Held.{state}
use Rattle.cs_rows.specs.Editing.{schema_of}
use Rattle.cs_calls_executor.proofs.DeclareLemmas.{declare_made, declare_refused, declare_unstarted}
use Rattle.cs_calls_executor.proofs.editing.declare.Goals as goal

pub returns-in_err-it : goal.returns-in_err-it
returns-in_err-it g c =
    let p = err_from_is_err_and c.from_residual.result c.from_residual.ensures.1 in
    rw (p.1, p.2) (declare_unstarted c.args.table.now c.args.columns.now (state g.S.Store c.args.transaction.now) c.store_law.ensures.settled)

pub returns : goal.returns
returns g c =
    let it = c.in-Err.ensures in
    declare_refused c.args.table.now c.args.columns.now c.as_str.result.now (schema_of c.deref.result.now c.deref-2.result.now c.deref-3.result.now) c.as_str.ensures.same
    (rw (c.deref.ensures.value, c.deref-2.ensures.value, c.deref-3.ensures.value) c.in_ok-it.ensures)
    (state g.S.Store c.args.transaction.now) (state g.S.Store c.declare.new.self) c.in-Err.error c.declare_refusal.result c.declare_refusal.ensures it.refused it.within

pub returns-in-Ok : goal.returns-in-Ok
returns-in-Ok g c =
    declare_made c.args.table.now c.args.columns.now c.as_str.result.now (schema_of c.deref.result.now c.deref-2.result.now c.deref-3.result.now) c.as_str.ensures.same
    (rw (c.deref.ensures.value, c.deref-2.ensures.value, c.deref-3.ensures.value) c.in_ok-it.ensures)
    (state g.S.Store c.args.transaction.now) (state g.S.Store c.declare.new.self) c.new.result c.new.ensures.items c.in-Ok.field-0 c.in-Ok.ensures.within
