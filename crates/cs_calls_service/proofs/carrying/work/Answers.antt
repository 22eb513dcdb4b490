-- `carrying::work`: the call is carried out, and noted or not, or it is refused.
use Rattle.sqlite.specs.Held.{state}
use Rattle.cs_calls_service.proofs.NotedLemmas.{note_works, refused_works}
use Rattle.cs_calls_service.proofs.carrying.work.Goals as goal

pub returns-in-Ok : goal.returns-in-Ok
returns-in-Ok g c =
    note_works c.args.call c.args.session (state g.S.Store c.args.transaction.now) (state g.S.Store c.carry_out.new.transaction) c.in-Ok.carried c.in-Ok.ensures c.note.result c.note.ensures.bytes c.note.ensures.noted c.note.ensures.refused c.note.ensures.same

pub returns-in-Err : goal.returns-in-Err
returns-in-Err g c = refused_works c.args.call c.args.session (state g.S.Store c.args.transaction.now) (state g.S.Store c.carry_out.new.transaction) c.in-Err.why c.in-Err.ensures
