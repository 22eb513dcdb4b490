-- `carrying::carry_noted`: there are tables, or the call is refused where there are none.
use Rattle.std.proofs.Common.{refl}
use Rattle.sqlite.specs.Held.{state}
use Rattle.cs_calls_executor.proofs.CallLemmas.{still_inside}
use Rattle.cs_calls_service.proofs.NotedLemmas.{unnoted_refused}
use Rattle.cs_calls_service.proofs.carrying.carry_noted.Goals as goal

pub returns-then-not-has_no_tables : goal.returns-then-not-has_no_tables
returns-then-not-has_no_tables g c = c.carry_marked.ensures (still_inside (state g.S.Store c.args.transaction.now) c.has_ended.result c.has_ended.ensures.value c.if-has_ended.false)

pub returns-in-Err : goal.returns-in-Err
returns-in-Err g c =
    unnoted_refused c.args.call c.args.session (c.if-not-has_no_tables.ensures.0 refl) (state g.S.Store c.args.transaction.now) (state g.S.Store c.carry_out.new.transaction) c.in-Err.why c.in-Err.ensures
