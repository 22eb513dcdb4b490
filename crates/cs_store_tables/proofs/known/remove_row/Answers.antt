-- `known::remove_row`: the clauses `refused`, `caused`, `leads`, `knows` and `kept`.
use Rattle.std.proofs.Common.{inr}
use Rattle.std.specs.FinMap.{remove}
use Rattle.sqlite.specs.Held.{state}
use Rattle.cs_rows.specs.declared.fault.Cause.TheVariants as cause
use Rattle.cs_rows.specs.Faults.{refused_for}
use Rattle.cs_value.specs.State.{rows_at}
use Rattle.cs_store_tables.specs.Store.{tables_in}
use Rattle.cs_store_tables.specs.Laws.{was_clean}
use Rattle.cs_store_sql.proofs.ContentLemmas.{in_transaction}
use Rattle.cs_store_tables.proofs.KnownLemmas.{knows_written}
use Rattle.cs_store_tables.proofs.FailureLemmas.{remove_leads, so_caused}
use Rattle.cs_store_tables.proofs.known.remove_row.Goals as goal

pub returns-in-Ok-clause-knows : goal.returns-in-Ok-clause-knows
returns-in-Ok-clause-knows g c =
    let old = state g.S.Store c.args.conn.now in
    let new = state g.S.Store c.remove_row.new.conn in
    let inside = in_transaction _ c.if-is_autocommit.ensures.value in
    let kept = c.remove_row.ensures.kept c.requires.sound inside in
    rw c.forget_key.ensures (knows_written old new c.args.known.now c.args.name.now (remove (rows_at (tables_in old.now) c.args.name.now) c.args.key.now) (was_clean old new kept.crash)
    c.requires.declared (λ clean. c.in-Ok.ensures.removed c.requires.sound inside clean) c.requires.knows)

pub returns-in-Ok-clause-kept : goal.returns-in-Ok-clause-kept
returns-in-Ok-clause-kept g c = c.remove_row.ensures.kept c.requires.sound (in_transaction _ c.if-is_autocommit.ensures.value)

pub returns-in-Err-clause-kept : goal.returns-in-Err-clause-kept
returns-in-Err-clause-kept g c = c.remove_row.ensures.kept c.requires.sound (in_transaction _ c.if-is_autocommit.ensures.value)

pub returns-then-is_autocommit-clause-refused : goal.returns-then-is_autocommit-clause-refused
returns-then-is_autocommit-clause-refused g c = inr (refused_for cause.Other)

pub returns-in-Err-clause-caused : goal.returns-in-Err-clause-caused
returns-in-Err-clause-caused g c clean =
    so_caused _ _ c.in-Err.error (λ why fails. inr (c.place_in-place.result, fails)) (c.in-Err.ensures.caused c.requires.sound (in_transaction _ c.if-is_autocommit.ensures.value) clean)

pub returns-in-Ok-clause-leads : goal.returns-in-Ok-clause-leads
returns-in-Ok-clause-leads g c clean =
    remove_leads (state g.S.Store c.args.conn.now) (state g.S.Store c.remove_row.new.conn) c.place_in-place.result c.args.name.now c.args.key.now
    (c.in-Ok.ensures.leads c.requires.sound (in_transaction _ c.if-is_autocommit.ensures.value) clean)

pub remove_row-requires-clause-placed : goal.remove_row-requires-clause-placed
remove_row-requires-clause-placed g c = λ clean. c.place_in-place.ensures (state g.S.Store c.args.conn.now).now (c.requires.knows clean)
