-- `known::add_row`: the clauses `refused`, `knows` and `kept`.
use Rattle.std.proofs.Common.{inr}
use Rattle.sqlite.specs.Held.{state}
use Rattle.cs_rows.specs.declared.fault.Cause.TheVariants as cause
use Rattle.cs_rows.specs.Faults.{refused_for}
use Rattle.cs_store_tables.specs.Store.{tables_in}
use Rattle.cs_store_tables.specs.Laws.{was_clean}
use Rattle.cs_store_sql.proofs.ContentLemmas.{in_transaction}
use Rattle.cs_store_tables.proofs.KnownLemmas.{knows_added}
use Rattle.cs_store_tables.proofs.ReadLemmas.{declared_by}
use Rattle.cs_store_tables.proofs.known.add_row.Goals as goal

pub returns-then-is_autocommit-clause-refused : goal.returns-then-is_autocommit-clause-refused
returns-then-is_autocommit-clause-refused g c = inr (refused_for cause.Other)

pub returns-in-Ok-clause-knows : goal.returns-in-Ok-clause-knows
returns-in-Ok-clause-knows g c =
    let old = state g.S.Store c.args.conn.now in
    let new = state g.S.Store c.add_row.new.conn in
    let inside = in_transaction _ c.if-is_autocommit.ensures.value in
    let kept = c.add_row.ensures.kept c.requires.sound inside in
    rw c.forget_key.ensures (knows_added old new c.args.known.now c.args.name.now c.args.key.now c.args.row.now c.in-Ok.added (was_clean old new kept.crash)
    (λ clean. declared_by (tables_in old.now) c.args.name.now c.args.key.now c.args.row.now (c.requires.fits clean)) (λ clean. c.in-Ok.ensures.added c.requires.sound inside clean) c.requires.knows)

pub returns-in-Ok-clause-kept : goal.returns-in-Ok-clause-kept
returns-in-Ok-clause-kept g c = c.add_row.ensures.kept c.requires.sound (in_transaction _ c.if-is_autocommit.ensures.value)

pub returns-in-Err-clause-kept : goal.returns-in-Err-clause-kept
returns-in-Err-clause-kept g c = c.add_row.ensures.kept c.requires.sound (in_transaction _ c.if-is_autocommit.ensures.value)
