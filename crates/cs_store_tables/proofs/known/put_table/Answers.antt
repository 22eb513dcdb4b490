-- `known::put_table`: what it ensures.
use Rattle.std.proofs.Common.{inl, inr, refl}
use Rattle.cs_rows.specs.declared.fault.Cause.TheVariants as cause
use Rattle.cs_rows.specs.Faults.{refused_for}
use Rattle.cs_store_sql.proofs.ContentLemmas.{in_autocommit, in_transaction}
use Rattle.cs_store_tables.specs.Laws.{keeps_itself}
use Rattle.cs_store_tables.proofs.FailureLemmas.{caused_so, declare_fails}
use Rattle.sqlite.specs.Held.{state}
use Rattle.cs_store_tables.proofs.known.put_table.Goals as goal

pub returns-then-is_autocommit : goal.returns-then-is_autocommit
returns-then-is_autocommit g c = record {
  declared = λ clean. tt;
  refused = inr (refused_for cause.Other);
  caused = λ clean. inl (in_autocommit _ c.if-is_autocommit.ensures.value, refl);
  knows = λ clean. tt;
  leads = λ clean. tt;
  kept = keeps_itself;
}

pub returns : goal.returns
returns g c =
    let e = c.put_table.ensures in
    let inside = in_transaction _ c.if-is_autocommit.ensures.value in
    record {
      declared = e.declared c.requires.sound inside;
      refused = e.refused;
      caused = λ clean. caused_so c.put_table.result _ _ (declare_fails (state g.S.Store c.args.conn.now) (state g.S.Store c.put_table.new.conn) c.args.name.now c.args.schema.now) (e.caused c.requires.sound inside clean);
      knows = λ clean. tt;
      leads = e.leads c.requires.sound inside;
      kept = e.kept c.requires.sound inside;
    }
