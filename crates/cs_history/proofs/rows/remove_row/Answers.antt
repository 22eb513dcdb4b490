-- `rows::remove_row`: the clause `works`.
use Rattle.std.proofs.Common.{map}
use Rattle.sqlite.specs.Held.{state}
use Rattle.cs_store.specs.Store.{tables_in}
use Rattle.cs_rows.specs.Editing.{written_of}
use Rattle.cs_history.proofs.MoveLemmas.{removes_row}
use Rattle.cs_history.proofs.WorkLemmas.{shown_state}
use Rattle.cs_history.proofs.rows.remove_row.Goals as goal

pub returns : goal.returns
returns g c =
    let old = state g.S.Store c.args.transaction.now in
    let new = state g.S.Store c.edit.new.self in
    let within = c.in_ok-edit.ensures.within in
    record {
      works = record {
        kept = within.kept;
        made = λ clean inside. (
          (within.made clean).0.inside,
          λ history. removes_row (tables_in old.now) c.args.name.now (shown_state old new within.kept c.store_law.ensures.holds c.store_law.ensures.inside clean inside) history c.args.row.now (tables_in new.now)
              (map written_of c.in_ok-edit.field-0.items) (rw (← c.in_ok-table.ensures.ok, ← c.in_ok-key.ensures.key) (c.in_ok-edit.ensures.edited clean)),
        );
      };
      named = tt;
    }
