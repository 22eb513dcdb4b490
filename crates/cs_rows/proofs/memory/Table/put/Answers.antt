-- `memory::Table::put`: the invariant of `self`, the clause `ok`.
use Rattle.std.proofs.Common.{◌≡◌, ◌∙◌, ap, sym, subst}
use Rattle.std.specs.FinMap as map
use Rattle.cs_value.specs.State.{TableData, RowMap, IsRowAt}
use Rattle.cs_value.proofs.ByteMaps.{seen_insert, seen_map}
use Rattle.cs_value.proofs.StateLemmas.{table_insert}
use Rattle.cs_rows.specs.contracts.memory.Table.{the_view}
use Rattle.cs_rows.proofs.memory.Table.put.Goals as goal

rows_are : (c : goal.Joined-branch-2) → seen_map (λ k. k) (λ v. v) c.insert.new.self.entries ≡ map.insert (seen_map (λ k. k) (λ v. v) c.self.inside.rows.entries) c.args.key c.args.row
rows_are c = seen_insert (λ k. k) (λ v. v) c.self.inside.rows.entries c.insert.new.self.entries c.args.key c.args.row c.in_ok-insert.ensures.entries

pub invariant_of-self-2 : goal.invariant_of-self-2
invariant_of-self-2 c = rw (rows_are c) (table_insert (the_view c.self.inside) c.args.key c.args.row c.self.invariant (subst (λ (t : TableData). IsRowAt t.schema c.args.key c.args.row) (sym c.self.view_is) c.requires))

pub returns-clause-ok : goal.returns-clause-ok
returns-clause-ok c =
    ap (λ (rows : RowMap). let t : TableData = record { schema = c.self.inside.schema; rows = rows } in t) (rows_are c)
    ∙ ap (λ (t : TableData). let u : TableData = record t { rows = map.insert t.rows c.args.key c.args.row } in u) c.self.view_is
