-- `memory::Table::remove`: the invariant of `self`, what it ensures.
use Rattle.std.proofs.Common.{◌≡◌, ◌∙◌, ap}
use Rattle.std.specs.FinMap as map
use Rattle.cs_value.specs.State.{TableData, RowMap}
use Rattle.cs_value.proofs.ByteMaps.{seen_remove, seen_map}
use Rattle.cs_value.proofs.StateLemmas.{table_remove}
use Rattle.cs_rows.specs.contracts.memory.Table.{the_view}
use Rattle.cs_rows.proofs.memory.Table.remove.Goals as goal

rows_are : (c : goal.Joined-remove) → seen_map (λ k. k) (λ v. v) c.remove.new.self.entries ≡ map.remove (seen_map (λ k. k) (λ v. v) c.self.inside.rows.entries) c.args.key.now
rows_are c = seen_remove (λ k. k) (λ v. v) c.self.inside.rows.entries c.remove.new.self.entries c.args.key.now c.remove.ensures.updates.0

pub invariant_of-self : goal.invariant_of-self
invariant_of-self c = rw (rows_are c) (table_remove (the_view c.self.inside) c.args.key.now c.self.invariant)

pub returns : goal.returns
returns c =
    ap (λ (rows : RowMap). let t : TableData = record { schema = c.self.inside.schema; rows = rows } in t) (rows_are c)
    ∙ ap (λ (t : TableData). let u : TableData = record t { rows = map.remove t.rows c.args.key.now } in u) c.self.view_is
