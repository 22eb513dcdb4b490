-- `memory::MemRows::insert_table`: the invariant of `self`, the clause `ok`.
use Rattle.std.proofs.Common.{◌≡◌, ◌∙◌, ap}
use Rattle.std.specs.FinMap as map
use Rattle.std.specs.String.{string_bytes}
use Rattle.cs_value.proofs.ByteMaps.{seen_insert}
use Rattle.cs_value.proofs.StateLemmas.{state_insert}
use Rattle.cs_rows.specs.contracts.memory.MemRows.{the_view}
use Rattle.cs_rows.proofs.MemoryLemmas.{seen_tables}
use Rattle.cs_rows.proofs.memory.MemRows.insert_table.Goals as goal

-- the tables with one more
tables_are : (c : goal.Joined-branch-2) → seen_tables c.insert.new.self.entries ≡ map.insert (seen_tables c.self.inside.tables.entries) (string_bytes c.args.name) c.args.table
tables_are c = seen_insert string_bytes (λ t. t) c.self.inside.tables.entries c.insert.new.self.entries c.args.name c.args.table c.in_ok-insert.ensures.entries

pub invariant_of-self : goal.invariant_of-self
invariant_of-self c = rw c.in_err-insert.ensures.err c.self.invariant

pub invariant_of-self-2 : goal.invariant_of-self-2
invariant_of-self-2 c = rw (tables_are c) (state_insert (the_view c.self.inside) (string_bytes c.args.name) c.args.table c.self.invariant c.requires.name c.requires.table)

pub returns-clause-ok : goal.returns-clause-ok
returns-clause-ok c = tables_are c ∙ ap (λ m. map.insert m (string_bytes c.args.name) c.args.table) c.self.view_is
