-- `memory::Table::get`: the clauses `found` and `fits`.
use Rattle.std.proofs.Common.{ap}
use Rattle.std.specs.Option.{option_copied}
use Rattle.cs_value.specs.State.{TableData, IsRowAt}
use Rattle.cs_value.proofs.ByteMaps.{got_seen}
use Rattle.cs_rows.proofs.Found.{seen, if_found}
use Rattle.cs_rows.proofs.memory.Table.get.Goals as goal

pub returns-clause-found : goal.returns-clause-found
returns-clause-found c = seen (got_seen (λ k. k) (λ v. v) (option_copied c.get.result) c.self.inside.rows.entries c.args.key.now c.args.self.now.rows c.get.ensures.value (ap (λ (t : TableData). t.rows) c.self.view_is))

pub returns-clause-fits : goal.returns-clause-fits
returns-clause-fits c =
    if_found c.get.result _ (IsRowAt c.args.self.now.schema c.args.key.now) (returns-clause-found c) (rw (← c.self.view_is) (c.self.invariant.rows c.args.key.now))
