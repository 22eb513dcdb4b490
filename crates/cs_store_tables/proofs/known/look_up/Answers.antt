-- `known::look_up`: the clause `leads`.
use Rattle.cs_store_tables.specs.Laws.{leads_itself}
use Rattle.cs_store_tables.proofs.known.look_up.Goals as goal

pub returns-then-has_name-clause-leads : goal.returns-then-has_name-clause-leads
returns-then-has_name-clause-leads g c clean = leads_itself
