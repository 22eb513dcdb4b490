-- `memory::MemRowsRows::list`: the clause `listed`.
use Rattle.std.proofs.Common.{◌∙◌, ap, sym}
use Rattle.std.specs.FinMap as map
use Rattle.cs_rows.proofs.MemoryLemmas.{rows_at_absent, no_values}
use Rattle.cs_rows.proofs.memory.MemRowsRows.list.Goals as goal

pub returns-in-None-clause-listed : goal.returns-in-None-clause-listed
returns-in-None-clause-listed c =
    c.new.ensures.items ∙ sym no_values ∙ ap map.values (sym (rows_at_absent c.args.self.now c.args.table.now (sym c.in-None.ensures)))
