-- `memory::MemRows::row`: the clauses `found` and `fits`.
use Rattle.std.proofs.Common.{◌∙◌, ap, sym}
use Rattle.std.specs.Option.{option_copied}
use Rattle.std.proofs.lemmas.Option.{IfSome_then}
use Rattle.cs_rows.proofs.MemoryLemmas.{row_at_absent}
use Rattle.cs_rows.proofs.memory.MemRows.row.Goals as goal

pub returns-in_err-table-clause-found : goal.returns-in_err-table-clause-found
returns-in_err-table-clause-found c = rw c.from_residual.ensures (sym (row_at_absent c.args.self.now c.args.name.now c.args.key.now (sym c.table.ensures ∙ ap option_copied c.in_err-table.was)))

pub returns-clause-fits : goal.returns-clause-fits
returns-clause-fits c =
    IfSome_then c.get.result c.get.ensures.fits (λ row fit. record { table = c.in_ok-table.field-0.now; found = sym c.table.ensures ∙ ap option_copied c.in_ok-table.was; fit = fit })
