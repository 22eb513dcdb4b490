-- `store::vollikash_store_open`: a store that is not opened has an error's number.
use Rattle.std.proofs.Common.{rules, w32, sym, ap, ◌∙◌}
use Rattle.std.specs.Prelude.{pos}
use Rattle.std.proofs.lemmas.Int.{to_z-of_z}
use Rattle.vollikash.specs.declared.answer.FaultReport.{FaultReport}
use Rattle.vollikash.proofs.StoreLemmas.{error_coded}
use Rattle.vollikash.proofs.store.vollikash_store_open.Goals as goal

pub returns-in-Ok-clause-found : goal.returns-in-Ok-clause-found
returns-in-Ok-clause-found c held finds is = c.in-Ok.ensures.found held finds

pub returns-in-Err-clause-opened : goal.returns-in-Err-clause-opened
returns-in-Err-clause-opened c is =
    let told = ap (λ (r : FaultReport). r.code) c.report_plain-in-Err.ensures ∙ to_z-of_z w32 c.from.result (search rules) in
    absurd (error_coded c.in-Err.error
    (ap pos (sym c.code.ensures) ∙ sym c.from.ensures ∙ sym told ∙ sym (to_z-of_z w32 c.report_plain-in-Err.result.code (search rules)) ∙ is))
