-- `table::check_table`: what it ensures.
use Rattle.std.proofs.Common.{◌≡◌, true≢false, Some, sym, ◌∙◌}
use Rattle.cs_history.specs.Stored.{history_schema}
use Rattle.cs_history.proofs.FaultLemmas.{foreign_told}
use Rattle.cs_history.proofs.WorkLemmas.{works_err}
use Rattle.cs_history.proofs.table.check_table.Goals as goal

pub returns-in_err-schema-clause-works : goal.returns-in_err-schema-clause-works
returns-in_err-schema-clause-works g c = works_err c.from_residual.result _ c.from_residual.ensures.1 c.find_schema.ensures.works.kept

pub returns-in-Some-clause-refused : goal.returns-in-Some-clause-refused
returns-in-Some-clause-refused g c clean inside =
    foreign_told _ _ _ c.check_schema.result c.check_schema.ensures.named (λ refused history.
    let is : Some c.in-Some.schema ≡ Some history_schema = sym c.in-Some.is ∙ (c.in_ok-schema.ensures.works.made clean inside).1.1 ∙ history in
    let schema : c.in-Some.schema ≡ history_schema = cc in
    true≢false (sym (c.check_schema.ensures.checked.1 schema) ∙ refused))
