-- `table::open_table`: what it ensures.
use Rattle.std.proofs.Common.{◌≡◌, None, Some, true≢false, option_map, inr, sym, ap, subst, ◌∙◌}
use Rattle.std.specs.FinMap.{get}
use Rattle.cs_value.specs.State.{State, with_table}
use Rattle.cs_history.specs.Stored.{Opens, history_schema}
use Rattle.std.proofs.lemmas.Option.{none-some}
use Rattle.cs_value.specs.State.{TableData}
use Rattle.cs_history.proofs.FaultLemmas.{foreign_told, other_told}
use Rattle.cs_history.proofs.WorkLemmas.{works_err, works_on}
use Rattle.cs_history.proofs.table.open_table.Goals as goal

pub returns-in_err-schema-clause-works : goal.returns-in_err-schema-clause-works
returns-in_err-schema-clause-works g c = works_err c.from_residual.result _ c.from_residual.ensures.1 c.find_schema.ensures.works.kept

pub returns-in-None-clause-works : goal.returns-in-None-clause-works
returns-in-None-clause-works g c =
    works_on (λ x before after. Opens c.args.name.now before after) c.declare_table.result c.in_ok-schema.ensures.works c.declare_table.ensures.works (λ x read made.
    inr (subst (λ (s : State). get s c.args.name.now ≡ None) read.0 made.1, made.2 ∙ ap (λ (s : State). with_table s c.args.name.now history_schema) read.0))

pub returns-in-Some-clause-refused : goal.returns-in-Some-clause-refused
returns-in-Some-clause-refused g c clean inside =
    let there = sym c.in-Some.is ∙ (c.in_ok-schema.ensures.works.made clean inside).1.1 in
    foreign_told _ _ _ c.check_schema.result c.check_schema.ensures.named (λ refused. (
      λ history.
          let is : Some c.in-Some.schema ≡ Some history_schema = there ∙ history in
          let schema : c.in-Some.schema ≡ history_schema = cc in
          true≢false (sym (c.check_schema.ensures.checked.1 schema) ∙ refused),
      λ none. none-some c.in-Some.schema (sym (there ∙ ap (option_map (λ (t : TableData). t.schema)) none)),
    ))

pub returns-in-None-clause-refused : goal.returns-in-None-clause-refused
returns-in-None-clause-refused g c clean inside = other_told _ _ _ c.declare_table.result c.declare_table.ensures.named
