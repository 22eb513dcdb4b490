use Rattle.std.proofs.Common.{rules}
-- `turning::apply_file`: what it ensures.
use Rattle.sqlite.specs.Held.{state}
use Rattle.cs_store.specs.Store.{tables_in}
use Rattle.cs_history.proofs.FaultLemmas.{apply_named, resource_named}
use Rattle.cs_history.proofs.TurnLemmas.{aborts_into, applies_err, applies_reach}
use Rattle.cs_apply_conflict_kinds.specs.declared.conflict.Noop.TheVariants.{Report as Reported}
use Rattle.cs_apply_engine.specs.declared.running.Direction.TheVariants.{Forward}
use Rattle.cs_apply_engine.specs.Running.{AlwaysAborts}
use Rattle.cs_apply.proofs.RevertLemmas.{refuses_weaker}
use Rattle.cs_history.proofs.WorkLemmas.{works_err}
use Rattle.cs_history.proofs.turning.apply_file.Goals as goal

pub returns-in_err-apply_in_transaction-clause-works : goal.returns-in_err-apply_in_transaction-clause-works
returns-in_err-apply_in_transaction-clause-works g c = works_err c.from_residual.result _ c.from_residual.ensures.1 c.apply_in_transaction.ensures.within.kept

pub returns-in_err-apply_in_transaction-clause-named : goal.returns-in_err-apply_in_transaction-clause-named
returns-in_err-apply_in_transaction-clause-named g c = apply_named c.from_residual.result c.in_err-apply_in_transaction.field-0.0 c.from_residual.ensures.1

pub returns-clause-works : goal.returns-clause-works
returns-clause-works g c =
    let old = state g.S.Store c.args.transaction.now in
    let new = state g.S.Store c.apply_in_transaction.new.transaction in
    let within = c.in_ok-apply_in_transaction.ensures.within in
    record {
      kept = within.kept;
      made = λ clean inside. (
        (within.made clean).0.inside,
        (
          aborts_into _ (λ k chosen given. search rules) c.args.file.now (tables_in old.now) (tables_in new.now) (within.made clean).1,
          λ reached leads.
              applies_reach c.changeset_files_law.ensures _ c.args.file.now (tables_in old.now) (tables_in new.now) reached c.in_ok-apply_in_transaction.field-0 (c.in_ok-apply_in_transaction.ensures.applied clean) leads,
        ),
      );
    }

pub returns-in_err-apply_in_transaction-clause-clean : goal.returns-in_err-apply_in_transaction-clause-clean
returns-in_err-apply_in_transaction-clause-clean g c clean reached leads =
    resource_named c.from_residual.result c.in_err-apply_in_transaction.field-0.0 c.from_residual.ensures.1
    (applies_err c.changeset_files_law.ensures c.args.file.now _ reached leads c.in_err-apply_in_transaction.field-0.0
    (refuses_weaker _ AlwaysAborts (λ k chosen it. search rules) Reported c.args.file.now Forward _ c.in_err-apply_in_transaction.field-0.0 (c.in_err-apply_in_transaction.ensures.refused clean)))
