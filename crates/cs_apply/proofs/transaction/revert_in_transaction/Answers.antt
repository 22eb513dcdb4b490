-- `transaction::revert_in_transaction`: the clauses `applied`, `refused`, `reverts` and `within`.
use Rattle.std.proofs.Common.{rules}
use Rattle.std.proofs.lemmas.Result.{IfErr-weaker, IfOk-weaker, MatchResult-from_both}
use Rattle.cs_apply_conflict_kinds.specs.declared.conflict.Noop.TheVariants.{Report as Reported}
use Rattle.cs_apply_engine.specs.declared.running.Direction.TheVariants.{Inverse}
use Rattle.cs_apply_engine.specs.Running.{AlwaysAborts}
use Rattle.cs_apply_engine.specs.Steps.{IsStoreRefusal}
use Rattle.cs_apply.proofs.RevertLemmas.{reverts_ok, reverts_err, refuses_weaker, applies_weaker}
use Rattle.cs_apply.proofs.TransactionLemmas.{within_weaker}
use Rattle.cs_apply.proofs.transaction.revert_in_transaction.Goals as goal

pub returns-clause-applied : goal.returns-clause-applied
returns-clause-applied g c clean =
    IfOk-weaker c.call.result _ _ (λ report applied. applies_weaker _ AlwaysAborts (λ k chosen given. search rules) Reported c.args.file.now Inverse _ report _ applied) (c.call.ensures.applied clean)

pub returns-clause-refused : goal.returns-clause-refused
returns-clause-refused g c clean =
    IfErr-weaker c.call.result _ _ (λ e refused. refuses_weaker _ AlwaysAborts (λ k chosen given. search rules) Reported c.args.file.now Inverse _ e refused) (c.call.ensures.refused clean)

pub returns-clause-reverts : goal.returns-clause-reverts
returns-clause-reverts g c clean before leads =
    MatchResult-from_both c.call.result _ _
    (IfOk-weaker c.call.result _ _ (λ report applied. reverts_ok AlwaysAborts c.changeset_files_law.ensures c.args.file.now before _ _ report leads applied) (returns-clause-applied g c clean))
    (IfErr-weaker c.call.result _ _ (λ e refused. reverts_err c.changeset_files_law.ensures c.args.file.now before _ e leads refused) (returns-clause-refused g c clean))

pub returns-clause-within : goal.returns-clause-within
returns-clause-within g c =
    within_weaker c.call.result _ AlwaysAborts (λ k chosen given. search rules) Reported c.args.file.now Inverse _ IsStoreRefusal _ _ c.call.ensures.within
