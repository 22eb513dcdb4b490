-- `store::revert`: the clauses `applied`, `refused`, `reverts` and `transacts`.
use Rattle.std.proofs.Common.{Ok, Err, refl, rules}
use Rattle.std.proofs.lemmas.Result.{err_from_is_err_and}
use Rattle.cs_apply_conflict_kinds.specs.declared.conflict.Noop.TheVariants.{Report as Reported}
use Rattle.cs_apply_engine.specs.declared.running.Direction.TheVariants.{Inverse}
use Rattle.cs_apply_engine.specs.Running.{AlwaysAborts}
use Rattle.cs_apply_engine.proofs.OutcomeLemmas.{told_reports}
use Rattle.cs_apply.proofs.RevertLemmas.{reverts_ok, reverts_err, refuses_weaker, applies_weaker}
use Rattle.cs_apply.proofs.CrashLemmas.{revert_transacts}
use Rattle.cs_store.proofs.TransactLemmas.{transacts_on}
use Rattle.cs_apply.proofs.store.revert.Goals as goal

pub returns-clause-applied : goal.returns-clause-applied
returns-clause-applied g c = λ clean.
    let report = c.into_report.ensures in
    applies_weaker _ AlwaysAborts (λ k chosen given. search rules) Reported c.args.file.now Inverse _ c.into_report.result _
    (told_reports _ Reported c.args.file.now Inverse _ c.in_ok-tally.tally _ c.into_report.result (c.in_ok-tally.ensures.applied clean) report.conflicts report.skipped report.written report.ignored)

pub returns-clause-reverts : goal.returns-clause-reverts
returns-clause-reverts g c = λ clean before leads.
    reverts_ok AlwaysAborts c.changeset_files_law.ensures c.args.file.now before _ _ c.into_report.result leads (returns-clause-applied g c clean)

pub returns-in_err-tally-clause-refused : goal.returns-in_err-tally-clause-refused
returns-in_err-tally-clause-refused g c = λ clean.
    let p = err_from_is_err_and c.from_residual.result c.from_residual.ensures.1 in
    rw (p.1, p.2) (refuses_weaker _ AlwaysAborts (λ k chosen given. search rules) Reported c.args.file.now Inverse _ _ (c.in_err-tally.ensures.refused clean))

pub returns-in_err-tally-clause-reverts : goal.returns-in_err-tally-clause-reverts
returns-in_err-tally-clause-reverts g c = λ clean before leads.
    let p = err_from_is_err_and c.from_residual.result c.from_residual.ensures.1 in
    rw (p.1, p.2)
    (reverts_err c.changeset_files_law.ensures c.args.file.now before _ _ leads (refuses_weaker _ AlwaysAborts (λ k chosen given. search rules) Reported c.args.file.now Inverse _ _ (c.in_err-tally.ensures.refused clean)))

pub returns-in_err-tally-clause-transacts : goal.returns-in_err-tally-clause-transacts
returns-in_err-tally-clause-transacts g c =
    let p = err_from_is_err_and c.from_residual.result c.from_residual.ensures.1 in
    rw p.1 (revert_transacts _ AlwaysAborts (λ k chosen given. search rules) Reported c.args.file.now Inverse _ _ _ (Err _)
    (transacts_on _ _ _ (Err c.in_err-tally.field-0.0) (Err _) refl c.in_err-tally.ensures.transacts))

pub returns-clause-transacts : goal.returns-clause-transacts
returns-clause-transacts g c =
    revert_transacts _ AlwaysAborts (λ k chosen given. search rules) Reported c.args.file.now Inverse _ _ _ (Ok c.into_report.result)
    (transacts_on _ _ _ (Ok c.in_ok-tally.tally) (Ok c.into_report.result) refl c.in_ok-tally.ensures.transacts)
