-- `store::apply`: the clauses `applied`, `clean` and `transacts`.
use Rattle.std.proofs.Common.{Ok, Err, refl}
use Rattle.std.specs.Fn.{FnReturnsAt}
use Rattle.std.proofs.lemmas.Result.{err_from_is_err_and}
use Rattle.sqlite.specs.Held.{state}
use Rattle.cs_store.specs.Laws.{was_clean}
use Rattle.cs_store.proofs.TransactLemmas.{transacts_on}
use Rattle.cs_apply_engine.proofs.OutcomeLemmas.{told_reports}
use Rattle.cs_apply.proofs.RevertLemmas.{done_state, leads_clean}
use Rattle.cs_apply.proofs.store.apply.Goals as goal

pub returns-clause-applied : goal.returns-clause-applied
returns-clause-applied g c = λ clean.
    let report = c.into_report.ensures in
    told_reports (FnReturnsAt g.H.Fn c.args.handler.now) c.args.noop c.args.file.now _ _ c.in_ok-tally.tally _ c.into_report.result (c.in_ok-tally.ensures.applied clean) report.conflicts report.skipped report.written report.ignored

pub returns-clause-clean : goal.returns-clause-clean
returns-clause-clean g c = λ clean.
    let old = state g.S.Store c.args.store.now in
    let new = state g.S.Store c.run.new.store in
    let is = done_state old new c.in_ok-tally.tally (was_clean old new c.run.ensures.transacts.atomic.survives) (c.in_ok-tally.ensures.shut clean) c.tables_law.ensures clean in
    leads_clean _ c.args.noop c.args.file.now _ _ _ _ _ _ is (returns-clause-applied g c clean)

pub returns-in_err-tally-clause-transacts : goal.returns-in_err-tally-clause-transacts
returns-in_err-tally-clause-transacts g c =
    let p = err_from_is_err_and c.from_residual.result c.from_residual.ensures.1 in
    rw p.1 (transacts_on _ _ _ (Err c.in_err-tally.field-0.0) (Err _) refl c.in_err-tally.ensures.transacts)

pub returns-clause-transacts : goal.returns-clause-transacts
returns-clause-transacts g c = transacts_on _ _ _ (Ok c.in_ok-tally.tally) (Ok c.into_report.result) refl c.in_ok-tally.ensures.transacts
