-- `running::run_in`: the clause `applied`.
use Rattle.std.specs.Fn.{FnReturnsAt}
use Rattle.cs_apply_engine.proofs.OutcomeLemmas.{told_reports}
use Rattle.cs_apply_engine.proofs.running.run_in.Goals as goal

pub returns-clause-applied : goal.returns-clause-applied
returns-clause-applied g c = λ honest.
    let report = c.into_report.ensures in
    told_reports (FnReturnsAt g.H.Fn c.args.handler.now) c.args.noop c.args.file.now c.args.direction _ c.in_ok-tally.tally _ c.into_report.result (c.in_ok-tally.ensures.applied honest) report.conflicts report.skipped report.written report.ignored
