-- `session::Session::revert`: the invariant of `self`, and the clauses.
use Rattle.std.proofs.Common.{map, rules}
use Rattle.std.proofs.lemmas.Result.{IfErr-weaker, IfOk-weaker}
use Rattle.sqlite.specs.Held.{state}
use Rattle.cs_store.specs.Store.{tables_in}
use Rattle.cs_apply_conflict_kinds.specs.declared.conflict.Noop.TheVariants.{Report as Reported}
use Rattle.cs_apply_engine.specs.declared.report.Report.{Report}
use Rattle.cs_apply_engine.specs.declared.running.Direction.TheVariants.{Inverse}
use Rattle.cs_apply_engine.specs.Running.{AlwaysAborts}
use Rattle.cs_apply.proofs.CrashLemmas.{revert_transacts}
use Rattle.cs_session_notes.specs.FirstImages.{Notes}
use Rattle.cs_session_notes.specs.Views.{attached_of}
use Rattle.cs_session.specs.Recording.{RecordsApply}
use Rattle.cs_session.proofs.RecordLemmas.{applied_rewound, records_weaker, refuses_recorded_weaker, recorded_reverts}
use Rattle.cs_session.proofs.SettleLemmas.{are_notes, if_notes, same_notes}
use Rattle.cs_session.proofs.session.Session.revert.Goals as goal

pub invariant_of-self : goal.invariant_of-self
invariant_of-self g c = (
  are_notes c.self.inside.tables c.apply_batch-result.new.tables c.settle.new.self c.self.invariant.1 c.apply_batch-result.ensures.notes c.apply_batch-result.result c.is_ok.result (c.is_ok.ensures.value, c.settle.ensures.settled)
      c.self.invariant.0 c.apply_batch-result.ensures.well_formed,
  c.settle.ensures.none_pending,
)

pub returns-clause-same : goal.returns-clause-same
returns-clause-same g c =
    rw (← c.self.view_is)
    (same_notes c.self.inside.tables c.apply_batch-result.new.tables c.settle.new.self c.self.invariant.1 c.apply_batch-result.ensures.notes c.apply_batch-result.result c.is_ok.result (c.is_ok.ensures.value, c.settle.ensures.settled))

pub returns-clause-recorded : goal.returns-clause-recorded
returns-clause-recorded g c clean =
    let old = tables_in (state g.S.Store c.args.store.now).now in
    let new = tables_in (state g.S.Store c.apply_batch-result.new.store).now in
    let r = c.apply_batch-result.result in
    let aborts = IfOk-weaker r _ _ (λ report done. records_weaker _ AlwaysAborts (λ k chosen given. search rules) Reported c.args.file.now Inverse old new (map attached_of c.self.inside.tables) (map attached_of c.apply_batch-result.new.tables) report done)
    (c.apply_batch-result.ensures.recorded clean) in
    rw (← c.self.view_is)
    (if_notes c.self.inside.tables c.apply_batch-result.new.tables c.settle.new.self c.self.invariant.1 c.apply_batch-result.ensures.notes r c.is_ok.result (c.is_ok.ensures.value, c.settle.ensures.settled)
    (λ (report : Report) (notes : Notes). RecordsApply AlwaysAborts Reported c.args.file.now Inverse old (map attached_of c.self.inside.tables) report new notes) aborts)

pub returns-clause-refused : goal.returns-clause-refused
returns-clause-refused g c clean =
    rw (← c.self.view_is)
    (IfErr-weaker c.apply_batch-result.result _ _ (λ e refused. refuses_recorded_weaker _ AlwaysAborts (λ k chosen given. search rules) Reported c.args.file.now Inverse _ (map attached_of c.self.inside.tables) e refused)
    (c.apply_batch-result.ensures.refused clean))

pub returns-clause-rewound : goal.returns-clause-rewound
returns-clause-rewound g c clean =
    applied_rewound c.apply_batch-result.result AlwaysAborts Reported c.args.file.now Inverse _ c.args.self.now _ _ (returns-clause-recorded g c clean)

pub returns-clause-reverts : goal.returns-clause-reverts
returns-clause-reverts g c clean before leads =
    recorded_reverts c.apply_batch-result.result c.changeset_files_law.ensures c.args.file.now before _ _ c.args.self.now _ leads (returns-clause-recorded g c clean) (returns-clause-refused g c clean) c.apply_batch-result.ensures.named

pub returns-clause-transacts : goal.returns-clause-transacts
returns-clause-transacts g c =
    revert_transacts _ AlwaysAborts (λ k chosen given. search rules) Reported c.args.file.now Inverse _ _ _ c.apply_batch-result.result c.apply_batch-result.ensures.transacts
