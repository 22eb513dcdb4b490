-- `session::Session::apply_recorded`: the invariant of `self`, the clauses `same`, `rewound` and `clean`.
use Rattle.std.proofs.Common.{map}
use Rattle.std.specs.Fn.{FnReturnsAt}
use Rattle.sqlite.specs.Held.{state}
use Rattle.cs_store.specs.Laws.{was_clean}
use Rattle.cs_store.specs.Store.{tables_in}
use Rattle.cs_apply_engine.specs.declared.report.Report.{Report}
use Rattle.cs_apply_engine.specs.declared.running.Direction.TheVariants.{Forward}
use Rattle.cs_session_notes.specs.FirstImages.{Notes}
use Rattle.cs_session_notes.specs.Views.{attached_of}
use Rattle.cs_session.specs.Recording.{RecordsApply}
use Rattle.cs_session.proofs.RecordLemmas.{applied_rewound, recorded_leads}
use Rattle.cs_session.proofs.SettleLemmas.{are_notes, if_notes, same_notes}
use Rattle.cs_session.proofs.session.Session.apply_recorded.Goals as goal

pub invariant_of-self : goal.invariant_of-self
invariant_of-self g c = (
  are_notes c.self.inside.tables c.apply_batch-result.new.tables c.settle.new.self c.self.invariant.1 c.apply_batch-result.ensures.notes c.apply_batch-result.result c.is_ok.result (c.is_ok.ensures.value, c.settle.ensures.settled)
      c.self.invariant.0 c.apply_batch-result.ensures.well_formed,
  c.settle.ensures.none_pending,
)

pub returns-clause-same : goal.returns-clause-same
returns-clause-same g c =
    rw (← c.self.view_is)
    (same_notes c.self.inside.tables c.apply_batch-result.new.tables c.settle.new.self c.self.invariant.1 c.apply_batch-result.ensures.notes c.apply_batch-result.result c.is_ok.result (c.is_ok.ensures.value, c.settle.ensures.settled))

pub returns-clause-rewound : goal.returns-clause-rewound
returns-clause-rewound g c clean =
    let old = tables_in (state g.S.Store c.args.store.now).now in
    let new = tables_in (state g.S.Store c.apply_batch-result.new.store).now in
    let r = c.apply_batch-result.result in
    let chooses = FnReturnsAt g.H.Fn c.args.handler.now in
    let recorded = if_notes c.self.inside.tables c.apply_batch-result.new.tables c.settle.new.self c.self.invariant.1 c.apply_batch-result.ensures.notes r c.is_ok.result (c.is_ok.ensures.value, c.settle.ensures.settled)
    (λ (report : Report) (notes : Notes). RecordsApply chooses c.args.noop c.args.file.now Forward old (map attached_of c.self.inside.tables) report new notes) (c.apply_batch-result.ensures.recorded clean) in
    rw (← c.self.view_is) (applied_rewound r chooses c.args.noop c.args.file.now Forward old (map attached_of c.self.inside.tables) new (map attached_of c.settle.new.self) recorded)

pub returns-clause-clean : goal.returns-clause-clean
returns-clause-clean g c clean =
    let old = state g.S.Store c.args.store.now in
    let new = state g.S.Store c.apply_batch-result.new.store in
    recorded_leads old new c.apply_batch-result.result (was_clean old new c.apply_batch-result.ensures.transacts.atomic.survives) (c.apply_batch-result.ensures.shut clean) c.tables_law.ensures clean (FnReturnsAt g.H.Fn c.args.handler.now) c.args.noop c.args.file.now _ _ _
    (c.apply_batch-result.ensures.recorded clean)
