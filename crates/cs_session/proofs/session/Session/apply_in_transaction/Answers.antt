-- `session::Session::apply_in_transaction`: the invariant of `self`, the clauses `same`, `rewound` and `clean`.
use Rattle.std.proofs.Common.{map}
use Rattle.std.specs.Fn.{FnReturnsAt}
use Rattle.std.proofs.lemmas.Result.{IfOk-weaker, on_ok_weaker}
use Rattle.sqlite.specs.Held.{state}
use Rattle.cs_store.specs.Laws.{was_clean}
use Rattle.cs_store.specs.Store.{tables_in}
use Rattle.cs_apply.proofs.TransactionLemmas.{clean_leads}
use Rattle.cs_apply_engine.specs.declared.report.Report.{Report}
use Rattle.cs_apply_engine.specs.declared.running.Direction.TheVariants.{Forward}
use Rattle.cs_session_notes.specs.FirstImages.{Notes}
use Rattle.cs_session_notes.specs.Views.{attached_of}
use Rattle.cs_session.specs.Recording.{RecordsApply}
use Rattle.cs_session.proofs.RecordLemmas.{applied_rewound}
use Rattle.cs_session.proofs.SettleLemmas.{are_notes, if_notes, same_notes}
use Rattle.cs_session.proofs.session.Session.apply_in_transaction.Goals as goal

pub invariant_of-self : goal.invariant_of-self
invariant_of-self g c = (
  are_notes c.self.inside.tables c.apply_call-result.new.tables c.settle.new.self c.self.invariant.1 c.apply_call-result.ensures.notes c.apply_call-result.result c.is_ok.result (c.is_ok.ensures.value, c.settle.ensures.settled)
      c.self.invariant.0 c.apply_call-result.ensures.well_formed,
  c.settle.ensures.none_pending,
)

pub returns-clause-same : goal.returns-clause-same
returns-clause-same g c =
    rw (← c.self.view_is)
    (same_notes c.self.inside.tables c.apply_call-result.new.tables c.settle.new.self c.self.invariant.1 c.apply_call-result.ensures.notes c.apply_call-result.result c.is_ok.result (c.is_ok.ensures.value, c.settle.ensures.settled))

pub returns-clause-rewound : goal.returns-clause-rewound
returns-clause-rewound g c clean =
    let old = tables_in (state g.S.Store c.args.transaction.now).now in
    let new = tables_in (state g.S.Store c.apply_call-result.new.transaction).now in
    let r = c.apply_call-result.result in
    let chooses = FnReturnsAt g.H.Fn c.args.handler.now in
    let recorded = if_notes c.self.inside.tables c.apply_call-result.new.tables c.settle.new.self c.self.invariant.1 c.apply_call-result.ensures.notes r c.is_ok.result (c.is_ok.ensures.value, c.settle.ensures.settled)
    (λ (report : Report) (notes : Notes). RecordsApply chooses c.args.noop c.args.file.now Forward old (map attached_of c.self.inside.tables) report new notes) (c.apply_call-result.ensures.recorded clean) in
    rw (← c.self.view_is) (applied_rewound r chooses c.args.noop c.args.file.now Forward old (map attached_of c.self.inside.tables) new (map attached_of c.settle.new.self) recorded)

pub returns-clause-clean : goal.returns-clause-clean
returns-clause-clean g c clean =
    let old = state g.S.Store c.args.transaction.now in
    let new = state g.S.Store c.apply_call-result.new.transaction in
    let r = c.apply_call-result.result in
    let within = c.apply_call-result.ensures.within in
    let was = was_clean old new within.kept.crash clean in
    clean_leads r (FnReturnsAt g.H.Fn c.args.handler.now) c.args.noop c.args.file.now (tables_in old.now) (tables_in new.now)
    (on_ok_weaker r (λ made. (c.store_law.ensures.holds was ((within.kept.commit clean).was_open made.0.is_open)).0.stores.is_state) (within.made clean))
    (IfOk-weaker r _ _ (λ report done. done.applied) (c.apply_call-result.ensures.recorded clean))
