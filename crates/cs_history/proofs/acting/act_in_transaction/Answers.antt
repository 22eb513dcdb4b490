-- `acting::act_in_transaction`: what it ensures.
use Rattle.std.proofs.Common.{Bool, subst}
use Rattle.sqlite.specs.Held.{state}
use Rattle.cs_store.specs.Within.{EndsCall}
use Rattle.cs_session_notes.specs.FirstImages.{recorded_changes, rewound_state}
use Rattle.cs_history.specs.Actions.{Notes}
use Rattle.cs_history.proofs.WorkLemmas.{call_carries, ended_carries, unreleased_carries}
use Rattle.cs_history.proofs.acting.act_in_transaction.Goals as goal

pub returns-in_err-mark : goal.returns-in_err-mark
returns-in_err-mark g c = record { noted = ended_carries _ c.from_residual.result _ c.from_residual.ensures.1 _ _ c.mark.ensures.survives c.in_err-mark.ensures.undone }

pub returns-in_err-end_call : goal.returns-in_err-end_call
returns-in_err-end_call g c =
    let old = state g.S.Store c.args.transaction.now in
    let marked = state g.S.Store c.mark.new.self in
    let mid = state g.S.Store c.act_on_rows-result.new.transaction in
    record {
      noted = unreleased_carries old marked mid c.in_ok-mark.ensures.marked c.mark.ensures.survives (state g.S.Store c.end_call.new.self) _ c.act_on_rows-result.result
          c.from_residual-in_err-end_call.result _ c.from_residual-in_err-end_call.ensures.1 c.act_on_rows-result.ensures.works c.end_call.ensures.survives c.in_err-end_call.ensures.undone;
    }

pub returns : goal.returns
returns g c =
    let old = state g.S.Store c.args.transaction.now in
    let marked = state g.S.Store c.mark.new.self in
    let mid = state g.S.Store c.act_on_rows-result.new.transaction in
    let new = state g.S.Store c.end_call.new.self in
    record {
      noted = call_carries old marked mid c.in_ok-mark.ensures.marked c.mark.ensures.survives new (λ noted before after. Notes c.args.name.now c.args.label.now (recorded_changes c.args.session.now before) (rewound_state c.args.session.now before) noted before after) c.act_on_rows-result.result
          c.act_on_rows-result.ensures.works c.end_call.ensures.survives
          (λ before db marks clean. subst (λ (b : Bool). EndsCall b before db mid new) c.is_ok.ensures.value (c.in_ok-end_call.ensures.ends before db marks clean));
    }
