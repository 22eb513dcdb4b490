-- `calling::call_in_transaction`: what it ensures.
use Rattle.std.proofs.Common.{Bool, IfErr, subst}
use Rattle.sqlite.specs.Effect.{Database}
use Rattle.sqlite.specs.Held.{state}
use Rattle.cs_store.specs.Laws.{was_clean}
use Rattle.cs_store.specs.Store.{tables_in}
use Rattle.cs_store.specs.Within.{EndsCall}
use Rattle.cs_history.specs.Calls.{CanCall, Does, HasNone, IsForeign}
use Rattle.cs_history.specs.Faults.{IsTold}
use Rattle.cs_history.proofs.FaultLemmas.{other_told, store_named}
use Rattle.cs_history.proofs.WorkLemmas.{call_carries, ended_carries, unreleased_carries}
use Rattle.cs_history.proofs.calling.call_in_transaction.Goals as goal

pub returns-in_err-mark : goal.returns-in_err-mark
returns-in_err-mark g c = record {
  done = ended_carries _ c.from_residual.result _ c.from_residual.ensures.1 _ _ c.mark.ensures.survives c.in_err-mark.ensures.undone;
  refused = λ clean inside. other_told _ _ _ c.from_residual.result (store_named c.from_residual.result c.in_err-mark.field-0.0 c.from_residual.ensures.1);
}

pub returns-in_err-end_call : goal.returns-in_err-end_call
returns-in_err-end_call g c =
    let old = state g.S.Store c.args.transaction.now in
    let marked = state g.S.Store c.mark.new.self in
    let mid = state g.S.Store c.work-result.new.transaction in
    record {
      done = unreleased_carries old marked mid c.in_ok-mark.ensures.marked c.mark.ensures.survives (state g.S.Store c.end_call.new.self) _ c.work-result.result
          c.from_residual-in_err-end_call.result _ c.from_residual-in_err-end_call.ensures.1 c.work-result.ensures.works c.end_call.ensures.survives c.in_err-end_call.ensures.undone;
      refused = λ clean inside. other_told _ _ _ c.from_residual-in_err-end_call.result (store_named c.from_residual-in_err-end_call.result c.in_err-end_call.field-0.0 c.from_residual-in_err-end_call.ensures.1);
    }

pub returns : goal.returns
returns g c =
    let old = state g.S.Store c.args.transaction.now in
    let marked = state g.S.Store c.mark.new.self in
    let mid = state g.S.Store c.work-result.new.transaction in
    let new = state g.S.Store c.end_call.new.self in
    record {
      done = call_carries old marked mid c.in_ok-mark.ensures.marked c.mark.ensures.survives new (λ x before after. Does c.args.call c.args.name.now before after) c.work-result.result
          c.work-result.ensures.works c.end_call.ensures.survives
          (λ before db marks clean. subst (λ (b : Bool). EndsCall b before db mid new) c.is_ok.ensures.value (c.in_ok-end_call.ensures.ends before db marks clean));
      refused = λ clean inside.
          let before = was_clean mid new c.end_call.ensures.survives clean in
          let shown = (c.in_ok-mark.ensures.marked (was_clean marked mid c.work-result.ensures.works.kept.crash before)).1 in
          subst (λ (db : Database). IfErr c.work-result.result (IsTold (HasNone c.args.call c.args.name.now (tables_in db)) (¬ CanCall c.args.call c.args.name.now (tables_in db)) (IsForeign c.args.call c.args.name.now (tables_in db)))) shown.now_is
          (c.work-result.ensures.refused before shown.mode);
    }
