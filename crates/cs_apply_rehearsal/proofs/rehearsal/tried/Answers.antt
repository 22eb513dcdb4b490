-- `rehearsal::tried`: the mark is not set, the transaction goes back to it, or it has ended.
use Rattle.std.proofs.Common.{◌≡◌, IfErr, inl, rules, subst}
use Rattle.std.specs.Prelude.{IfOk}
use Rattle.std.proofs.lemmas.Result.{err_from_is_err_and, on_ok_weaker}
use Rattle.sqlite.specs.Effect.{Database}
use Rattle.sqlite.specs.Held.{state}
use Rattle.cs_store.specs.Laws.{was_clean}
use Rattle.cs_store.specs.Store.{tables_in}
use Rattle.cs_store.proofs.WithinLemmas.{ended_within, marked_fails, release_fails, unreleased_within}
use Rattle.cs_apply.proofs.TransactionLemmas.{resource_refusal}
use Rattle.cs_apply_engine.specs.Steps.{IsStoreRefusal}
use Rattle.cs_apply_engine.proofs.CauseLemmas.{caused_so, rows_caused_on}
use Rattle.cs_apply_rehearsal.specs.Rehearsal.{RefusesRehearsal}
use Rattle.cs_apply_rehearsal.specs.Trying.{Tries}
use Rattle.cs_apply_rehearsal.proofs.MarkLemmas.{tried_shown, tried_within}
use Rattle.cs_apply_rehearsal.proofs.TryLemmas.{refused_try, store_refuses, tried}
use Rattle.cs_apply_rehearsal.proofs.rehearsal.tried.Goals as goal

pub returns-in_err-mark-clause-within : goal.returns-in_err-mark-clause-within
returns-in_err-mark-clause-within g c =
    let p = err_from_is_err_and c.from_residual.result c.from_residual.ensures.1 in
    rw (p.1, p.2) (ended_within _ _ IsStoreRefusal _ _ (λ clean. inl (resource_refusal _ c.in_err-mark.ensures.refused).0) c.mark.ensures.survives c.in_err-mark.ensures.undone)

pub returns-in_err-mark-clause-refused : goal.returns-in_err-mark-clause-refused
returns-in_err-mark-clause-refused g c clean =
    let p = err_from_is_err_and c.from_residual.result c.from_residual.ensures.1 in
    rw (p.1, p.2) (store_refuses c.args.file.now _ _ c.in_err-mark.ensures.refused)

pub returns-in_err-end_call-clause-within : goal.returns-in_err-end_call-clause-within
returns-in_err-end_call-clause-within g c =
    let old = state g.S.Store c.args.transaction.now in
    let marked = state g.S.Store c.mark.new.self in
    let mid = state g.S.Store c.apply_in_transaction-result.new.transaction in
    let new = state g.S.Store c.end_call.new.self in
    let p = err_from_is_err_and c.from_residual-in_err-end_call.result c.from_residual-in_err-end_call.ensures.1 in
    rw (p.1, p.2) (unreleased_within old marked mid c.in_ok-mark.ensures.marked c.mark.ensures.survives c.apply_in_transaction-result.ensures.within.kept new _
    (λ left. left ≡ tables_in old.now) IsStoreRefusal
    (resource_refusal _ c.in_err-end_call.ensures.refused).0 c.end_call.ensures.survives c.in_err-end_call.ensures.undone)

pub returns-in_err-end_call-clause-refused : goal.returns-in_err-end_call-clause-refused
returns-in_err-end_call-clause-refused g c clean =
    let p = err_from_is_err_and c.from_residual-in_err-end_call.result c.from_residual-in_err-end_call.ensures.1 in
    rw (p.1, p.2) (store_refuses c.args.file.now _ _ c.in_err-end_call.ensures.refused)

pub returns-in_err-end_call-clause-caused : goal.returns-in_err-end_call-clause-caused
returns-in_err-end_call-clause-caused g c clean =
    let old = state g.S.Store c.args.transaction.now in
    let marked = state g.S.Store c.mark.new.self in
    let mid = state g.S.Store c.apply_in_transaction-result.new.transaction in
    let new = state g.S.Store c.end_call.new.self in
    rows_caused_on c.from_residual-in_err-end_call.result _ _ c.in_err-end_call.field-0.0 c.from_residual-in_err-end_call.ensures.1
    (λ why. release_fails old marked mid c.in_ok-mark.ensures.marked c.mark.ensures.survives c.apply_in_transaction-result.ensures.within.kept new _ why (was_clean mid new c.end_call.ensures.survives clean) c.end_call.ensures.survives.counts)
    (c.in_err-end_call.ensures.caused clean)

pub returns-clause-met : goal.returns-clause-met
returns-clause-met g c clean =
    let marked = state g.S.Store c.mark.new.self in
    let mid = state g.S.Store c.apply_in_transaction-result.new.transaction in
    let new = state g.S.Store c.end_call.new.self in
    let before = was_clean mid new c.end_call.ensures.survives clean in
    let shown = (c.in_ok-mark.ensures.marked (was_clean marked mid c.apply_in_transaction-result.ensures.within.kept.crash before)).1 in
    subst (λ (db : Database). IfOk c.apply_in_transaction-result.result (λ report. Tries c.args.noop c.args.file.now (tables_in db) report.conflicts.items)) shown.now_is
    (tried _ (λ k chosen given. search rules) c.args.noop c.args.file.now (tables_in marked.now) c.apply_in_transaction-result.result (tables_in mid.now) (c.apply_in_transaction-result.ensures.applied before))

pub returns-clause-refused : goal.returns-clause-refused
returns-clause-refused g c clean =
    let marked = state g.S.Store c.mark.new.self in
    let mid = state g.S.Store c.apply_in_transaction-result.new.transaction in
    let new = state g.S.Store c.end_call.new.self in
    let before = was_clean mid new c.end_call.ensures.survives clean in
    let shown = (c.in_ok-mark.ensures.marked (was_clean marked mid c.apply_in_transaction-result.ensures.within.kept.crash before)).1 in
    subst (λ (db : Database). IfErr c.apply_in_transaction-result.result (RefusesRehearsal c.args.file.now (tables_in db))) shown.now_is
    (refused_try _ (λ k chosen given. search rules) c.args.noop c.args.file.now (tables_in marked.now) c.apply_in_transaction-result.result (c.apply_in_transaction-result.ensures.refused before))

pub returns-clause-caused : goal.returns-clause-caused
returns-clause-caused g c clean =
    let old = state g.S.Store c.args.transaction.now in
    let marked = state g.S.Store c.mark.new.self in
    let mid = state g.S.Store c.apply_in_transaction-result.new.transaction in
    let new = state g.S.Store c.end_call.new.self in
    let before = was_clean mid new c.end_call.ensures.survives clean in
    caused_so c.apply_in_transaction-result.result _ _ (λ why. marked_fails old marked mid c.in_ok-mark.ensures.marked c.mark.ensures.survives c.apply_in_transaction-result.ensures.within.kept new _ why before c.end_call.ensures.survives) (c.apply_in_transaction-result.ensures.caused before)

pub returns-clause-shown : goal.returns-clause-shown
returns-clause-shown g c clean =
    let old = state g.S.Store c.args.transaction.now in
    let marked = state g.S.Store c.mark.new.self in
    let mid = state g.S.Store c.apply_in_transaction-result.new.transaction in
    let new = state g.S.Store c.end_call.new.self in
    let r = c.apply_in_transaction-result.result in
    tried_shown old marked mid new c.in_ok-mark.ensures.marked c.mark.ensures.survives c.apply_in_transaction-result.ensures.within.kept c.end_call.ensures.survives c.in_ok-end_call.ensures.ends
    r (λ was. on_ok_weaker r (λ made. made.0.inside) (c.apply_in_transaction-result.ensures.within.made was)) clean

pub returns-clause-within : goal.returns-clause-within
returns-clause-within g c =
    let old = state g.S.Store c.args.transaction.now in
    let marked = state g.S.Store c.mark.new.self in
    let mid = state g.S.Store c.apply_in_transaction-result.new.transaction in
    let new = state g.S.Store c.end_call.new.self in
    let r = c.apply_in_transaction-result.result in
    let within = c.apply_in_transaction-result.ensures.within in
    tried_within old marked mid new c.in_ok-mark.ensures.marked c.mark.ensures.survives within.kept c.end_call.ensures.survives c.in_ok-end_call.ensures.ends
    r (λ was. on_ok_weaker r (λ made. made.0.inside) (within.made was)) (λ was. within.goes_on was (c.in_ok-mark.ensures.marked (was_clean marked mid within.kept.crash was)).1.mode)
