-- `sessions::attach`: there is no memory for the answer, or the session refuses the table.
use Rattle.std.proofs.Common.{List, ℕ, Some, Err, subst, sym}
use Rattle.std.proofs.lemmas.Result.{err_from_is_err_and}
use Rattle.sqlite.specs.Held.{state}
use Rattle.sqlite.specs.State.{HasCleanDisk}
use Rattle.cs_store.specs.Store.{tables_in}
use Rattle.cs_session_notes.specs.Attaching.{RefusesAttach}
use Rattle.cs_calls_executor.specs.Answered.{IsResource}
use Rattle.cs_calls_executor.proofs.CallLemmas.{done_unsent}
use Rattle.cs_calls_executor.proofs.ReadLemmas.{no_memory}
use Rattle.cs_calls_service.specs.declared.sessions.SessionCall.TheVariants.{Attach}
use Rattle.cs_calls_service.proofs.SessionLemmas.{unattached_session, unsent_session}
use Rattle.cs_calls_service.proofs.sessions.attach.Goals as goal

pub returns-in_err-done : goal.returns-in_err-done
returns-in_err-done g c =
    let why = c.in_err-done.field-0.0 in
    let p = err_from_is_err_and c.from_residual.result c.from_residual.ensures.1 in
    rw (p.1, p.2) (unsent_session (Attach c.args.table.now) (Some c.args.session.now) (state g.S.Store c.args.store.now) why (subst IsResource (sym (done_unsent (Err why) c.in_err-done.ensures.err)) no_memory))

pub returns-in-Err : goal.returns-in-Err
returns-in-Err g c =
    let it = c.in-Err.ensures in
    let old = state g.S.Store c.args.store.now in
    let new = state g.S.Store c.attach.new.store in
    unattached_session c.args.table.now c.args.session.now old new it.kept c.attach.new.self c.in-Err.fault c.attach_refusal.result it.same c.attach_refusal.ensures
    (subst (λ (name : List ℕ). HasCleanDisk new → RefusesAttach (tables_in old.now) name c.args.session.now c.in-Err.fault) c.as_str.ensures.same it.refused)
