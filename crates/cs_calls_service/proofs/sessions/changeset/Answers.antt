-- `sessions::changeset`: the changes are not read, there is no memory for their file, or it is answered.
use Rattle.std.proofs.Common.{ap, ◌∙◌}
use Rattle.std.proofs.lemmas.Result.{err_from_is_err_and}
use Rattle.sqlite.specs.Held.{state}
use Rattle.cs_wire.specs.Changeset.{file_bytes}
use Rattle.cs_calls_answers.specs.Refusals.{out_of_memory}
use Rattle.cs_calls_executor.proofs.ReadLemmas.{no_memory}
use Rattle.cs_calls_service.proofs.SessionLemmas.{changes_session, unread_session, unwritten_session}
use Rattle.cs_calls_service.proofs.sessions.changeset.Goals as goal

pub returns-in-Err : goal.returns-in-Err
returns-in-Err g c =
    let it = c.in-Err.ensures in
    unread_session c.args.session.now (state g.S.Store c.args.store.now) (state g.S.Store c.changeset.new.store) it.survives it.kept c.in-Err.fault c.session_refusal.result c.session_refusal.ensures it.refused

pub returns-in_err-file : goal.returns-in_err-file
returns-in_err-file g c =
    let it = c.in-Ok.ensures in
    let p = err_from_is_err_and c.from_residual.result c.from_residual.ensures.1 in
    rw (p.1, p.2) (unwritten_session c.args.session.now (state g.S.Store c.args.store.now) (state g.S.Store c.changeset.new.store) it.survives it.kept out_of_memory no_memory)

pub returns : goal.returns
returns g c =
    let it = c.in-Ok.ensures in
    changes_session c.args.session.now (state g.S.Store c.args.store.now) (state g.S.Store c.changeset.new.store) it.survives it.kept c.new.result (λ clean. c.new.ensures ∙ c.in_ok-file.ensures ∙ ap file_bytes (it.made clean)) it.attached
    c.bytes_of.result c.bytes_of.ensures.ok c.bytes_of.ensures.err
