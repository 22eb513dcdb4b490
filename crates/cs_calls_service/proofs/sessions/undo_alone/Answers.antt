-- `sessions::undo_alone`: the transaction does not begin, the undo is refused in it, there is no memory for the answer,
-- it is committed, or it is not.
use Rattle.std.proofs.Common.{inr, subst, sym}
use Rattle.sqlite.specs.Held.{state}
use Rattle.cs_store.specs.Store.{tables_in}
use Rattle.cs_calls_answers.specs.declared.answer.Answer.{Answer}
use Rattle.cs_calls_executor.specs.Answered.{IsResource}
use Rattle.cs_calls_executor.specs.Calls.{IsUnsent, Spells}
use Rattle.cs_calls_executor.proofs.CallLemmas.{resource}
use Rattle.cs_calls_executor.proofs.ReadLemmas.{no_memory}
use Rattle.cs_calls_service.proofs.SessionLemmas.{changes_refused, committed_undo, refused_undo, unbegun_undo, uncommitted_undo, undone_unsent}
use Rattle.cs_calls_service.proofs.sessions.undo_alone.Goals as goal

pub returns-in-Err : goal.returns-in-Err
returns-in-Err g c =
    let it = c.in-Err.ensures in
    unbegun_undo g.S.Store g.met.S.Store.settled g.met.S.Store.stays c.args.store c.in-Err.store c.crash_law.ensures c.args.session.now c.store_refusal.result (resource c.in-Err.error c.store_refusal.result c.store_refusal.ensures it.refused) it.keeps_crash it.kept

pub returns-in-Err-undo_in_transaction : goal.returns-in-Err-undo_in_transaction
returns-in-Err-undo_in_transaction g c =
    let it = c.in-Ok.ensures in
    let one = c.in-Err-undo_in_transaction.ensures in
    let begun = state g.S.Store c.in-Ok.transaction in
    refused_undo g.S.Store g.met.S.Store.settled g.met.S.Store.stays c.args.store c.roll_back.result c.crash_law.ensures c.args.session.now begun (state g.S.Store c.undo_in_transaction.new.transaction) it.begun it.survives c.session_refusal.result one.within.kept
    (λ clean. changes_refused (tables_in begun.now) c.args.session.now c.in-Err-undo_in_transaction.fault c.session_refusal.result c.session_refusal.ensures (one.refused clean)) c.roll_back.ensures.survives c.roll_back.ensures.undone

pub returns-in-Err-bytes_of : goal.returns-in-Err-bytes_of
returns-in-Err-bytes_of g c =
    let it = c.in-Ok.ensures in
    let why = c.in-Err-bytes_of.why in
    let end = c.roll_back-in-Err-bytes_of in
    let memory = undone_unsent c.in-Ok-undo_in_transaction.report why (subst (λ (a : Answer). IsUnsent a why) c.undone.ensures c.in-Err-bytes_of.ensures.err) in
    refused_undo g.S.Store g.met.S.Store.settled g.met.S.Store.stays c.args.store end.result c.crash_law.ensures c.args.session.now (state g.S.Store c.in-Ok.transaction) (state g.S.Store c.undo_in_transaction.new.transaction) it.begun it.survives why
    c.in-Ok-undo_in_transaction.ensures.within.kept (λ clean. inr (subst IsResource (sym memory) no_memory)) end.ensures.survives end.ensures.undone

pub returns-in-Ok-commit : goal.returns-in-Ok-commit
returns-in-Ok-commit g c =
    let it = c.in-Ok.ensures in
    let one = c.in-Ok-undo_in_transaction.ensures in
    let end = c.in-Ok-commit.ensures in
    let bytes = c.in-Ok-bytes_of.bytes in
    committed_undo g.S.Store g.met.S.Store.settled g.met.S.Store.stays c.args.store c.in-Ok-commit.store c.crash_law.ensures c.args.session.now (state g.S.Store c.in-Ok.transaction) (state g.S.Store c.undo_in_transaction.new.transaction) it.begun it.survives
    c.in-Ok-undo_in_transaction.report one.within.kept one.undone end.atomic bytes (subst (λ (a : Answer). Spells a bytes) c.undone.ensures c.in-Ok-bytes_of.ensures.ok) end.committed end.others end.left

pub returns : goal.returns
returns g c =
    let it = c.in-Ok.ensures in
    let one = c.in-Ok-undo_in_transaction.ensures in
    let end = c.in-Err-commit.ensures in
    let why = c.store_refusal-in-Err-commit.result in
    uncommitted_undo g.S.Store g.met.S.Store.settled g.met.S.Store.stays c.args.store c.in-Err-commit.store c.crash_law.ensures c.args.session.now (state g.S.Store c.in-Ok.transaction) (state g.S.Store c.undo_in_transaction.new.transaction) it.begun it.survives
    c.in-Ok-undo_in_transaction.report one.within.kept one.undone end.unsure why (resource c.in-Err-commit.error why c.store_refusal-in-Err-commit.ensures end.refused) end.undone
