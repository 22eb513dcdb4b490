-- `carrying::carry_out_alone`: the transaction does not begin, the call is refused in it, or not noted, it is not
-- committed, or it is.
use Rattle.std.proofs.Common.{ap, ◌∙◌}
use Rattle.sqlite.specs.Held.{state}
use Rattle.cs_session.specs.Merged.{MergedNotes}
use Rattle.cs_calls_executor.proofs.CallLemmas.{resource}
use Rattle.cs_calls_service.proofs.AloneLemmas.{committed_alone, misfit_alone, refused_alone, unbegun_alone, uncommitted_alone}
use Rattle.cs_calls_service.proofs.carrying.carry_out_alone.Goals as goal

pub returns-in-Err : goal.returns-in-Err
returns-in-Err g c =
    let it = c.in-Err.ensures in
    unbegun_alone g.S.Store g.met.S.Store.settled g.met.S.Store.stays c.args.store c.in-Err.store c.crash_law.ensures c.args.call c.args.session c.store_refusal.result (resource c.in-Err.error c.store_refusal.result c.store_refusal.ensures it.refused) it.keeps_crash it.kept

pub returns-in-Err-carry_out : goal.returns-in-Err-carry_out
returns-in-Err-carry_out g c =
    let it = c.in-Ok.ensures in
    refused_alone g.S.Store g.met.S.Store.settled g.met.S.Store.stays c.args.store c.roll_back.result c.crash_law.ensures c.args.call c.args.session (state g.S.Store c.in-Ok.transaction) (state g.S.Store c.carry_out.new.transaction) it.begun it.survives
    c.in-Err-carry_out.why c.in-Err-carry_out.ensures c.roll_back.ensures.survives c.roll_back.ensures.undone

pub returns-in-Err-note : goal.returns-in-Err-note
returns-in-Err-note g c =
    let it = c.in-Ok.ensures in
    let end = c.roll_back-in-Err-note in
    misfit_alone g.S.Store g.met.S.Store.settled g.met.S.Store.stays c.args.store end.result c.crash_law.ensures c.args.call c.args.session (state g.S.Store c.in-Ok.transaction) (state g.S.Store c.carry_out.new.transaction) it.begun it.survives
    c.in-Ok-carry_out.carried c.in-Ok-carry_out.ensures c.in-Err-note.why c.in-Err-note.session c.in-Err-note.ensures.same c.in-Err-note.ensures.refused end.ensures.survives end.ensures.undone

pub returns-in-Ok-commit : goal.returns-in-Ok-commit
returns-in-Ok-commit g c =
    let it = c.in-Ok.ensures in
    let end = c.in-Ok-commit.ensures in
    let noted = c.in-Ok-note in
    committed_alone g.S.Store g.met.S.Store.settled g.met.S.Store.stays c.args.store c.in-Ok-commit.store c.crash_law.ensures c.args.call c.args.session (state g.S.Store c.in-Ok.transaction) (state g.S.Store c.carry_out.new.transaction) it.begun it.survives
    c.in-Ok-carry_out.carried c.in-Ok-carry_out.ensures end.atomic noted.noted.bytes c.keep.result noted.ensures.bytes (c.keep.ensures ∙ ap (λ (s : MergedNotes). s.all) noted.ensures.noted) end.committed end.others end.left

pub returns-in-Err-commit : goal.returns-in-Err-commit
returns-in-Err-commit g c =
    let it = c.in-Ok.ensures in
    let end = c.in-Err-commit.ensures in
    let why = c.store_refusal-in-Err-commit in
    uncommitted_alone g.S.Store g.met.S.Store.settled g.met.S.Store.stays c.args.store c.in-Err-commit.store c.crash_law.ensures c.args.call c.args.session (state g.S.Store c.in-Ok.transaction) (state g.S.Store c.carry_out.new.transaction) it.begun it.survives
    c.in-Ok-carry_out.carried c.in-Ok-carry_out.ensures end.unsure why.result c.forget.result (c.forget.ensures ∙ ap (λ (s : MergedNotes). s.kept) c.in-Ok-note.ensures.noted) (resource c.in-Err-commit.error why.result why.ensures end.refused) end.undone
