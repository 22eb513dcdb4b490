-- `entry::ask`: what comes of what was chosen.
use Rattle.std.proofs.Common.{◌≡◌, true, false, refl, sym, ap, ◌∙◌}
use Rattle.std.specs.Fn.{FnReturnsAt}
use Rattle.std.proofs.lemmas.Fn.{says_at}
use Rattle.cs_apply_conflict_kinds.specs.Conflicts.{ends}
use Rattle.cs_apply_conflict_kinds.specs.Applying.{ConflictData}
use Rattle.cs_apply_engine.proofs.EntryLemmas.{ended_as, told_as}
use Rattle.cs_apply_engine.proofs.entry.ask.Goals as goal

pub returns-then-ends_run : goal.returns-then-ends_run
returns-then-ends_run g c =
    let conflict = c.in_ok-conflict.conflict in
    let choice = c.handler-choice.result in
    let is = c.in_ok-conflict.ensures in
    let kind : conflict.kind ≡ c.args.kind = ap (λ (k : ConflictData). k.kind) is in
    let given : FnReturnsAt g.H.Fn c.args.handler.now conflict choice = says_at g.H.Fn c.handler-choice.ensures refl in
    let ended : ends conflict.kind choice ≡ true = rw kind (sym c.ends_run.ensures ∙ c.if-ends_run.true) in
    rw c.at.ensures (ended_as (FnReturnsAt g.H.Fn c.args.handler.now) _ c.args.conflicts.now.items conflict is choice ended given)

pub returns : goal.returns
returns g c =
    let conflict = c.in_ok-conflict.conflict in
    let choice = c.handler-choice.result in
    let is = c.in_ok-conflict.ensures in
    let kind : conflict.kind ≡ c.args.kind = ap (λ (k : ConflictData). k.kind) is in
    let given : FnReturnsAt g.H.Fn c.args.handler.now conflict choice = says_at g.H.Fn c.handler-choice.ensures refl in
    let on : ends c.args.kind choice ≡ false = sym c.ends_run.ensures ∙ c.if-ends_run.false in
    rw c.settled_by.ensures (told_as (FnReturnsAt g.H.Fn c.args.handler.now) _ c.args.conflicts.now.items conflict is _ c.args.kind kind choice on given c.in_ok-push.ensures.items)
