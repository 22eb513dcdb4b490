-- `service::commit_noted`: what was written is not noted, or the transaction is committed, or it is not.
use Rattle.std.proofs.Common.{inl, inr, ap, ◌∙◌}
use Rattle.sqlite.specs.Held.{state}
use Rattle.cs_session.specs.Merged.{MergedNotes}
use Rattle.cs_session_notes.specs.Merging.{all_noted}
use Rattle.cs_session_notes.specs.Noting.{AreFormers}
use Rattle.cs_calls_executor.proofs.CallLemmas.{still_inside}
use Rattle.cs_calls_service.proofs.NotedLemmas.{fault_is}
use Rattle.cs_calls_service.proofs.service.commit_noted.Goals as goal

pub returns-in-Err-merge : goal.returns-in-Err-merge
returns-in-Err-merge g c =
    let end = c.roll_back-in-Err-merge.ensures in (
      c.in-Err-merge.ensures.same,
      inr (inr (
        fault_is c.in-Err-merge.fault c.session_refusal.result (AreFormers c.args.session (all_noted c.args.written.now) → ⊥) c.session_refusal.ensures c.in-Err-merge.ensures.refused,
        still_inside (state g.S.Store c.args.transaction) c.has_ended.result c.has_ended.ensures.value c.if-has_ended.false,
        record { undone = end.undone; crash = end.survives },
      )),
    )

pub returns-in-Ok-commit : goal.returns-in-Ok-commit
returns-in-Ok-commit g c =
    let it = c.in-Ok-commit.ensures in
    (c.in-Ok.ensures.ok, record { ends = it.committed; others = it.others; atomic = it.atomic; left = it.left }, c.keep.ensures ∙ ap (λ (s : MergedNotes). s.all) c.in-Ok-merge.ensures.merged)

pub returns-in-Err-commit : goal.returns-in-Err-commit
returns-in-Err-commit g c =
    let it = c.in-Err-commit.ensures in (
      c.forget.ensures ∙ ap (λ (s : MergedNotes). s.kept) c.in-Ok-merge.ensures.merged,
      inl (record {
        error = c.in-Err-commit.error;
        is = c.store_refusal.ensures;
        of = it.refused;
        inside = still_inside (state g.S.Store c.args.transaction) c.has_ended.result c.has_ended.ensures.value c.if-has_ended.false;
        caused = it.caused;
        undone = it.undone;
        atomic = it.unsure;
        stands = it.stands;
      }),
    )
