-- `attached::cut_back_at`: the invariant of the loop at `index`, the clauses `kept` and `none_pending`.
use Rattle.std.proofs.Common.{get_or, ap, ◌∙◌}
use Rattle.std.proofs.lemmas.List.{drop_all}
use Rattle.cs_session_notes.specs.FirstImages.{NotedImages}
use Rattle.cs_session_notes.specs.Views.{kept_of}
use Rattle.cs_session_notes.proofs.PendingLemmas.{settled_all, one_settled, kept_stays}
use Rattle.cs_session_notes.proofs.NotingLemmas.{settled_kept}
use Rattle.cs_session_notes.proofs.attached.cut_back_at.Goals as goal

pub loop-index-preserved : goal.loop-index-preserved
loop-index-preserved c =
    let old = get_or c.loop-index.tables (get_or c.args.indices.now c.loop-index.index-index 0) c.index-tables-index.result in
    one_settled kept_of _ c.loop-index.tables c.args.indices.now c.loop-index.index-index c.loop-index-test.true c.index-tables-index.result
    (record old { firsts = c.cut_back.new.self }) (kept_stays old c.cut_back.new.self c.cut_back.ensures) (ap (λ (f : NotedImages). f.pending) c.cut_back.ensures) c.loop-index.invariant

pub returns-clause-none_pending : goal.returns-clause-none_pending
returns-clause-none_pending c =
    settled_all _ c.loop-index.tables (drop_all c.loop-index.index-index c.args.indices.now c.loop-index-test.false) c.loop-index.invariant.1

pub returns-clause-kept : goal.returns-clause-kept
returns-clause-kept c =
    settled_kept c.loop-index.tables (settled_all _ c.loop-index.tables (drop_all c.loop-index.index-index c.args.indices.now c.loop-index-test.false) c.loop-index.invariant.1)
    ∙ c.loop-index.invariant.0
