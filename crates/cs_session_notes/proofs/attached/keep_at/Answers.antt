-- `attached::keep_at`: the invariant of the loop at `index`, the clause `none_pending`.
use Rattle.std.proofs.Common.{get_or, ap}
use Rattle.std.proofs.lemmas.List.{drop_all}
use Rattle.cs_session_notes.specs.FirstImages.{NotedImages}
use Rattle.cs_session_notes.specs.Views.{attached_of}
use Rattle.cs_session_notes.proofs.PendingLemmas.{settled_all, one_settled, attached_stays}
use Rattle.cs_session_notes.proofs.attached.keep_at.Goals as goal

pub loop-index-preserved : goal.loop-index-preserved
loop-index-preserved c =
    let old = get_or c.loop-index.tables (get_or c.args.indices.now c.loop-index.index-index 0) c.index-tables-index.result in
    one_settled attached_of _ c.loop-index.tables c.args.indices.now c.loop-index.index-index c.loop-index-test.true c.index-tables-index.result
    (record old { firsts = c.keep.new.self }) (attached_stays old c.keep.new.self c.keep.ensures) (ap (λ (f : NotedImages). f.pending) c.keep.ensures) c.loop-index.invariant

pub returns-clause-none_pending : goal.returns-clause-none_pending
returns-clause-none_pending c =
    settled_all _ c.loop-index.tables (drop_all c.loop-index.index-index c.args.indices.now c.loop-index-test.false) c.loop-index.invariant.1
