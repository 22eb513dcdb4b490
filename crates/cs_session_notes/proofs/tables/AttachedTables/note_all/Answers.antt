-- `tables::AttachedTables::note_all`: what `index_for` and `note_at` ask for, the invariant of the loop at `one`, the clause
-- `refused`.
use Rattle.std.proofs.Common.{[], ◌∷◌, map, refl, ap, ◌∙◌}
use Rattle.std.proofs.lemmas.Result.{err_from_is_err_and}
use Rattle.cs_value.specs.State.{WrittenData}
use Rattle.cs_rows.specs.Editing.{written_of}
use Rattle.cs_session_notes.specs.FirstImages.{recorded}
use Rattle.cs_session_notes.specs.Views.{attached_of, kept_of}
use Rattle.cs_session_notes.proofs.TablesLemmas.{start_noted, still_apart, one_noted, one_refused, drop_map_at}
use Rattle.cs_session_notes.proofs.tables.AttachedTables.note_all.Goals as goal

pub loop-one-init : goal.loop-one-init
loop-one-init c =
    start_noted c.args.self.now _ _ refl

pub index_for-requires : goal.index_for-requires
index_for-requires c = still_apart (map attached_of c.args.self.now) _ _ _ c.loop-one.self c.requires c.loop-one.invariant

pub note_at-requires-clause-apart : goal.note_at-requires-clause-apart
note_at-requires-clause-apart c = still_apart (map attached_of c.args.self.now) _ _ _ c.loop-one.self c.requires c.loop-one.invariant

pub returns-in_err-index-clause-refused : goal.returns-in_err-index-clause-refused
returns-in_err-index-clause-refused c =
    let p = err_from_is_err_and c.from_residual.result c.from_residual.ensures.1 in
    rw (p.1, p.2)
    (one_refused (map attached_of c.args.self.now) (map kept_of c.args.self.now) _ _ _ (written_of c.one-item.result) c.loop-one.self (drop_map_at written_of c.args.written.now c.loop-one.one-index c.one-item.result c.loop-one-test.true c.one-item.is) c.loop-one.invariant _ c.in_err-index.ensures.refused)

pub loop-one-preserved-in_default : goal.loop-one-preserved-in_default
loop-one-preserved-in_default c =
    one_noted (map attached_of c.args.self.now) (map kept_of c.args.self.now) _ _ _ (written_of c.one-item.result) c.loop-one.self c.loop-one.self (drop_map_at written_of c.args.written.now c.loop-one.one-index c.one-item.result c.loop-one-test.true c.one-item.is) c.loop-one.invariant
    (rw c.in_default.is at c.in_ok-index.ensures.nowhere) c.in_ok-index.ensures.formers refl

pub loop-one-preserved : goal.loop-one-preserved
loop-one-preserved c =
    let copied = ap (λ (w : WrittenData). recorded (map attached_of c.loop-one.self) (w ∷ [])) c.in_ok-copy_of.ensures in
    one_noted (map attached_of c.args.self.now) (map kept_of c.args.self.now) _ _ _ (written_of c.one-item.result) c.loop-one.self c.note_at.new.self (drop_map_at written_of c.args.written.now c.loop-one.one-index c.one-item.result c.loop-one-test.true c.one-item.is) c.loop-one.invariant
    (c.in_ok-note_at.ensures.noted ∙ copied) c.in_ok-index.ensures.formers c.note_at.ensures.kept
