-- `session::Session::note`: what `note_all` asks for, the invariants, the clauses `noted` and `same`.
use Rattle.std.proofs.Common.{◌≡◌, map, refl, subst, sym, ◌∙◌}
use Rattle.cs_rows.specs.Editing.{written_of}
use Rattle.cs_session_notes.specs.FirstImages.{IsNotes, recorded}
use Rattle.cs_session_notes.specs.Views.{attached_of, kept_of}
use Rattle.cs_session_notes.proofs.NotesLemmas.{recorded_are}
use Rattle.cs_session_notes.proofs.NotingLemmas.{settled_kept}
use Rattle.cs_session.proofs.session.Session.note.Goals as goal

pub note_all-requires : goal.note_all-requires
note_all-requires c = c.self.invariant.0.once

pub invariant_of-result : goal.invariant_of-result
invariant_of-result c =
    let old = c.self.inside.tables in (
      subst IsNotes (settled_kept old c.self.invariant.1 ∙ sym c.note_all.ensures.kept) c.self.invariant.0,
      subst IsNotes (sym c.in-Ok.ensures.noted) (recorded_are _ (map attached_of old) c.self.invariant.0 c.in-Ok.ensures.formers),
    )

pub invariant_of-result-in-Err : goal.invariant_of-result-in-Err
invariant_of-result-in-Err c =
    let old = c.self.inside.tables in (
      subst IsNotes (settled_kept old c.self.invariant.1 ∙ sym c.note_all.ensures.kept ∙ sym c.settle.ensures.settled) c.self.invariant.0,
      c.settle.ensures.none_pending,
    )

pub returns-in-Ok-clause-noted : goal.returns-in-Ok-clause-noted
returns-in-Ok-clause-noted c =
    let new = c.note_all.new.self in
    let kept : map kept_of new ≡ c.args.self = c.note_all.ensures.kept ∙ sym (settled_kept c.self.inside.tables c.self.invariant.1) ∙ c.self.view_is in
    let all : map attached_of new ≡ recorded c.args.self (map written_of c.args.written.now) =
    rw (← c.self.view_is) c.in-Ok.ensures.noted in
    rw (kept, all) refl

pub returns-in-Err-clause-same : goal.returns-in-Err-clause-same
returns-in-Err-clause-same c =
    c.settle.ensures.settled ∙ c.note_all.ensures.kept ∙ sym (settled_kept c.self.inside.tables c.self.invariant.1) ∙ c.self.view_is
