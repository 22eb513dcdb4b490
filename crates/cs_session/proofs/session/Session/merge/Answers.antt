-- `session::Session::merge`: what `note_tables` asks for, the invariants, the clauses `merged` and `same`.
use Rattle.std.proofs.Common.{◌≡◌, map, refl, subst, sym, ◌∙◌}
use Rattle.cs_session_notes.specs.FirstImages.{IsNotes, recorded}
use Rattle.cs_session_notes.specs.Merging.{all_noted}
use Rattle.cs_session_notes.specs.Views.{attached_of, kept_of}
use Rattle.cs_session_notes.proofs.NotesLemmas.{recorded_are}
use Rattle.cs_session_notes.proofs.NotingLemmas.{settled_kept}
use Rattle.cs_session.proofs.session.Session.merge.Goals as goal

pub note_tables-requires : goal.note_tables-requires
note_tables-requires c = c.self.invariant.0.once

pub invariant_of-result : goal.invariant_of-result
invariant_of-result c =
    let old = c.self.inside.tables in (
      subst IsNotes (settled_kept old c.self.invariant.1 ∙ sym c.note_tables.ensures.kept) c.self.invariant.0,
      subst IsNotes (sym c.in-Ok.ensures.noted) (recorded_are _ (map attached_of old) c.self.invariant.0 c.in-Ok.ensures.formers),
    )

pub invariant_of-result-in-Err : goal.invariant_of-result-in-Err
invariant_of-result-in-Err c =
    let old = c.self.inside.tables in (
      subst IsNotes (settled_kept old c.self.invariant.1 ∙ sym c.note_tables.ensures.kept ∙ sym c.settle.ensures.settled) c.self.invariant.0,
      c.settle.ensures.none_pending,
    )

pub returns-in-Ok-clause-merged : goal.returns-in-Ok-clause-merged
returns-in-Ok-clause-merged c =
    let new = c.note_tables.new.self in
    let kept : map kept_of new ≡ c.args.self = c.note_tables.ensures.kept ∙ sym (settled_kept c.self.inside.tables c.self.invariant.1) ∙ c.self.view_is in
    let all : map attached_of new ≡ recorded c.args.self (all_noted c.args.other.now) =
    rw (← c.self.view_is, ← c.other.view_is, ← c.as_slice.ensures) c.in-Ok.ensures.noted in
    rw (kept, all) refl

pub returns-in-Err-clause-same : goal.returns-in-Err-clause-same
returns-in-Err-clause-same c =
    c.settle.ensures.settled ∙ c.note_tables.ensures.kept ∙ sym (settled_kept c.self.inside.tables c.self.invariant.1) ∙ c.self.view_is
