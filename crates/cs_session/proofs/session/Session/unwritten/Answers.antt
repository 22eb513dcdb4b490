-- `session::Session::unwritten`: what `AttachedTables::unwritten` asks for, and the invariant of the session.
use Rattle.std.proofs.Common.{map, subst, sym}
use Rattle.cs_session_notes.specs.FirstImages.{IsNotes}
use Rattle.cs_session_notes.specs.Views.{attached_of}
use Rattle.cs_session_notes.proofs.MergeLemmas.{unwritten_are}
use Rattle.cs_session.proofs.session.Session.unwritten.Goals as goal

pub unwritten-requires : goal.unwritten-requires
unwritten-requires c = rw c.as_slice.ensures c.self.invariant.0.once

pub invariant_of-result : goal.invariant_of-result
invariant_of-result c =
    let are = rw (← c.as_slice.ensures) at c.self.invariant.0 in (
      subst IsNotes (sym c.in_ok-tables.ensures.same) (unwritten_are (map attached_of c.as_slice.result.now) are),
      c.in_ok-tables.ensures.none_pending,
    )
