-- `tables::AttachedTables::push`: the invariant of `self`.
use Rattle.std.proofs.Common.{ap}
use Rattle.std.specs.Prelude.{string_bytes}
use Rattle.cs_session_notes.specs.FirstImages.{NotedImages}
use Rattle.cs_session_notes.proofs.IndexLemmas.{names_then}
use Rattle.cs_session_notes.proofs.PendingLemmas.{settled_push}
use Rattle.cs_session_notes.proofs.tables.AttachedTables.push.Goals as goal

pub invariant_of-self-2 : goal.invariant_of-self-2
invariant_of-self-2 c = (
  names_then c.args.name.now c.self.inside.tables.items (rw (← c.self.view_is) at c.requires) string_bytes c.self.inside.names.keys c.self.invariant.0
      _ c.in_ok-key.ensures.ok c.insert.new.self.keys c.in_ok-insert.ensures.keys c.push.new.self.items c.reserve.new.self.items _ c.in_ok-push.ensures.items c.reserve.ensures.items c.in_ok-name.ensures.ok,
  rw (c.in_ok-push.ensures.items, c.reserve.ensures.items) (settled_push c.self.inside.noted.items c.self.inside.tables.items _ (ap (λ (f : NotedImages). f.pending) c.new-firsts.ensures) c.self.invariant.1),
)
