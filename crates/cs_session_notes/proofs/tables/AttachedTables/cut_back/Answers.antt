-- `tables::AttachedTables::cut_back`: the invariant of `self`.
use Rattle.std.proofs.Common.{◌≡◌, ◌++◌, ◌∙◌, take, drop, length, map, ap}
use Rattle.std.proofs.lemmas.List.{take_at}
use Rattle.cs_session_notes.specs.Views.{kept_of}
use Rattle.cs_session_notes.proofs.PendingLemmas.{kept_names, settled_but}
use Rattle.cs_session_notes.proofs.tables.AttachedTables.cut_back.Goals as goal

pub invariant_of-self : goal.invariant_of-self
invariant_of-self c =
    let new = c.cut_back_at.new.tables in
    let whole : take c.self.inside.tables.len (new ++ drop (length new) c.self.inside.tables.items) ≡ new =
    take_at new (drop (length new) c.self.inside.tables.items) c.self.inside.tables.len (c.cut_back_at.auto.tables ∙ c.deref_mut.ensures.len) in
    rw (whole, c.clear.ensures.items)
    (c.self.invariant.0 ∙ kept_names c.self.inside.tables.items new (c.cut_back_at.ensures.kept ∙ ap (map kept_of) c.deref_mut.ensures.value), settled_but new c.cut_back_at.ensures.none_pending)
