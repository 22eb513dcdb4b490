-- `tables::AttachedTables::note_at`: the invariant of `self`, and what it ensures.
use Rattle.std.specs.Prelude.{string_bytes}
use Rattle.cs_session_notes.proofs.PendingLemmas.{open_stands}
use Rattle.cs_session_notes.proofs.TablesLemmas.{names_stand, kept_stands, index_noted}
use Rattle.cs_session_notes.proofs.tables.AttachedTables.note_at.Goals as goal

pub invariant_of-self : goal.invariant_of-self
invariant_of-self c = (c.self.invariant.0, rw c.deref.ensures.value at c.open_at.ensures.none_pending)

pub invariant_of-self-2 : goal.invariant_of-self-2
invariant_of-self-2 c =
    let found = rw (← c.self.view_is) at c.requires.index in (
      names_stand c.self.inside.tables.items _ c.args.index found c.index_mut.result.now c.index_mut.ensures.value string_bytes c.self.inside.names.keys _ c.self.invariant.0 c.note_write.ensures.kept,
      open_stands c.self.inside.tables.items c.args.index c.note_write.new.table c.open_at.new.indices.items c.in_ok-open_at.ensures.open (rw c.deref.ensures.value at c.open_at.ensures.none_pending),
    )

pub note_write-requires : goal.note_write-requires
note_write-requires c = (rw (← c.self.view_is) at c.requires.new) c.index_mut.result.now c.index_mut.ensures.value

pub returns-clause-noted : goal.returns-clause-noted
returns-clause-noted c =
    let found = rw (← c.self.view_is) at c.requires.index in
    rw (← c.self.view_is) (index_noted c.self.inside.tables.items _ c.args.index found c.index_mut.result.now c.index_mut.ensures.value (rw (← c.self.view_is) at c.requires.apart) c.args.one.key c.args.one.former c.note_write.result _ c.note_write.ensures.noted)

pub returns-clause-kept : goal.returns-clause-kept
returns-clause-kept c =
    let found = rw (← c.self.view_is) at c.requires.index in
    rw (← c.self.view_is) (kept_stands c.self.inside.tables.items _ c.args.index found c.index_mut.result.now c.index_mut.ensures.value _ c.note_write.ensures.kept)
