-- `tables::AttachedTables::index_of`: what it ensures.
use Rattle.std.specs.Prelude.{string_bytes}
use Rattle.cs_session_notes.proofs.IndexLemmas.{new_from_none, place_where_found}
use Rattle.cs_session_notes.proofs.tables.AttachedTables.index_of.Goals as goal

pub returns-clause-found : goal.returns-clause-found
returns-clause-found c =
    rw (← c.self.view_is) (place_where_found string_bytes c.args.name.now c.self.inside.names.keys c.self.inside.tables.items c.self.invariant.0 c.get_index_of.result c.get_index_of.ensures.index)

pub returns-clause-none : goal.returns-clause-none
returns-clause-none c =
    rw (← c.self.view_is) (new_from_none string_bytes c.args.name.now c.self.inside.names.keys c.self.inside.tables.items c.self.invariant.0 c.get_index_of.result c.get_index_of.ensures.found)
