-- `keyed::KeyedGroup::find`: the clauses `found` and `absent`.
use Rattle.std.proofs.Common.{ℕ, List, ◌∙◌}
use Rattle.std.proofs.lemmas.List.{map-id}
use Rattle.cs_wire_entries.specs.declared.entry.Entry.{Entry}
use Rattle.cs_wire.specs.Entry.{key_of}
use Rattle.cs_group.proofs.SetLemmas.{place_found, place_absent}
use Rattle.cs_group.proofs.keyed.KeyedGroup.find.Goals as goal

pub returns-clause-found : goal.returns-clause-found
returns-clause-found c =
    let group = c.self.inside.group.now in
    rw (← c.self.view_is) (place_found (λ (k : List ℕ). k) (λ (e : Entry). key_of group.header.flags e.change) c.self.inside.keys.keys group.entries (map-id _ ∙ c.self.invariant) c.args.key.now c.get_index_of.result c.get_index_of.ensures.index)

pub returns-clause-absent : goal.returns-clause-absent
returns-clause-absent c =
    let group = c.self.inside.group.now in
    rw (← c.self.view_is) (place_absent (λ (k : List ℕ). k) (λ (e : Entry). key_of group.header.flags e.change) c.self.inside.keys.keys group.entries (map-id _ ∙ c.self.invariant) c.args.key.now c.get_index_of.result c.get_index_of.ensures.found)
