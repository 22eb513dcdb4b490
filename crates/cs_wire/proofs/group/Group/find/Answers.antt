-- `group::Group::find`: the clauses `found` and `absent`.
use Rattle.std.proofs.Common.{ap, ◌∙◌}
use Rattle.std.specs.FinMap.{get}
use Rattle.cs_wire_entries.specs.declared.entry.Entry.{Entry}
use Rattle.cs_wire_entries.specs.Entry.{key_of}
use Rattle.cs_wire.proofs.IndexLemmas.{is_found, is_new}
use Rattle.cs_wire.proofs.group.Group.find.Goals as goal

pub returns-clause-found : goal.returns-clause-found
returns-clause-found c =
    let inside = c.self.inside in
    rw (← c.self.view_is) (is_found (λ (e : Entry). key_of inside.header.flags e.change) inside.indices inside.entries.items c.args.key.now c.self.invariant.1 c.get.result (c.get.ensures ∙ ap (get inside.indices) c.bytes.ensures))

pub returns-clause-absent : goal.returns-clause-absent
returns-clause-absent c =
    let inside = c.self.inside in
    rw (← c.self.view_is) (is_new (λ (e : Entry). key_of inside.header.flags e.change) inside.indices inside.entries.items c.args.key.now c.self.invariant.1 c.get.result (c.get.ensures ∙ ap (get inside.indices) c.bytes.ensures))
