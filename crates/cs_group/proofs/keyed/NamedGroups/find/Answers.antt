-- `keyed::NamedGroups::find`: the clauses `found` and `absent`.
use Rattle.cs_wire.specs.Changeset.{GroupData}
use Rattle.cs_group.proofs.SetLemmas.{place_found, place_absent}
use Rattle.cs_group.proofs.keyed.NamedGroups.find.Goals as goal

pub returns-clause-found : goal.returns-clause-found
returns-clause-found c =
    rw (← c.self.view_is) (place_found (λ name. name.now) (λ (g : GroupData). g.header.name) c.self.inside.names.keys c.self.inside.changeset.now c.self.invariant c.args.name.now c.get_index_of.result c.get_index_of.ensures.index)

pub returns-clause-absent : goal.returns-clause-absent
returns-clause-absent c =
    rw (← c.self.view_is) (place_absent (λ name. name.now) (λ (g : GroupData). g.header.name) c.self.inside.names.keys c.self.inside.changeset.now c.self.invariant c.args.name.now c.get_index_of.result c.get_index_of.ensures.found)
