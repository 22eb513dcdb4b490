-- `changeset::Changeset::find`: the clauses `found` and `absent`.
use Rattle.std.proofs.Common.{ap, ◌∙◌}
use Rattle.std.specs.FinMap.{get}
use Rattle.cs_wire_entries.specs.Changeset.{GroupData}
use Rattle.cs_wire.proofs.IndexLemmas.{is_found, is_new}
use Rattle.cs_wire.proofs.changeset.Changeset.find.Goals as goal

pub returns-clause-found : goal.returns-clause-found
returns-clause-found c =
    rw (← c.self.view_is) (is_found (λ (g : GroupData). g.header.name) c.self.inside.indices c.self.inside.groups.items c.args.name.now c.self.invariant.1 c.get.result (c.get.ensures ∙ ap (get c.self.inside.indices) c.as_bytes.ensures.value))

pub returns-clause-absent : goal.returns-clause-absent
returns-clause-absent c =
    rw (← c.self.view_is) (is_new (λ (g : GroupData). g.header.name) c.self.inside.indices c.self.inside.groups.items c.args.name.now c.self.invariant.1 c.get.result (c.get.ensures ∙ ap (get c.self.inside.indices) c.as_bytes.ensures.value))
