-- `columns::group_with`: the clause `found`.
use Rattle.std.proofs.Common.{List, sym, ap, get_or, ◌∙◌, rules}
use Rattle.cs_wire.specs.Changeset.{GroupData, IsNewName}
use Rattle.cs_group.proofs.TextLemmas.{with_text-none, with_text-index}
use Rattle.cs_group.proofs.columns.group_with.Goals as goal

pub returns-in-None-clause-found : goal.returns-in-None-clause-found
returns-in-None-clause-found c =
    let new : IsNewName c.args.changeset.now c.args.name.now = search rules in
    sym (with_text-none (λ (g : GroupData). g.header.name) c.args.changeset.now c.args.name.now new)

pub returns-in-Some-clause-found : goal.returns-in-Some-clause-found
returns-in-Some-clause-found c =
    let is = c.index-groups-place.is ∙ ap (λ (gs : List GroupData). get_or gs c.in-Some.place c.index-groups-place.result) c.groups-groups.ensures.same in
    with_text-index (λ (g : GroupData). g.header.name) c.args.changeset.now c.args.name.now c.in-Some.place c.index-groups-place.result c.groups-groups.ensures.well_formed.once c.in-Some.ensures.found is
