-- `keyed::names_of`: the invariant of the loop at `group`.
use Rattle.std.proofs.Common.{ap, ◌∙◌}
use Rattle.cs_wire.specs.Changeset.{HeaderData, GroupData}
use Rattle.cs_group.proofs.SetLemmas.{text_listed}
use Rattle.cs_group.proofs.keyed.names_of.Goals as goal

pub loop-group-preserved : goal.loop-group-preserved
loop-group-preserved c =
    let name = c.name.ensures ∙ ap (λ (h : HeaderData). h.name) c.header.ensures.same in
    text_listed (λ name. name.now) (λ (g : GroupData). g.header.name) c.groups-groups.result.now (rw (← c.groups-groups.ensures.same) at c.groups-groups.ensures.well_formed.once) c.loop-group.group-index c.group-item.result c.loop-group-test.true c.group-item.is
    c.loop-group.names.keys c.insert.new.self.keys c.name.result c.loop-group.invariant name c.in_ok-insert.ensures.keys
