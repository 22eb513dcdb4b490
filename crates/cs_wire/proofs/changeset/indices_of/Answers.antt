-- `changeset::indices_of`: the invariant of the loop at `index`.
use Rattle.std.proofs.Common.{ap, ◌∙◌}
use Rattle.std.specs.FinMap.{insert}
use Rattle.cs_wire_entries.specs.Changeset.{HeaderData, GroupData}
use Rattle.cs_wire.proofs.IndexLemmas.{IsIndex-none, IsIndex-more}
use Rattle.cs_wire.proofs.changeset.indices_of.Goals as goal

pub loop-index-init : goal.loop-index-init
loop-index-init c = rw c.new-indices.ensures IsIndex-none

pub loop-index-preserved : goal.loop-index-preserved
loop-index-preserved c =
    let name = c.in_ok-name.ensures.items ∙ c.as_bytes.ensures.value ∙ c.name.ensures ∙ ap (λ (h : HeaderData). h.name) c.header.ensures.same in
    let grown = c.in_ok-insert.ensures.ok ∙ ap (λ k. insert c.loop-index.indices k c.loop-index.index) name in
    IsIndex-more (λ (g : GroupData). g.header.name) c.loop-index.indices c.insert.new.self c.args.groups.now c.index-groups-index.result c.loop-index.index c.loop-index-test.true c.index-groups-index.is c.loop-index.invariant grown
