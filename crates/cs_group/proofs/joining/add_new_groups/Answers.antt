-- `joining::add_new_groups`: the invariant of the loop at `index`, what it ensures.
use Rattle.std.proofs.Common.{◌++◌, [], ◌∷◌, ◌<◌, List, length, get_or, ap, ◌∙◌, arith}
use Rattle.std.proofs.lemmas.List.{take_all}
use Rattle.cs_wire.specs.Changeset.{GroupData}
use Rattle.cs_group.proofs.MarkLemmas.{unmarked_added, marked_passed}
use Rattle.cs_group.proofs.joining.add_new_groups.Goals.{then-not-met-index+in_ok-copy+in_ok-push, else-not-met-index}
use Rattle.cs_group.proofs.joining.add_new_groups.Goals as goal

pub loop-index-preserved : goal.loop-index-preserved
loop-index-preserved c = λ firsts so.
    let name = λ (g : GroupData). g.header.name in
    let groups = c.args.second.now in
    let index = c.loop-index.index in
    let group = c.group-item.result in
    let same = c.groups-group-items.ensures.same in
    let lt : index < length groups = rw same at c.loop-index-test.true in
    let is = c.group-item.is ∙ ap (λ (gs : List GroupData). get_or gs index group) same in
    let start = c.args.groups.now.items in
    let now = c.loop-index.groups.items in
    let so_far = c.loop-index.invariant firsts so in
    elim c.if-not-met-index.branch [
      | then-not-met-index+in_ok-copy+in_ok-push w ↦
          rw w.groups-is (unmarked_added name c.args.met.now firsts groups so index group lt is start now so_far _ w.if-not-met-index.true
          (w.in_ok-push.ensures.items ∙ ap (λ (g : GroupData). now ++ g ∷ []) w.in_ok-copy.ensures))
      | else-not-met-index w ↦ rw w.groups-is (marked_passed name c.args.met.now firsts groups so index group lt is start now so_far w.if-not-met-index.false)
    ]

pub returns-clause-grown : goal.returns-clause-grown
returns-clause-grown c = λ firsts so.
    let le = rw c.groups-group-items.ensures.same at c.loop-index-test.false in
    rw (take_all c.loop-index.index c.args.second.now (omega (arith, le))) at (c.loop-index.invariant firsts so)
