-- `group::indices_of`: the invariant of the loop at `key`, what it ensures.
use Rattle.std.proofs.Common.{◌≡◌, [], ℕ, List, ap, ◌∙◌, arith}
use Rattle.std.proofs.lemmas.List.{nil_from_length}
use Rattle.std.specs.FinMap.{insert}
use Rattle.std.specs.Vec.Iter.{into_iter_items}
use Rattle.cs_wire.proofs.IndexLemmas.{IsIndexed-none, IsIndexed-next, IsIndexed-all}
use Rattle.cs_wire.proofs.group.indices_of.Goals as goal

pub loop-key-init : goal.loop-key-init
loop-key-init c = IsIndexed-none c.args.keys.items (into_iter_items c.into_iter-key-iterator.result) c.new-indices.result c.into_iter-key-iterator.ensures.into_iter_gives.0 c.new-indices.ensures

pub loop-key-preserved : goal.loop-key-preserved
loop-key-preserved c =
    let grown = c.in_ok-insert.ensures.ok ∙ ap (λ (k : List ℕ). insert c.loop-key.indices k c.loop-key.index) c.into_bytes.ensures in
    IsIndexed-next c.args.keys.items (into_iter_items c.loop-key.key-iterator) (into_iter_items c.next.new.self) c.loop-key.indices c.insert.new.self c.loop-key.index c.in-Some.key c.loop-key.invariant c.in-Some.ensures.steps.0 grown

pub returns : goal.returns
returns c =
    let none : into_iter_items c.loop-key.key-iterator ≡ [] = nil_from_length _ (omega (arith, c.in-None.ensures.steps.0)) in
    IsIndexed-all c.args.keys.items (into_iter_items c.loop-key.key-iterator) c.loop-key.indices c.loop-key.index c.loop-key.invariant none
