-- `numbering::number_keys`: what `push` asks for, the clauses `images`, `inverse` and `length`.
use Rattle.std.proofs.Common.{arith}
use Rattle.cs_group.proofs.NumberingLemmas.{NumberedSoFar-all, next_table, images_stay, inverse_numbered, length_stays}
use Rattle.cs_group.proofs.numbering.number_keys.Goals as goal

pub push-requires : goal.push-requires
push-requires c =
    let new = next_table c.args.changeset c.loop-group.numbered c.loop-group.yielded c.loop-group.group-iterator.rest.items c.next.new.self.rest.items c.in-Some.group c.loop-group.invariant c.in-Some.ensures.steps.0 in
    rw c.in_ok-number_group.ensures new

pub returns-clause-images : goal.returns-clause-images
returns-clause-images c =
    let is = NumberedSoFar-all c.args.changeset c.loop-group.numbered c.loop-group.yielded c.loop-group.group-iterator.rest.items c.loop-group.invariant (omega (arith, c.in-None.ensures.steps.0)) in
    rw is (images_stay c.args.changeset)

pub returns-clause-inverse : goal.returns-clause-inverse
returns-clause-inverse c =
    let is = NumberedSoFar-all c.args.changeset c.loop-group.numbered c.loop-group.yielded c.loop-group.group-iterator.rest.items c.loop-group.invariant (omega (arith, c.in-None.ensures.steps.0)) in
    rw is (inverse_numbered c.args.changeset)

pub returns-clause-length : goal.returns-clause-length
returns-clause-length c =
    let is = NumberedSoFar-all c.args.changeset c.loop-group.numbered c.loop-group.yielded c.loop-group.group-iterator.rest.items c.loop-group.invariant (omega (arith, c.in-None.ensures.steps.0)) in
    rw is (length_stays c.args.changeset)
