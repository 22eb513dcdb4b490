-- `inverse::invert`: what `push` asks for, the invariant of the loop at `group`, the clauses `inverse` and `length`.
use Rattle.std.proofs.Common.{◌∙◌, arith}
use Rattle.cs_group.proofs.InverseLemmas.{InversesSoFar-none, InversesSoFar-push, InversesSoFar-all, next_table}
use Rattle.cs_group.proofs.InverseLengths.{inverse_length}
use Rattle.cs_group.proofs.inverse.invert.Goals as goal

pub loop-group-init : goal.loop-group-init
loop-group-init c = InversesSoFar-none c.args.changeset c.new-inverse.result c.into_iter-group-iterator.result.rest.items (c.into_iter-group-iterator.ensures.into_iter_gives.0 ∙ c.into_groups-group-items.ensures.same) c.into_groups-group-items.ensures.well_formed c.new-inverse.ensures

pub push-requires : goal.push-requires
push-requires c = next_table c.args.changeset c.loop-group.inverse c.loop-group.yielded c.loop-group.group-iterator.rest.items c.next.new.self.rest.items c.in-Some.group c.loop-group.invariant c.in-Some.ensures.steps.0 c.invert.new.self c.invert.ensures.inverse

pub loop-group-preserved : goal.loop-group-preserved
loop-group-preserved c = InversesSoFar-push c.args.changeset c.loop-group.inverse c.loop-group.yielded c.loop-group.group-iterator.rest.items c.next.new.self.rest.items c.in-Some.group c.loop-group.invariant c.in-Some.ensures.steps.0 c.push.new.self c.invert.new.self c.in_ok-push.ensures.well_formed c.in_ok-push.ensures.ok c.invert.ensures.inverse

pub returns-clause-inverse : goal.returns-clause-inverse
returns-clause-inverse c = InversesSoFar-all c.args.changeset c.loop-group.inverse c.loop-group.yielded c.loop-group.group-iterator.rest.items c.loop-group.invariant (omega (arith, c.in-None.ensures.steps.0))

pub returns-clause-length : goal.returns-clause-length
returns-clause-length c =
    let so = c.loop-group.invariant in
    let is = InversesSoFar-all c.args.changeset c.loop-group.inverse c.loop-group.yielded c.loop-group.group-iterator.rest.items so (omega (arith, c.in-None.ensures.steps.0)) in
    inverse_length c.args.changeset c.loop-group.inverse so.is_changeset so.inverse_is_changeset is
