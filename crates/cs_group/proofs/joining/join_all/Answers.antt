-- `joining::join_all`: what `from_groups` asks for, the clause `joined`.
use Rattle.std.proofs.Common.{◌≡◌, ◌∙◌}
use Rattle.std.specs.Prelude.{filter, filter_map}
use Rattle.cs_group.specs.Joining.{joined, is_new, joined_group, outcome}
use Rattle.cs_group.specs.Marks.{AreMet}
use Rattle.cs_group.proofs.JoinLemmas.{joined_is_changeset}
use Rattle.cs_group.proofs.MarkLemmas.{kept_and_new}
use Rattle.cs_group.proofs.joining.join_all.Goals as goal

pub from_groups-requires : goal.from_groups-requires
from_groups-requires c =
    let first = c.args.first.now in
    let second = c.args.second.now in
    let met : AreMet (λ g. g.header.name) c.as_slice.result.now first second = rw (c.as_slice.ensures.value, ← c.in_ok-named.ensures.listed) c.in_ok-met.ensures.met in
    let kept = rw c.in_ok-named.ensures.listed at c.in_ok-met.ensures.kept in
    let is : c.add_new_groups.new.groups.items ≡ joined first second = kept_and_new (filter_map (outcome (λ g. g.header.name) joined_group second) first) (filter (is_new (λ g. g.header.name) first) second) c.new-groups.ensures.items kept (c.in_ok-add_new_groups.ensures.grown first met) in
    rw is (joined_is_changeset first second c.in_ok-met.ensures.well_formed c.in_ok-add_new_groups.ensures.well_formed c.requires)

pub returns-clause-joined : goal.returns-clause-joined
returns-clause-joined c =
    let first = c.args.first.now in
    let second = c.args.second.now in
    let met : AreMet (λ g. g.header.name) c.as_slice.result.now first second = rw (c.as_slice.ensures.value, ← c.in_ok-named.ensures.listed) c.in_ok-met.ensures.met in
    let kept = rw c.in_ok-named.ensures.listed at c.in_ok-met.ensures.kept in
    let is : c.add_new_groups.new.groups.items ≡ joined first second = kept_and_new (filter_map (outcome (λ g. g.header.name) joined_group second) first) (filter (is_new (λ g. g.header.name) first) second) c.new-groups.ensures.items kept (c.in_ok-add_new_groups.ensures.grown first met) in
    record { joinable = c.requires; is_joined = c.in_ok-join.ensures.made ∙ is; is_changeset = c.in_ok-join.ensures.well_formed }
