-- `joining::join_group`: what `join_groups` asks for, what it ensures.
use Rattle.std.proofs.Common.{◌≡◌, ◌≢◌, ◌++◌, [], ◌∷◌, All, List, Option, get_or, ap, sym, ◌∙◌, rules}
use Rattle.std.specs.Prelude.{option_to_list}
use Rattle.cs_wire.specs.Changeset.{GroupData}
use Rattle.cs_wire.specs.Views.{IsIndexWhere}
use Rattle.cs_group.specs.Joining.{joined_group}
use Rattle.cs_group.proofs.TextLemmas.{with_text-none, with_text-index}
use Rattle.cs_group.proofs.joining.join_group.Goals as goal

pub returns-in_ok-push-in-None-clause-joined : goal.returns-in_ok-push-in-None-clause-joined
returns-in_ok-push-in-None-clause-joined c =
    let name = λ (g : GroupData). g.header.name in
    let group = c.args.group.now in
    let seconds = c.args.second.now in
    let none : All (λ g. g.header.name ≢ group.header.name) seconds = search rules in
    c.in_ok-push-in-None.ensures.items ∙ ap (λ (g : GroupData). c.args.groups.now.items ++ g ∷ []) c.in_ok-copy-in-None.ensures
    ∙ ap (λ (o : Option GroupData). c.args.groups.now.items ++ option_to_list (joined_group group o)) (sym (with_text-none name seconds (name group) none))

pub join_groups-requires : goal.join_groups-requires
join_groups-requires c =
    let name = λ (g : GroupData). g.header.name in
    let group = c.args.group.now in
    let seconds = c.args.second.now in
    let index = c.in-Some.index in
    let other = c.index-groups-index.result in
    let same = c.groups.ensures.same in
    let at : IsIndexWhere (λ g. g.header.name ≡ group.header.name) seconds index = search rules in
    let is = c.index-groups-index.is ∙ ap (λ (gs : List GroupData). get_or gs index other) same in
    let found = with_text-index name seconds (name group) index other c.groups.ensures.well_formed.once at is in
    record { agree = rw (← found) at c.requires.agree }

pub returns-in_ok-push_some-in-Some-clause-joined : goal.returns-in_ok-push_some-in-Some-clause-joined
returns-in_ok-push_some-in-Some-clause-joined c =
    let name = λ (g : GroupData). g.header.name in
    let group = c.args.group.now in
    let seconds = c.args.second.now in
    let index = c.in-Some.index in
    let other = c.index-groups-index.result in
    let same = c.groups.ensures.same in
    let at : IsIndexWhere (λ g. g.header.name ≡ group.header.name) seconds index = search rules in
    let is = c.index-groups-index.is ∙ ap (λ (gs : List GroupData). get_or gs index other) same in
    let found = with_text-index name seconds (name group) index other c.groups.ensures.well_formed.once at is in
    c.in_ok-push_some-in-Some.ensures
    ∙ ap (λ (o : Option GroupData). c.args.groups.now.items ++ option_to_list o) (c.in_ok-join_groups-in-Some.ensures ∙ ap (joined_group group) found)
