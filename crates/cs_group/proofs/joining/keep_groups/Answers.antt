-- `joining::keep_groups`: what `join_group` asks for, the invariant of the loop at `group`, what it ensures.
use Rattle.std.proofs.Common.{◌≡◌, ◌++◌, ◌+◌, List, get_or, false, true, length, replicate, take, refl, sym, ap, ◌∙◌, append_assoc, append-nil}
use Rattle.std.specs.Prelude.{IsTrue, is_none, filter_map, option_to_list}
use Rattle.std.proofs.lemmas.List.{length-replicate, length-set, take_all}
use Rattle.cs_value.proofs.ListLemmas.{filter_map_more, take_more_at}
use Rattle.cs_wire.specs.Changeset.{GroupData}
use Rattle.cs_wire.specs.Views.{IsIndexWhere}
use Rattle.cs_group.specs.Joining.{outcome, joined_group}
use Rattle.cs_group.proofs.JoinLemmas.{agree_found}
use Rattle.cs_group.proofs.MarkLemmas.{AreMet-none, AreMet-other, AreMet-marked}
use Rattle.cs_group.proofs.joining.keep_groups.Goals.{in-Some, in_default}
use Rattle.cs_group.proofs.joining.keep_groups.Goals as goal

pub loop-group-init : goal.loop-group-init
loop-group-init c =
    let seconds = c.args.second.now in
    let none = c.in_ok-met.ensures ∙ ap (λ (gs : List GroupData). replicate (length gs) false) c.groups.ensures.same in (
      sym (append-nil c.args.groups.now.items),
      AreMet-none (λ (g : GroupData). g.header.name) seconds c.in_ok-met.met.items none,
      ap length none ∙ length-replicate (length seconds) false,
    )

pub join_group-requires : goal.join_group-requires
join_group-requires c =
    let i = c.loop-group.group-index in
    let group = c.group-item.result in
    let same = c.groups-group-items.ensures.same in
    let is = c.group-item.is ∙ ap (λ (gs : List GroupData). get_or gs i group) same in
    record { agree = agree_found c.args.first.now c.args.second.now i group c.requires (rw same at c.loop-group-test.true) is }

pub loop-group-preserved : goal.loop-group-preserved
loop-group-preserved c =
    let name = λ (g : GroupData). g.header.name in
    let seconds = c.args.second.now in
    let items = c.groups-group-items.result.now in
    let i = c.loop-group.group-index in
    let group = c.group-item.result in
    let becomes = outcome name joined_group seconds in
    let start = c.args.groups.now.items in
    let so = c.loop-group.invariant in
    let grown : c.join_group.new.groups.items ≡ start ++ filter_map becomes (take (i + 1) items) =
    c.in_ok-index.ensures.joined ∙ ap (λ (l : List GroupData). l ++ option_to_list (becomes group)) so.0 ∙ append_assoc start (filter_map becomes (take i items)) (option_to_list (becomes group))
    ∙ ap (λ (l : List GroupData). start ++ l) (filter_map_more items i group c.loop-group-test.true c.group-item.is becomes) in
    let at = take_more_at items i group c.loop-group-test.true c.group-item.is in
    elim c.match-branch-3.branch [
      | in-Some w ↦
          let index = w.in-Some.index in
          let found : IsIndexWhere (λ g. name g ≡ name group) seconds index = rw w.in-Some.is at c.in_ok-index.ensures.found in (
            grown,
            rw (w.met-is, at) (AreMet-marked name c.loop-group.met.items (take i items) seconds group so.1 index c.groups.ensures.well_formed.once so.2 found),
            rw w.met-is (length-set c.loop-group.met.items index true ∙ so.2),
          )
      | in_default w ↦
          let none : IsTrue (is_none c.in_ok-index.field-0) = rw w.in_default.is refl in (
            grown,
            rw (w.met-is, at) (AreMet-other name c.loop-group.met.items (take i items) seconds group so.1 (c.in_ok-index.ensures.absent none)),
            rw w.met-is so.2,
          )
    ]

pub returns-clause-met : goal.returns-clause-met
returns-clause-met c =
    let items = c.groups-group-items.result.now in
    let all = take_all c.loop-group.group-index items c.loop-group-test.false ∙ c.groups-group-items.ensures.same in
    rw all at c.loop-group.invariant.1
