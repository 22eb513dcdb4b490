-- `entries::keep_entries`: the invariant of the loop at `entry`, what it ensures.
use Rattle.std.proofs.Common.{◌≡◌, ◌≢◌, ◌++◌, ◌+◌, List, All, true, false, length, replicate, take, refl, sym, ap, ◌∙◌, append_assoc, append-nil}
use Rattle.std.specs.Prelude.{IsTrue, is_none, filter_map, option_to_list}
use Rattle.std.proofs.lemmas.List.{length-replicate, length-set, take_all}
use Rattle.cs_wire_entries.specs.declared.entry.Entry.{Entry}
use Rattle.cs_wire.specs.Changeset.{GroupData}
use Rattle.cs_wire.specs.Entry.{key_of}
use Rattle.cs_wire.specs.Views.{IsIndexWhere}
use Rattle.cs_group.specs.Joining.{outcome, joined_entry}
use Rattle.cs_group.proofs.MarkLemmas.{AreMet-none, AreMet-other, AreMet-marked, apart_of}
use Rattle.cs_value.proofs.ListLemmas.{filter_map_more, take_more_at}
use Rattle.cs_group.proofs.entries.keep_entries.Goals.{in-Some, in_default}
use Rattle.cs_group.proofs.entries.keep_entries.Goals as goal

pub loop-entry-preserved : goal.loop-entry-preserved
loop-entry-preserved c =
    let flags = c.args.first.now.header.flags in
    let key = λ (e : Entry). key_of flags e.change in
    let seconds = c.args.second.now.entries in
    let items = c.entries-entry-items.result.now in
    let i = c.loop-entry.entry-index in
    let entry = c.entry-item.result in
    let becomes = outcome key (joined_entry flags) seconds in
    let start = c.args.joined.now.entries in
    let so = c.loop-entry.invariant in
    let grown : c.join_entry.new.joined.entries ≡ start ++ filter_map becomes (take (i + 1) items) =
    c.in_ok-index.ensures.joined ∙ ap (λ (l : List Entry). l ++ option_to_list (becomes entry)) so.0 ∙ append_assoc start (filter_map becomes (take i items)) (option_to_list (becomes entry))
    ∙ ap (λ (l : List Entry). start ++ l) (filter_map_more items i entry c.loop-entry-test.true c.entry-item.is becomes) in
    let once = rw c.group.ensures at c.entries.ensures.well_formed.once in
    let flags_stay = c.join_entry.ensures.same_flags ∙ so.3 in
    let at = take_more_at items i entry c.loop-entry-test.true c.entry-item.is in
    elim c.match-branch-3.branch [
      | in-Some w ↦
          let index = w.in-Some.index in
          let found : IsIndexWhere (λ e. key e ≡ key entry) seconds index = rw w.in-Some.is at c.in_ok-index.ensures.found in (
            grown,
            rw (w.met-is, at) (AreMet-marked key c.loop-entry.met.items (take i items) seconds entry so.1 index (apart_of c.args.second.now.header.flags flags seconds entry c.requires.agree once) so.2 found),
            rw w.met-is (length-set c.loop-entry.met.items index true ∙ so.2),
            flags_stay,
          )
      | in_default w ↦
          let absent : IsTrue (is_none c.in_ok-index.field-0) → All (λ e. key e ≢ key entry) seconds = c.in_ok-index.ensures.absent in
          let none : IsTrue (is_none c.in_ok-index.field-0) = rw w.in_default.is refl in (
            grown,
            rw (w.met-is, at) (AreMet-other key c.loop-entry.met.items (take i items) seconds entry so.1 (absent none)),
            rw w.met-is so.2,
            flags_stay,
          )
    ]

pub loop-entry-init : goal.loop-entry-init
loop-entry-init c =
    let flags = c.args.first.now.header.flags in
    let seconds = c.args.second.now.entries in
    let none = c.in_ok-met.ensures ∙ ap (λ (es : List Entry). replicate (length es) false) (c.entries.ensures.same ∙ ap (λ (g : GroupData). g.entries) c.group.ensures) in (
      sym (append-nil c.args.joined.now.entries),
      AreMet-none (λ (e : Entry). key_of flags e.change) seconds c.in_ok-met.met.items none,
      ap length none ∙ length-replicate (length seconds) false,
      refl,
    )

pub returns-clause-met : goal.returns-clause-met
returns-clause-met c =
    let items = c.entries-entry-items.result.now in
    let all = take_all c.loop-entry.entry-index items c.loop-entry-test.false ∙ c.entries-entry-items.ensures.same in
    rw all at c.loop-entry.invariant.1
