-- `entries::add_new_entries`: what `add_unmet` asks for, the invariant of the loop at `key`, what it ensures.
use Rattle.std.proofs.Common.{◌<◌, ◌≤◌, false, List, length, get_or, refl, sym, ap, ◌∙◌, arith}
use Rattle.std.specs.Prelude.{None, Some, if◌then◌else◌}
use Rattle.std.proofs.lemmas.List.{get_or-map, length-drop, length-map, take_all}
use Rattle.cs_value.proofs.ListLemmas.{filter_more_behind}
use Rattle.cs_wire_entries.specs.declared.entry.Entry.{Entry}
use Rattle.cs_wire.specs.Entry.{key_of}
use Rattle.cs_wire.specs.Views.{group_keys}
use Rattle.cs_group.specs.Joining.{is_new, key_marks}
use Rattle.cs_group.proofs.KeyPlaceLemmas.{key_of_same}
use Rattle.cs_group.proofs.MarkLemmas.{unmet_is}
use Rattle.cs_group.proofs.SetLemmas.{left_within, left_first, left_others}
use Rattle.cs_group.proofs.entries.add_new_entries.Goals as goal

pub add_unmet-requires : goal.add_unmet-requires
add_unmet-requires c =
    let own = c.args.second.now.header.flags in
    let entries = c.args.second.now.entries in
    let keys = group_keys own entries in
    let index = c.loop-key.index in
    let entry = c.index-entries-index.result in
    let so = c.loop-key.invariant in
    let left = sym so.0 ∙ c.in-Some.ensures.steps in
    let lt : index < length entries = omega (arith, left_within keys index c.in-Some.key c.next.new.self left, length-map entries (λ (e : Entry). key_of own e.change)) in
    let is = c.index-entries-index.is ∙ ap (λ (es : List Entry). get_or es index entry) c.entries-entries.ensures.same in
    left_first keys index c.in-Some.key c.next.new.self left ∙ get_or-map (λ (e : Entry). key_of own e.change) entries index entry c.in-Some.key lt ∙ ap (λ (e : Entry). key_of own e.change) (sym is)
    ∙ key_of_same own c.loop-key.joined.flags entry.change (c.requires.agree ∙ ap key_marks (sym so.1))

pub loop-key-preserved : goal.loop-key-preserved
loop-key-preserved c =
    let own = c.args.second.now.header.flags in
    let entries = c.args.second.now.entries in
    let keys = group_keys own entries in
    let index = c.loop-key.index in
    let entry = c.index-entries-index.result in
    let so = c.loop-key.invariant in
    let left = sym so.0 ∙ c.in-Some.ensures.steps in
    let lt : index < length entries = omega (arith, left_within keys index c.in-Some.key c.next.new.self left, length-map entries (λ (e : Entry). key_of own e.change)) in
    let is = c.index-entries-index.is ∙ ap (λ (es : List Entry). get_or es index entry) c.entries-entries.ensures.same in
    let marked = get_or c.args.met.now index false in (
      left_others keys index c.in-Some.key c.next.new.self left,
      c.in_ok-add_unmet.ensures.same_flags ∙ so.1,
      λ firsts met.
          let key = λ (e : Entry). key_of c.args.joined.now.flags e.change in
          filter_more_behind entries index entry lt is (is_new key firsts) c.args.joined.now.entries c.loop-key.joined.entries c.add_unmet.new.joined.entries (if marked then None else Some entry) (so.2 firsts met)
          (unmet_is key c.args.met.now firsts entries met index entry lt is marked refl) c.in_ok-add_unmet.ensures.added,
    )

pub returns-clause-grown : goal.returns-clause-grown
returns-clause-grown c = λ firsts met.
    let own = c.args.second.now.header.flags in
    let entries = c.args.second.now.entries in
    let index = c.loop-key.index in
    let so = c.loop-key.invariant in
    let le : length entries ≤ index = omega (arith, ap length (sym so.0 ∙ c.in-None.ensures.steps.0), length-drop index (group_keys own entries), length-map entries (λ (e : Entry). key_of own e.change)) in
    rw (take_all index entries le) at (so.2 firsts met)
