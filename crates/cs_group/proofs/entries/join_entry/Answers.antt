-- `entries::join_entry`: what `merge_entry` asks for, what it ensures.
use Rattle.std.proofs.Common.{◌≡◌, ◌≢◌, ◌++◌, [], ◌∷◌, All, List, Option, get_or, ap, sym, ◌∙◌, rules}
use Rattle.std.specs.Prelude.{option_to_list}
use Rattle.cs_wire_entries.specs.declared.entry.Entry.{Entry}
use Rattle.cs_wire.specs.Entry.{key_of}
use Rattle.cs_wire.specs.Changeset.{GroupData}
use Rattle.cs_wire.specs.Views.{IsIndexWhere}
use Rattle.cs_group.proofs.MarkLemmas.{outcome_alone, outcome_both, one_key, keys_of, place_of}
use Rattle.cs_group.proofs.entries.join_entry.Goals as goal

pub returns-in_ok-push-in-None-clause-joined : goal.returns-in_ok-push-in-None-clause-joined
returns-in_ok-push-in-None-clause-joined c =
    let flags = c.args.first.now.header.flags in
    let own = c.args.second.now.header.flags in
    let entry = c.args.entry.now in
    let seconds = c.args.second.now.entries in
    let none : All (λ e. key_of own e.change ≢ key_of flags entry.change) seconds = search rules in
    c.in_ok-push-in-None.ensures.pushed ∙ ap (λ (e : Entry). c.args.joined.now.entries ++ e ∷ []) c.in_ok-entry-in-None.ensures
    ∙ ap (λ (o : Option Entry). c.args.joined.now.entries ++ option_to_list o) (sym (outcome_alone own flags seconds entry c.requires.agree none))

pub returns-in_ok-push-in-None-clause-absent : goal.returns-in_ok-push-in-None-clause-absent
returns-in_ok-push-in-None-clause-absent c = λ none.
    let flags = c.args.first.now.header.flags in
    let own = c.args.second.now.header.flags in
    let entry = c.args.entry.now in
    let seconds = c.args.second.now.entries in
    let none : All (λ e. key_of own e.change ≢ key_of flags entry.change) seconds = search rules in
    keys_of own flags seconds entry c.requires.agree none

pub merge_entry-requires-clause-one_key : goal.merge_entry-requires-clause-one_key
merge_entry-requires-clause-one_key c =
    let flags = c.args.first.now.header.flags in
    let own = c.args.second.now.header.flags in
    let entry = c.args.entry.now in
    let seconds = c.args.second.now.entries in
    let index = c.in-Some.index in
    let other = c.index-entries-index.result in
    let at : IsIndexWhere (λ e. key_of own e.change ≡ key_of flags entry.change) seconds index = search rules in
    let same = c.entries.ensures.same ∙ ap (λ (g : GroupData). g.entries) c.group.ensures in
    one_key own flags seconds entry c.requires.agree index other at (c.index-entries-index.is ∙ ap (λ (es : List Entry). get_or es index other) same)

pub returns-in_ok-add_left-in-Some-clause-joined : goal.returns-in_ok-add_left-in-Some-clause-joined
returns-in_ok-add_left-in-Some-clause-joined c =
    let flags = c.args.first.now.header.flags in
    let own = c.args.second.now.header.flags in
    let entry = c.args.entry.now in
    let seconds = c.args.second.now.entries in
    let index = c.in-Some.index in
    let other = c.index-entries-index.result in
    let at : IsIndexWhere (λ e. key_of own e.change ≡ key_of flags entry.change) seconds index = search rules in
    let same = c.entries.ensures.same ∙ ap (λ (g : GroupData). g.entries) c.group.ensures in
    let is = c.index-entries-index.is ∙ ap (λ (es : List Entry). get_or es index other) same in
    let once = rw c.group.ensures at c.entries.ensures.well_formed.once in
    c.in_ok-add_left-in-Some.ensures.added
    ∙ ap (λ (o : Option Entry). c.args.joined.now.entries ++ option_to_list o) (c.in_ok-left-in-Some.ensures.left ∙ sym (outcome_both own flags seconds entry c.requires.agree index other at is once))

pub returns-in_ok-add_left-in-Some-clause-found : goal.returns-in_ok-add_left-in-Some-clause-found
returns-in_ok-add_left-in-Some-clause-found c =
    let flags = c.args.first.now.header.flags in
    let own = c.args.second.now.header.flags in
    let entry = c.args.entry.now in
    let seconds = c.args.second.now.entries in
    let at : IsIndexWhere (λ e. key_of own e.change ≡ key_of flags entry.change) seconds c.in-Some.index = search rules in
    place_of own flags seconds entry c.requires.agree c.in-Some.index at
