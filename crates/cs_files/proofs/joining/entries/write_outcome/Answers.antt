-- `joining::entries::write_outcome`: what `write_merged` asks for, what it ensures.
use Rattle.std.proofs.Common.{◌≡◌, ◌≢◌, ◌++◌, All, ap, sym, ◌∙◌}
use Rattle.std.specs.Prelude.{is_none}
use Rattle.cs_wire.specs.Entry.{entry_bytes, key_of}
use Rattle.cs_wire.specs.Views.{IsIndexWhere}
use Rattle.cs_files.specs.Writing.{some_bytes}
use Rattle.cs_group.proofs.KeyPlaceLemmas.{key_of_same}
use Rattle.cs_group.proofs.MarkLemmas.{outcome_alone, outcome_both}
use Rattle.cs_files.proofs.JoiningLemmas.{key_there}
use Rattle.cs_files.proofs.joining.entries.write_outcome.Goals as goal

pub returns-in-None-clause-absent : goal.returns-in-None-clause-absent
returns-in-None-clause-absent c = λ others behind keyed none.
    let key = c.as_slice.ensures.value ∙ c.in_ok-key.ensures in
    rw key at (c.in_ok-find.ensures.absent others behind keyed (ap is_none c.in-None.is))

pub returns-in-None-clause-written : goal.returns-in-None-clause-written
returns-in-None-clause-written c = λ others behind keyed apart.
    let entry = c.args.entry.now in
    let own = c.args.seconds.now.flags in
    let key = c.as_slice.ensures.value ∙ c.in_ok-key.ensures in
    let none : All (λ e. key_of own e.change ≢ key_of entry.flags entry.entry.change) others = rw key at (c.in_ok-find.ensures.absent others behind keyed (ap is_none c.in-None.is)) in
    c.in_ok-write_to-in-None.ensures.ok ∙ ap (λ o. c.args.out.now.items ++ some_bytes entry_bytes o) (sym (outcome_alone own entry.flags others entry.entry c.requires.agree none))

pub write_merged-requires-clause-one_key : goal.write_merged-requires-clause-one_key
write_merged-requires-clause-one_key c =
    let entry = c.args.entry.now in
    let own = c.args.seconds.now.flags in
    let second = c.in-Some.found.entry.entry in
    let key = c.as_slice.ensures.value ∙ c.in_ok-key.ensures in
    let same : key_of own second.change ≡ c.as_slice.result.now = rw c.in-Some.is at c.in_ok-find.ensures.key in
    sym key ∙ sym same ∙ key_of_same own entry.flags second.change c.requires.agree

pub returns-clause-found : goal.returns-clause-found
returns-clause-found c = λ others behind keyed.
    let own = c.args.seconds.now.flags in
    let found = c.in-Some.found in
    let key = c.as_slice.ensures.value ∙ c.in_ok-key.ensures in
    let same : key_of own found.entry.entry.change ≡ c.as_slice.result.now = rw c.in-Some.is at c.in_ok-find.ensures.key in
    let at : IsIndexWhere (λ e. e ≡ found.entry.entry) others found.index = rw c.in-Some.is at (c.in_ok-find.ensures.found others behind keyed) in
    key_there own _ others found.index found.entry.entry at (same ∙ key)

pub returns-clause-written : goal.returns-clause-written
returns-clause-written c = λ others behind keyed apart.
    let entry = c.args.entry.now in
    let own = c.args.seconds.now.flags in
    let found = c.in-Some.found in
    let second = found.entry.entry in
    let key = c.as_slice.ensures.value ∙ c.in_ok-key.ensures in
    let same : key_of own second.change ≡ c.as_slice.result.now = rw c.in-Some.is at c.in_ok-find.ensures.key in
    let at : IsIndexWhere (λ e. e ≡ second) others found.index = rw c.in-Some.is at (c.in_ok-find.ensures.found others behind keyed) in
    let there = key_there own (key_of entry.flags entry.entry.change) others found.index second at (same ∙ key) in
    c.in_ok-write_merged-in-Some.ensures
    ∙ ap (λ o. c.args.out.now.items ++ some_bytes entry_bytes o) (sym (outcome_both own entry.flags others entry.entry c.requires.agree found.index second there (sym (at.holds second)) apart))
