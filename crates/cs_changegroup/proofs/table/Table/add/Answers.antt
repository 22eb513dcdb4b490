-- `table::Table::add`: the clause `added`.
use Rattle.std.proofs.Common.{◌≡◌, refl, ap, ◌∙◌}
use Rattle.cs_wire.specs.Entry.{IsEntry, key_of}
use Rattle.cs_file_scan.specs.Distinct.{number_of}
use Rattle.cs_group.proofs.KeyPlaceLemmas.{fits_same, key_of_same}
use Rattle.cs_changegroup.specs.Slots.{IsMergedAt, NoneLives, if_live, kept_key}
use Rattle.cs_changegroup.proofs.SlotLemmas.{ok_then, pushed_adds, put_adds}
use Rattle.cs_changegroup.proofs.table.Table.add.Goals as goal

pub returns-in-None-clause-added : goal.returns-in-None-clause-added
returns-in-None-clause-added c = λ text.
    let entry = c.args.entry.now in
    let old = c.args.self.now in
    let flags = old.header.flags in
    let fits : IsEntry flags entry.entry = fits_same entry.flags flags entry.entry.change c.requires.agree c.requires.fits in
    let number : c.number_of-number.result ≡ number_of (key_of flags entry.entry.change) =
    c.number_of-number.ensures ∙ ap number_of (c.as_slice.ensures.value ∙ c.in_ok-key.ensures ∙ key_of_same entry.flags flags entry.entry.change c.requires.agree) in
    ok_then c.push.result c.push.ensures.ok
    (λ pushed kept are.
    let none : NoneLives if_live (kept_key flags) kept (key_of flags entry.entry.change) = rw c.in-None.is at (c.in_ok-plan.ensures.planned kept are) in
    let so = pushed_adds c.args.files.now old c.push.new.self kept are entry.entry fits c.number_of-number.result _ pushed refl text number none in
    (so.grown, so.are_slots, so.joined))

pub returns-in-Some-clause-added : goal.returns-in-Some-clause-added
returns-in-Some-clause-added c = λ text.
    let entry = c.args.entry.now in
    let old = c.args.self.now in
    let flags = old.header.flags in
    let fits : IsEntry flags entry.entry = fits_same entry.flags flags entry.entry.change c.requires.agree c.requires.fits in
    ok_then c.put.result c.put.ensures.puts
    (λ puts kept are.
    let at : IsMergedAt flags kept entry.entry c.in-Some.outcome = rw c.in-Some.is at (c.in_ok-plan.ensures.planned kept are) in
    let so = put_adds c.args.files.now old c.put.new.self kept are entry.entry fits c.in-Some.outcome at puts in
    (so.grown, so.are_slots, so.joined))
