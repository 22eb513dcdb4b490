-- `tables::add_entries`: the invariant of the loop, the clause `added`.
use Rattle.std.proofs.Common.{◌≡◌, ◌≤◌, List, ℕ, length, refl, ap, ◌∙◌, subst}
use Rattle.cs_wire.specs.Entry.{IsEntry, entry_bytes}
use Rattle.cs_wire.specs.ReadFaults.{Stands}
use Rattle.cs_file_scan.specs.Tables.{IsNextEntry}
use Rattle.cs_group.specs.Joining.{key_marks}
use Rattle.cs_group.proofs.KeyPlaceLemmas.{fits_same}
use Rattle.cs_changegroup.proofs.EntryLemmas.{AddsSome-all, AddsSome-next, AddsSome-none, next_stands, stands_in_files}
use Rattle.cs_changegroup.proofs.tables.add_entries.Goals as goal

pub entries-init : goal.entries-init
entries-init c = (refl, refl, c.place-start.ensures, refl, λ entries groups left apart. AddsSome-none c.args.files.now c.args.table.now c.args.tables entries groups left)

pub entries-preserved : goal.entries-preserved
entries-preserved c =
    let so = c.entries.invariant in
    let seen = c.in-Some.entry in
    let old = c.args.table.now in
    let next = c.next_entry.new.self in
    let flags : seen.flags ≡ c.args.tables.flags = c.in-Some.ensures.flags.1 ∙ so.0 in
    let fits : IsEntry old.header.flags seen.entry = fits_same seen.flags old.header.flags seen.entry.change (ap key_marks flags ∙ c.requires.agree) c.in-Some.ensures.well_formed in (
      c.in-Some.ensures.flags.0 ∙ so.0,
      c.in-Some.ensures.file ∙ so.1,
      c.place-end.ensures,
      c.in_ok-add.ensures.header ∙ so.3,
      λ entries groups left apart.
          let some = so.4 entries groups left apart in
          let is : IsNextEntry c.entries.left.flags some.passed.others groups seen next = c.in-Some.ensures.next some.passed.others groups some.passed.are_left in
          let stands : Stands c.args.tables.file c.entries.start (entry_bytes seen.entry) c.place-end.result =
          rw (← so.1, so.2, c.place-end.ensures) (next_stands c.entries.left some.passed.others groups seen next some.passed.are_left is c.in-Some.ensures.file) in
          let le : c.entries.start ≤ length c.args.tables.file = rw so.2 (subst (λ (f : List ℕ). c.entries.left.place ≤ length f) so.1 some.passed.are_left.within) in
          let text = stands_in_files c.args.files.now c.args.base c.args.tables.file c.requires.part c.entries.start c.place-end.result (entry_bytes seen.entry) le stands in
          AddsSome-next c.args.files.now old c.entries.table c.entries.left entries groups some c.add.new.self next seen is so.3 fits apart (c.in_ok-add.ensures.added text),
    )

pub returns-clause-added : goal.returns-clause-added
returns-clause-added c = λ entries groups left apart.
    let some = c.entries.invariant.4 entries groups left apart in
    let none = c.in_default.ensures.next some.passed.others groups some.passed.are_left in
    AddsSome-all c.args.files.now c.args.table.now c.entries.table c.entries.left entries groups some none.0
