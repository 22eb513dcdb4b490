-- `keyed::KeyedEntries::list`: the invariant of the loop.
use Rattle.std.proofs.Common.{refl, sym, ap, ◌∙◌}
use Rattle.cs_file_scan.specs.KeyedFile.{KeyedFile}
use Rattle.cs_file_scan.proofs.KeyedLemmas.{ListsEntries-none, ListsEntries-next}
use Rattle.cs_file_scan.proofs.keyed.KeyedEntries.list.Goals as goal

pub entries-init : goal.entries-init
entries-init c =
    let none = c.in_ok-keyed.ensures in (
      none.file.1,
      refl,
      none.file.0,
      λ entries groups left. ListsEntries-none c.in_ok-keyed.keyed c.args.tables entries groups none.file.0 none.file.1 none.empty.0 none.empty.1 left,
    )

pub entries-preserved : goal.entries-preserved
entries-preserved c =
    let so = c.entries.invariant in
    let pushed = c.in_ok-push.ensures.ok in
    let file = so.2 ∙ sym c.in-Some.ensures.file in (
      ap (λ (k : KeyedFile). k.flags) pushed ∙ so.0,
      c.in-Some.ensures.flags.0 ∙ so.1,
      ap (λ (k : KeyedFile). k.file) pushed ∙ file,
      λ entries groups left.
          let lists = so.3 entries groups left in
          rw pushed (ListsEntries-next c.entries.keyed c.entries.left entries groups lists c.next_entry.new.self c.in-Some.entry c.in_ok-number.number c.place.result
          (c.in-Some.ensures.next lists.passed.others groups lists.passed.are_left) file (so.0 ∙ sym so.1) c.in_ok-number.ensures c.place.ensures),
    )
