-- `named::NamedTables::list`: the invariant of the loop.
use Rattle.std.proofs.Common.{ℕ, refl, ap, ◌∙◌}
use Rattle.cs_wire.specs.Headers.{header_of}
use Rattle.cs_file_scan.specs.Named.{NamedTable, NamedData}
use Rattle.cs_file_scan.proofs.NamedLemmas.{ListedFront-none, ListedFront-next}
use Rattle.cs_file_scan.proofs.named.NamedTables.list.Goals as goal

pub tables-init : goal.tables-init
tables-init c =
    let none = c.new-named.ensures in (
      ap (λ (n : NamedData). n.file) none ∙ c.file.ensures,
      refl,
      λ entries groups left. rw (ap (λ (n : NamedData). n.tables) none) (ListedFront-none c.args.tables.file c.args.tables entries groups left),
    )

pub tables-preserved : goal.tables-preserved
tables-preserved c =
    let so = c.tables.invariant in
    let next = c.next_table.new.self in
    let table : NamedTable = record { header = header_of c.in-Some.header; start = c.place.result } in
    let file = c.in-Some.ensures.file ∙ so.1 in (
      c.in_ok-push.ensures.file ∙ so.0,
      file,
      λ entries groups left.
          let front = so.2 entries groups left in
          rw c.in_ok-push.ensures.ok (ListedFront-next c.args.tables.file c.tables.named.tables c.tables.left next groups front c.in-Some.header table (c.in-Some.ensures.next front.entries front.others front.are_left) file
          (ap (λ (start : ℕ). record { header = header_of c.in-Some.header; start = start }) c.place.ensures)),
    )
