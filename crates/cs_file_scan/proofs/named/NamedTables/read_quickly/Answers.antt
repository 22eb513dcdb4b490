-- `named::NamedTables::read_quickly`: the loop, and what it ensures.
use Rattle.std.proofs.Common.{sym, ap, ◌∙◌}
use Rattle.cs_file_scan.specs.Named.{NamedData, table_of}
use Rattle.cs_file_scan.proofs.NamedLemmas.{CheckedFront-none, CheckedFront-next, CheckedFront-all, none_found}
use Rattle.cs_file_scan.proofs.named.NamedTables.read_quickly.Goals as goal

pub tables-init : goal.tables-init
tables-init c =
    let none = c.new-named.ensures in (
      ap (λ (n : NamedData). n.file) none,
      rw (ap (λ (n : NamedData). n.tables) none) (CheckedFront-none c.args.file.now),
      c.new-keys.ensures.items,
    )

pub tables-preserved : goal.tables-preserved
tables-preserved c =
    let so = c.tables.invariant in
    let file = c.args.file.now in
    let listed = c.tables.named.tables in
    let read = c.in_ok-table.ensures in
    let table = table_of c.in-Some.table in
    let new = c.find.ensures.absent.0 (none_found c.find.result (sym c.is_some.ensures ∙ c.if-is_some.false)) in (
      c.in_ok-push.ensures.file ∙ so.0,
      rw c.in_ok-push.ensures.ok (CheckedFront-next file listed c.tables.place c.in-Some.end so.1 table (rw c.in-Some.is at read.table).has new),
      rw c.in-Some.is at read.no_key,
    )

pub returns-clause-found : goal.returns-clause-found
returns-clause-found c = CheckedFront-all c.args.file.now c.tables.named c.tables.place c.tables.invariant.0 c.tables.invariant.1 c.tables-test.false
