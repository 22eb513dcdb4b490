-- `tables::Tables::open_table`: what it ensures.
use Rattle.std.proofs.Common.{◌≡◌, ◌<◌, [], sym, subst, arith}
use Rattle.cs_file_scan.specs.Tables.{TablesData, EntriesLeft}
use Rattle.cs_wire.specs.Changeset.{header_bytes}
use Rattle.cs_wire_entries.proofs.ReadingLemmas.{Stands-moves}
use Rattle.cs_file_scan.proofs.TablesLemmas.{no_table_left, table_left, table_passed}
use Rattle.cs_file_scan.proofs.tables.Tables.open_table.Goals as goal

pub returns-then-self-clause-next : goal.returns-then-self-clause-next
returns-then-self-clause-next c = λ groups left.
    let v = c.self.view_is in
    let so = subst (λ (t : TablesData). EntriesLeft t [] groups) (sym v) left in
    subst (λ (t : TablesData). (groups ≡ []) × EntriesLeft t [] []) v (no_table_left _ groups so c.if-self.true)

pub returns-in_default-clause-next : goal.returns-in_default-clause-next
returns-in_default-clause-next c = λ groups left.
    let so = subst (λ (t : TablesData). EntriesLeft t [] groups) (sym c.self.view_is) left in
    let next = table_left _ groups so c.if-self.false in
    absurd (c.in_default.ensures.only next.0.header _ next.3.header next.4)

pub returns-clause-next : goal.returns-clause-next
returns-clause-next c = λ groups left.
    let so = subst (λ (t : TablesData). EntriesLeft t [] groups) (sym c.self.view_is) left in
    let read = c.in-Ok.ensures in
    table_passed _ groups so c.if-self.false c.in-Ok.header c.in-Ok.end read.found c.in-Ok.ensures.only

pub returns-clause-forward : goal.returns-clause-forward
unfolding header_bytes
returns-clause-forward c =
    let i = c.self.inside in
    let stands = c.in-Ok.ensures.found in (
      subst (λ (t : TablesData). t.place < c.in-Ok.end) c.self.view_is (Stands-moves i.file.now i.place c.in-Ok.end _ stands (omega arith) c.if-self.false),
      stands.within,
    )
