-- `tables::Tables::next_entry`: what it ensures.
use Rattle.std.proofs.Common.{◌≡◌, ◌<◌, ◌≤◌, [], sym, subst, arith}
use Rattle.std.proofs.lemmas.Bool.{iff_false}
use Rattle.cs_file_scan.specs.Tables.{TablesData, EntriesLeft, IsNextEntry}
use Rattle.cs_wire_entries.proofs.EntryLemmas.{entry_bytes_some}
use Rattle.cs_wire_entries.proofs.ReadingLemmas.{Stands-moves}
use Rattle.cs_file_scan.proofs.TablesLemmas.{no_entry_left, entry_left, entry_passed}
use Rattle.cs_file_scan.proofs.tables.Tables.next_entry.Goals as goal

pub returns-then-not-has_entry-clause-next : goal.returns-then-not-has_entry-clause-next
returns-then-not-has_entry-clause-next c = λ entries groups left.
    let v = c.self.view_is in
    let so = subst (λ (t : TablesData). EntriesLeft t entries groups) (sym v) left in
    subst (λ (t : TablesData). (entries ≡ []) × (t.flags ≡ t.flags) × EntriesLeft t [] groups) v (no_entry_left _ entries groups so (iff_false c.has_entry.ensures c.if-not-has_entry.true))

pub returns-in_default-clause-next : goal.returns-in_default-clause-next
returns-in_default-clause-next c = λ entries groups left.
    let so = subst (λ (t : TablesData). EntriesLeft t entries groups) (sym c.self.view_is) left in
    let next = entry_left _ entries groups so (c.has_entry.ensures.0 c.if-not-has_entry.false) in
    absurd (c.in_default.ensures.only next.0 _ next.3 next.4)

pub returns-clause-next : goal.returns-clause-next
returns-clause-next c = λ entries groups left.
    let v = c.self.view_is in
    let so = subst (λ (t : TablesData). EntriesLeft t entries groups) (sym v) left in
    let read = c.in-Ok.ensures in
    let i = c.self.inside in
    let after : TablesData = record { file = i.file.now; place = c.in-Ok.end; flags = i.flags.now } in
    subst (λ (t : TablesData). IsNextEntry t.flags entries groups c.in-Ok.seen after) v
    (entry_passed _ entries groups so (c.has_entry.ensures.0 c.if-not-has_entry.false) c.in-Ok.seen c.in-Ok.end read.flags read.found c.in-Ok.ensures.only)

pub returns-clause-forward : goal.returns-clause-forward
returns-clause-forward c =
    let i = c.self.inside in
    let here = c.has_entry.ensures.0 c.if-not-has_entry.false in
    let stands = c.in-Ok.ensures.found in (
      subst (λ (t : TablesData). t.place < c.in-Ok.end) c.self.view_is (Stands-moves i.file.now i.place c.in-Ok.end _ stands (entry_bytes_some c.in-Ok.seen.entry) here.within),
      stands.within,
    )

pub returns-clause-ahead : goal.returns-clause-ahead
returns-clause-ahead c =
    let i = c.self.inside in
    let here = c.has_entry.ensures.0 c.if-not-has_entry.false in
    let moved = Stands-moves i.file.now i.place c.in-Ok.end _ c.in-Ok.ensures.found (entry_bytes_some c.in-Ok.seen.entry) here.within in
    subst (λ (t : TablesData). t.place ≤ c.in-Ok.end) c.self.view_is (omega arith)
