-- The run is past the entries so far.
use Rattle.std.proofs.Common.{◌≡◌, ◌≤◌, ◌+◌, ◌-◌, List, [], length, true}
use Rattle.std.specs.Fn.{FnReturnsAt}
use Rattle.std.specs.Rc.{rc_str_bytes}
use Rattle.cs_wire_entries.specs.declared.entry.Entry.{Entry}
use Rattle.cs_wire.specs.Changeset.{GroupData}
use Rattle.cs_wire.specs.Headers.{header_of}
use Rattle.cs_file_scan.specs.Tables.{EntriesLeft}
use Rattle.cs_apply_conflict_kinds.specs.Applying.{refuses_at}
use Rattle.cs_apply_conflict_kinds.specs.Judging.{judged}
use Rattle.cs_apply_engine.specs.Run.{directed_group, group_of}
use Rattle.cs_apply_engine.specs.Writes.{IsGroupWrite}
use Rattle.cs_apply_engine.specs.Tally.{is_listed}
use Rattle.cs_apply_engine.proofs.FileLemmas.{RunsEntries}
use Rattle.cs_apply_engine.proofs.running.take_table.Given as goal

abbrev pub invariant-entries : goal.invariant-entries
invariant-entries g l =
    let rows = g.B.Rows in
    let h = header_of l.header in
    goal.H-IsAlwaysCallable g l.handler × ((entries : List Entry) (others : List GroupData) → EntriesLeft l.fn.tables entries others → rows.keeps (IsGroupWrite (directed_group l.direction (group_of h entries))) true l.fn.rows l.rows) × (l.tables.file ≡ l.fn.tables.file) × (l.tables.flags ≡ h.flags) × (l.fn.tables.place ≤ l.tables.place) × (l.tables.place ≤ length l.tables.file)
    × (l.run.tally.ignored ≤ l.tables.place) × (l.run.tables ≡ l.fn.run.tables + 1) × (l.run.noop ≡ l.fn.run.noop) × (is_listed l.run.tally.written ≡ is_listed l.fn.run.tally.written)
    × (rows.is_honest l.rows → rows.is_honest l.fn.rows × (rc_str_bytes l.run.table ≡ h.name) × (l.run.judgement ≡ judged (rows.state l.rows) (group_of h [])) × (l.run.refuses.items ≡ refuses_at (rows.state l.rows) h.name))
    × ((entries : List Entry) (others : List GroupData) → EntriesLeft l.fn.tables entries others
    → RunsEntries (FnReturnsAt g.H.Fn l.handler) l.direction h l.tables l.fn.run l.run (rows.is_honest l.rows) (rows.state l.fn.rows) (rows.state l.rows) entries others)

abbrev pub decreases-entries : goal.decreases-entries
decreases-entries g l = length l.tables.file - l.tables.place
