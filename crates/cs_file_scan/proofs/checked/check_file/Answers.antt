-- `checked::check_file`: the loop, and what it ensures.
use Rattle.cs_file_scan.specs.Named.{table_of}
use Rattle.cs_file_scan.specs.Visits.{group_text}
use Rattle.cs_file_scan.proofs.VisitLemmas.{VisitsGroups-none, VisitsGroups-push, IsVisited-read}
use Rattle.cs_file_scan.proofs.checked.check_file.Goals as goal

pub tables-init : goal.tables-init
tables-init g c =
    let v = g.V.Visit in (
      rw c.new-names.ensures.items (VisitsGroups-none (group_text v.header_text v.entry_text) (v.written c.args.visitor.now) c.args.file.now),
      c.new-keys.ensures.items,
    )

pub tables-preserved : goal.tables-preserved
tables-preserved g c =
    let v = g.V.Visit in
    let ensured = c.in_ok-table.ensures in (
      VisitsGroups-push (group_text v.header_text v.entry_text) (v.written c.args.visitor.now) c.args.file.now (v.written c.tables.visitor) (v.written c.pass_table.new.visitor) c.tables.names.items c.push.new.self.items c.tables.place c.in-Some.end
          c.tables.invariant.0 (table_of c.in-Some.table) (rw c.in-Some.is at ensured.table) c.as_bytes.result.now c.number_of.result c.as_bytes.ensures.value c.number_of.ensures c.in_ok-push.ensures.items,
      rw c.in-Some.is at ensured.no_key,
    )

pub returns : goal.returns
returns g c = λ yes.
    let v = g.V.Visit in
    IsVisited-read (group_text v.header_text v.entry_text) (v.written c.args.visitor.now) c.args.file.now (v.written c.tables.visitor) c.tables.names.items c.tables.place c.tables.invariant.0 c.tables-test.false (c.take_distinct.ensures.distinct yes)
