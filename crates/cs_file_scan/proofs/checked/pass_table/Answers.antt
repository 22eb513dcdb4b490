-- `checked::pass_table`: the clauses `table` and `forward`.
use Rattle.std.proofs.Common.{◌<◌, length, arith}
use Rattle.cs_file_scan.specs.Named.{NamedTable, table_of}
use Rattle.cs_file_scan.proofs.CheckedLemmas.{table_moves}
use Rattle.cs_file_scan.proofs.VisitLemmas.{VisitsTable-read}
use Rattle.cs_file_scan.proofs.checked.pass_table.Goals as goal

pub returns-clause-table : goal.returns-clause-table
returns-clause-table g c =
    let v = g.V.Visit in
    let read = c.in-Ok.ensures in
    let passed = rw c.in-Some.is at c.in_ok-count.ensures.distinct in
    let table : NamedTable = table_of (record { header = c.in-Ok.header; start = c.in-Ok.start; count = c.in-Some.count }) in
    let some : 0 < length passed.numbers = omega (arith, passed.count_is) in
    VisitsTable-read v.header_text v.entry_text (v.written c.args.visitor.now) c.args.file.now (v.written c.visit_header.new.self) (v.written c.pass_distinct.new.visitor) c.args.at c.in-Some.end table passed.numbers
    read.well_formed read.found c.in_ok-visit_header.ensures passed.visits some passed.apart

pub returns-clause-forward : goal.returns-clause-forward
returns-clause-forward g c = table_moves c.args.file.now c.args.at c.in-Some.end _ (returns-clause-table g c).has c.requires.within
