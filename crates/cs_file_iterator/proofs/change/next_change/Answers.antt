-- `change::next_change`: the clauses `next`, `done` and `no_fault`.
use Rattle.std.proofs.Common.{[], arith}
use Rattle.std.proofs.lemmas.Bool.{iff_false}
use Rattle.std.proofs.lemmas.Result.{err_from_is_err_and}
use Rattle.cs_file_iterator.proofs.CheckedLemmas.{entry_start, none_here, not_all, opened, table_start}
use Rattle.cs_file_iterator.proofs.ReadableLemmas.{header_before, last_of, no_entry_read, no_header_here, no_table_read, opened_none, reads_entry, reads_table}
use Rattle.cs_file_iterator.proofs.StepLemmas.{between_end, between_of, between_within, in_table_of}
use Rattle.cs_file_iterator.proofs.change.next_change.Goals as goal

pub returns-in_err-pass_change-clause-no_fault : goal.returns-in_err-pass_change-clause-no_fault
returns-in_err-pass_change-clause-no_fault c = λ all left is_file so.
    absurd (c.in_err-pass_change.ensures.no_fault all left is_file (in_table_of c.args.file.now all left c.args.place c.args.last.now so (c.is_in_table.ensures.0 c.if-is_in_table.true).0))

pub returns-then-place-file-clause-done : goal.returns-then-place-file-clause-done
returns-then-place-file-clause-done c = λ all left is_file so is_none.
    let between = between_of c.args.file.now all left c.args.place c.args.last.now is_file so (λ some here. iff_false c.is_in_table.ensures c.if-is_in_table.false (some, here)) in
    between_end c.args.file.now all left c.args.place is_file between c.if-place-file.true

pub returns-then-place-file-2-clause-no_fault : goal.returns-then-place-file-2-clause-no_fault
returns-then-place-file-2-clause-no_fault c = λ all left is_file so.
    let between = between_of c.args.file.now all left c.args.place c.args.last.now is_file so (λ some here. iff_false c.is_in_table.ensures c.if-is_in_table.false (some, here)) in
    omega (arith, between_within c.args.file.now all left c.args.place is_file between, c.if-place-file-2.true)

pub returns-in_err-table-clause-no_fault : goal.returns-in_err-table-clause-no_fault
returns-in_err-table-clause-no_fault c = λ all left is_file so.
    let between = between_of c.args.file.now all left c.args.place c.args.last.now is_file so (λ some here. iff_false c.is_in_table.ensures c.if-is_in_table.false (some, here)) in
    absurd (c.in_err-table.ensures.no_fault all left is_file between)

pub returns-in_err-pass_change-2-clause-no_fault : goal.returns-in_err-pass_change-2-clause-no_fault
returns-in_err-pass_change-2-clause-no_fault c = λ all left is_file so.
    let between = between_of c.args.file.now all left c.args.place c.args.last.now is_file so (λ some here. iff_false c.is_in_table.ensures c.if-is_in_table.false (some, here)) in
    absurd (c.in_err-pass_change-2.ensures.no_fault all left is_file (c.in_ok-table.ensures.next all left is_file between))

pub returns-clause-next : goal.returns-clause-next
returns-clause-next c = λ all left is_file so.
    let between = between_of c.args.file.now all left c.args.place c.args.last.now is_file so (λ some here. iff_false c.is_in_table.ensures c.if-is_in_table.false (some, here)) in
    c.in_ok-pass_change-2.ensures.next all left is_file (c.in_ok-table.ensures.next all left is_file between)

-- ---- over any bytes

pub returns-in_err-pass_change-clause-stops : goal.returns-in_err-pass_change-clause-stops
returns-in_err-pass_change-clause-stops c = λ groups so.
    let p = err_from_is_err_and c.from_residual.result c.from_residual.ensures.1 in
    let here = c.is_in_table.ensures.0 c.if-is_in_table.true in
    let last = last_of c.args.file.now groups c.args.place c.args.last.now so here.0 in
    rw p.1 (no_entry_read c.args.file.now groups c.args.place c.args.last.now so last here.1 (c.in_err-pass_change.ensures.stops last.last.header last.table))

pub returns-in_err-pass_change-clause-checked : goal.returns-in_err-pass_change-clause-checked
returns-in_err-pass_change-clause-checked c = λ groups fault so unreadable.
    let p = err_from_is_err_and c.from_residual.result c.from_residual.ensures.1 in
    let here = c.is_in_table.ensures.0 c.if-is_in_table.true in
    let last = last_of c.args.file.now groups c.args.place c.args.last.now so here.0 in
    rw (p.1, p.2) (c.in_err-pass_change.ensures.checked last.last.header last.last.entries fault last.table (entry_start c.args.file.now fault unreadable groups c.args.place c.args.last.now so last) unreadable)

pub returns-then-is_in_table-clause-reads : goal.returns-then-is_in_table-clause-reads
returns-then-is_in_table-clause-reads c = λ groups so.
    let here = c.is_in_table.ensures.0 c.if-is_in_table.true in
    let last = last_of c.args.file.now groups c.args.place c.args.last.now so here.0 in
    reads_entry c.args.file.now groups c.args.place c.args.last.now so last _ _ (c.in_ok-pass_change.ensures.reads last.last.header last.table)

pub returns-then-place-file-clause-unfinished : goal.returns-then-place-file-clause-unfinished
returns-then-place-file-clause-unfinished c = λ groups fault so unreadable is_none.
    not_all c.args.file.now fault unreadable groups c.args.place c.args.last.now so c.if-place-file.true

pub returns-then-place-file-2-clause-stops : goal.returns-then-place-file-2-clause-stops
returns-then-place-file-2-clause-stops c = λ groups so. absurd (omega (arith, so.begins.stand.within, c.if-place-file-2.true))

pub returns-then-place-file-2-clause-checked : goal.returns-then-place-file-2-clause-checked
returns-then-place-file-2-clause-checked c = λ groups fault so unreadable. absurd (omega (arith, so.begins.stand.within, c.if-place-file-2.true))

pub returns-in_err-table-clause-stops : goal.returns-in_err-table-clause-stops
returns-in_err-table-clause-stops c = λ groups so.
    let p = err_from_is_err_and c.from_residual-in_err-table.result c.from_residual-in_err-table.ensures.1 in
    rw p.1 (no_table_read c.args.file.now groups c.args.place c.args.last.now so (λ some here. iff_false c.is_in_table.ensures c.if-is_in_table.false (some, here)) c.in_err-table.ensures.stops)

pub returns-in_err-table-clause-checked : goal.returns-in_err-table-clause-checked
returns-in_err-table-clause-checked c = λ groups fault so unreadable.
    let p = err_from_is_err_and c.from_residual-in_err-table.result c.from_residual-in_err-table.ensures.1 in
    let none = none_here c.args.file.now c.args.place (λ some here. iff_false c.is_in_table.ensures c.if-is_in_table.false (some, here)) in
    rw (p.1, p.2) (c.in_err-table.ensures.checked groups fault (table_start c.args.file.now fault unreadable groups c.args.place so.begins) none unreadable)

pub returns-in_err-pass_change-2-clause-stops : goal.returns-in_err-pass_change-2-clause-stops
returns-in_err-pass_change-2-clause-stops c = λ groups so.
    let p = err_from_is_err_and c.from_residual-in_err-pass_change-2.result c.from_residual-in_err-pass_change-2.ensures.1 in
    let opens = c.in_ok-table.ensures.reads in
    rw p.1 (no_table_read c.args.file.now groups c.args.place c.args.last.now so (λ some here. iff_false c.is_in_table.ensures c.if-is_in_table.false (some, here))
    (opened_none c.args.file.now c.args.place c.in_ok-table.start c.in_ok-table.table opens (c.in_err-pass_change-2.ensures.stops opens.header opens.table)))

pub returns-in_err-pass_change-2-clause-checked : goal.returns-in_err-pass_change-2-clause-checked
returns-in_err-pass_change-2-clause-checked c = λ groups fault so unreadable.
    let p = err_from_is_err_and c.from_residual-in_err-pass_change-2.result c.from_residual-in_err-pass_change-2.ensures.1 in
    let opens = c.in_ok-table.ensures.reads in
    let start = table_start c.args.file.now fault unreadable groups c.args.place so.begins in
    rw (p.1, p.2) (c.in_err-pass_change-2.ensures.checked opens.header [] fault opens.table (opened c.args.file.now fault unreadable c.args.place c.in_ok-table.start groups opens.header start opens.is_header opens.stands) unreadable)

pub returns-clause-reads : goal.returns-clause-reads
returns-clause-reads c = λ groups so.
    let opens = c.in_ok-table.ensures.reads in
    reads_table c.args.file.now groups c.args.place c.args.last.now so c.in_ok-table.table _ c.in_ok-table.start _ opens (c.in_ok-pass_change-2.ensures.reads opens.header opens.table)

-- ---- a header without an entry

pub returns-in_err-pass_change-clause-empty : goal.returns-in_err-pass_change-clause-empty
returns-in_err-pass_change-clause-empty c = λ header end is stands none. absurd (no_header_here c.args.file.now c.args.place end header (c.is_in_table.ensures.0 c.if-is_in_table.true).1 stands)

pub returns-then-is_in_table-clause-empty : goal.returns-then-is_in_table-clause-empty
returns-then-is_in_table-clause-empty c = λ header end is stands none. absurd (no_header_here c.args.file.now c.args.place end header (c.is_in_table.ensures.0 c.if-is_in_table.true).1 stands)

pub returns-then-place-file-clause-empty : goal.returns-then-place-file-clause-empty
returns-then-place-file-clause-empty c = λ header end is stands none. absurd (omega (arith, header_before c.args.file.now c.args.place end header stands, c.if-place-file.true))

pub returns-then-place-file-2-clause-empty : goal.returns-then-place-file-2-clause-empty
returns-then-place-file-2-clause-empty c = λ header end is stands none. absurd (omega (arith, header_before c.args.file.now c.args.place end header stands, c.if-place-file-2.true))

pub returns-in_err-table-clause-empty : goal.returns-in_err-table-clause-empty
returns-in_err-table-clause-empty c = λ header end is stands none.
    let p = err_from_is_err_and c.from_residual-in_err-table.result c.from_residual-in_err-table.ensures.1 in
    rw (p.1, p.2) (c.in_err-table.ensures.empty header end is stands none)

pub returns-in_err-pass_change-2-clause-empty : goal.returns-in_err-pass_change-2-clause-empty
returns-in_err-pass_change-2-clause-empty c = λ header end is stands none. absurd (c.in_ok-table.ensures.empty header end is stands none)

pub returns-clause-empty : goal.returns-clause-empty
returns-clause-empty c = λ header end is stands none. absurd (c.in_ok-table.ensures.empty header end is stands none)
