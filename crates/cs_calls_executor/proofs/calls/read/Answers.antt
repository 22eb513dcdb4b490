-- `calls::read`: what is read is answered.
use Rattle.std.proofs.Common.{option_map}
use Rattle.sqlite.specs.Held.{state}
use Rattle.cs_calls_answers.specs.declared.answer.Answer.TheVariants as answer
use Rattle.cs_calls_executor.specs.Calls.{page_answer}
use Rattle.cs_calls_executor.specs.TableCalls.{table_count, table_page, table_row}
use Rattle.cs_calls_executor.proofs.CallLemmas.{read_made}
use Rattle.cs_calls_executor.proofs.calls.read.Goals as goal

pub returns-in_ok-row-in-Get : goal.returns-in_ok-row-in-Get
returns-in_ok-row-in-Get g c =
    let it = c.in-Get in
    rw it.is (read_made answer.Row (λ tables. table_row tables it.table it.key) (state g.S.Store c.args.transaction.now) (state g.S.Store c.read_row.new.transaction) c.in_ok-row-in-Get.row c.in_ok-row-in-Get.ensures)

pub returns-in_ok-page-in-Rows : goal.returns-in_ok-page-in-Rows
returns-in_ok-page-in-Rows g c =
    let it = c.in-Rows in
    rw (it.is, ← c.as_ref.ensures.value) (read_made page_answer (λ tables. table_page tables it.table (option_map (λ r. r.now) c.as_ref.result) it.limit) (state g.S.Store c.args.transaction.now) (state g.S.Store c.read_page.new.transaction) c.in_ok-page-in-Rows.page c.in_ok-page-in-Rows.ensures)

pub returns-in_ok-count-in-Count : goal.returns-in_ok-count-in-Count
returns-in_ok-count-in-Count g c =
    let it = c.in-Count in
    rw it.is (read_made answer.Number (λ tables. table_count tables it.table) (state g.S.Store c.args.transaction.now) (state g.S.Store c.count_rows.new.transaction) c.in_ok-count-in-Count.count c.in_ok-count-in-Count.ensures)
