-- `rehearsing::has_same_row`: both have a row.
use Rattle.cs_calls_executor.proofs.SameLemmas.{options_told, rows_told}
use Rattle.cs_calls_executor.proofs.rehearsing.has_same_row.Goals as goal

pub returns-in-Some-Some : goal.returns-in-Some-Some
returns-in-Some-Some c =
    let it = c.in-Some-Some in
    rw (it.is-0, it.is-1) (options_told it.one it.other c.eq.result (rows_told it.one it.other c.eq.result c.eq.ensures))
