-- `transaction::Transaction::count`: the clause `reads` of a refusal.
use Rattle.std.proofs.Common.{true≢false, sym, ◌∙◌}
use Rattle.std.proofs.lemmas.Result.{err_from_is_err_and}
use Rattle.cs_rows.proofs.CauseLemmas.{not_own}
use Rattle.cs_store.proofs.transaction.Transaction.count.Goals as goal

pub returns-in_err-number-clause-reads : goal.returns-in_err-number-clause-reads
returns-in_err-number-clause-reads g c clean is =
    let p = err_from_is_err_and c.from_residual.result c.from_residual.ensures.1 in
    absurd (true≢false (sym (rw (p.1, p.2) at is) ∙ not_own _ c.in_err-number.ensures.named))
