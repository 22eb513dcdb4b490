-- `rehearsing::found_conflict`: there is no memory for the name of the table, or for the row.
use Rattle.std.proofs.Common.{Ok, Err, inr}
use Rattle.std.proofs.lemmas.Result.{err_from_is_err_and}
use Rattle.sqlite.specs.Held.{state}
use Rattle.cs_calls_answers.specs.Refusals.{out_of_memory}
use Rattle.cs_calls_conversions.specs.Conflicts.{conflict_key}
use Rattle.cs_calls_executor.specs.Applying.{found_by}
use Rattle.cs_calls_executor.proofs.ReadLemmas.{no_memory, reads_on}
use Rattle.cs_calls_executor.proofs.rehearsing.found_conflict.Goals as goal

pub returns-in_err-table : goal.returns-in_err-table
returns-in_err-table g c =
    let found = c.args.found.now in
    let p = err_from_is_err_and c.from_residual-in_err-table.result c.from_residual-in_err-table.ensures.1 in
    rw (p.1, p.2) (reads_on (λ tables. Ok (conflict_key tables found.conflict)) (λ tables. Ok (found_by tables found)) (state g.S.Store c.args.transaction.now) (state g.S.Store c.conflict_key.new.transaction) c.in_ok-key.key (Err out_of_memory) (λ tables found. inr no_memory) c.in_ok-key.ensures)

pub returns-in_err-current : goal.returns-in_err-current
returns-in_err-current g c =
    let found = c.args.found.now in
    let p = err_from_is_err_and c.from_residual-in_err-current.result c.from_residual-in_err-current.ensures.1 in
    rw (p.1, p.2) (reads_on (λ tables. Ok (conflict_key tables found.conflict)) (λ tables. Ok (found_by tables found)) (state g.S.Store c.args.transaction.now) (state g.S.Store c.conflict_key.new.transaction) c.in_ok-key.key (Err out_of_memory) (λ tables found. inr no_memory) c.in_ok-key.ensures)
