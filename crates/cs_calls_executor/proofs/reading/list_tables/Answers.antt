-- `reading::list_tables`: there is no memory for the names, or they are not read.
use Rattle.std.proofs.Common.{Ok, Err, inr, refl}
use Rattle.std.specs.FinMap as map
use Rattle.std.proofs.lemmas.Result.{err_from_is_err_and}
use Rattle.sqlite.specs.Held.{state}
use Rattle.cs_calls_answers.specs.Refusals.{out_of_memory}
use Rattle.cs_calls_executor.proofs.ReadLemmas.{no_memory, reads_one, reads_unable}
use Rattle.cs_calls_executor.proofs.reading.list_tables.Goals as goal

pub returns-in_err-names_of-in-Ok : goal.returns-in_err-names_of-in-Ok
returns-in_err-names_of-in-Ok g c =
    let it = c.in-Ok.ensures in
    let p = err_from_is_err_and c.from_residual.result c.from_residual.ensures.1 in
    rw (p.1, p.2) (reads_one (λ tables. Ok (map.keys tables)) (state g.S.Store c.args.transaction.now) (state g.S.Store c.tables.new.self) (Err out_of_memory) it.kept it.rests (λ clean. it.reads clean refl) (λ clean. inr no_memory))

pub returns-in-Err : goal.returns-in-Err
returns-in-Err g c =
    let it = c.in-Err.ensures in
    reads_unable (λ tables. Ok (map.keys tables)) (state g.S.Store c.args.transaction.now) (state g.S.Store c.tables.new.self) c.in-Err.error c.store_refusal.result it.kept it.rests it.refused c.store_refusal.ensures
