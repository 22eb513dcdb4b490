-- A statement that writes a record, accepted or refused.
use Rattle.std.proofs.Common.{◌≡◌, ℕ, List, Option, Result, Ok, Err, IsErrAnd, arith}
use Rattle.std.specs.Result.{IsErr}
use Rattle.sqlite.specs.declared.error.Error.{Error}
use Rattle.sqlite.specs.State.{State, HasCleanDisk, Survives, Executes, CommitsBy}
use Rattle.cs_store_sql.specs.declared.fault.RecordsError.{RecordsError}
use Rattle.cs_store_sql.specs.Faults.{refusal_of}
use Rattle.cs_store_sql.specs.Failing.{Statement, WritesRecord, text_in, params_in}
use Rattle.cs_store_sql.specs.Records.{HoldsRecords, Sets}
use Rattle.cs_store_sql.proofs.FailureLemmas.{failure}
use Rattle.cs_store_sql.proofs.QueryLemmas.{not_ok, on_err}
use Rattle.cs_store_sql.proofs.StatementLemmas.{refusal_rests}
use Rattle.cs_store_sql.proofs.WriteFailures.{write_ends}
use Rattle.cs_store_sql.proofs.WriteLemmas as write

module _ (s : Statement) (old new : State) (tab key : List ℕ) (here : Option (List ℕ)) (survives : Survives old new (CommitsBy (text_in s) (params_in s) old)) where
  pub accepts : (count : ℕ) → (HasCleanDisk new → Executes (text_in s) (params_in s) old new (Ok count))
      → (HasCleanDisk new → HoldsRecords old.now → Executes (text_in s) (params_in s) old new (Ok count) → Sets old.now new.now tab key here) → WritesRecord old new s tab key here (Ok tt)
  accepts count runs sets = record {
    set = λ clean has. sets clean has (runs clean);
    ends = λ clean has. write_ends s old new count has.declares (runs clean);
    goes_on = λ clean has inside. write.goes_on s old new count has.declares inside (runs clean);
    marks = λ clean has. write.keeps_marks s old new count has.declares (runs clean);
    rests = λ clean. tt;
    failed = λ clean. tt;
    was_clean = λ clean. omega (arith, clean, survives.clean);
    survives = λ has inside. write.keeps_crash s old new (λ clean. (has clean).declares) inside survives;
  }

  pub refuses : (e : Error) (r : Result (Unit {0}) RecordsError) → IsErr r × IsErrAnd r (λ f. f ≡ refusal_of e) → (HasCleanDisk new → Executes (text_in s) (params_in s) old new (Err e))
      → WritesRecord old new s tab key here r
  refuses e r is runs = record {
    set = λ clean has. not_ok r _ is.0;
    ends = λ clean has. not_ok r _ is.0;
    goes_on = λ clean has inside. not_ok r _ is.0;
    marks = λ clean has. not_ok r _ is.0;
    rests = λ clean. on_err r _ (refusal_rests _ _ _ _ _ (runs clean));
    failed = λ clean. failure r _ e is.1 (λ other. runs clean);
    was_clean = λ clean. omega (arith, clean, survives.clean);
    survives = λ has inside. write.keeps_crash s old new (λ clean. (has clean).declares) inside survives;
  }
