-- With which errors a call on records fails.
use Rattle.std.proofs.Common.{◌≡◌, ◌≢◌, ℕ, ◌<◌, length, Result, Ok, Err, IfErr, IsErrAnd, sym, subst}
use Rattle.sqlite_value.specs.declared.value.Value.{Value}
use Rattle.sqlite_value.specs.Order.{Row, column}
use Rattle.sqlite.specs.declared.error.Error.{Error}
use Rattle.sqlite.specs.declared.error.Error.TheVariants as error
use Rattle.sqlite.specs.declared.error.ErrorCode.TheVariants as code
use Rattle.cs_store_sql.specs.declared.fault.RecordsError.{RecordsError}
use Rattle.cs_store_sql.specs.declared.fault.RecordsError.TheVariants.{NoMemory, Database}
use Rattle.cs_store_sql.specs.Faults.{refusal_of}
use Rattle.cs_store_sql.specs.Failing.{IsFailure}

-- the refusal for an error of the database is a failure with it
failure_is : (Fails : Error → Type 0) (e : Error) → (e ≢ error.SqliteFailure code.OutOfMemory → Fails e) → IsFailure Fails (refusal_of e)
failure_is Fails (error.SqliteFailure code.OutOfMemory) so = tt
failure_is Fails (error.SqliteFailure c) so = (λ same. absurd cc, so (λ same. absurd cc))
failure_is Fails e so = (λ same. absurd cc, so (λ same. absurd cc))

pub failure : {X : Type 0} (r : Result X RecordsError) (Fails : Error → Type 0) (e : Error) → IsErrAnd r (λ f. f ≡ refusal_of e) → (e ≢ error.SqliteFailure code.OutOfMemory → Fails e) → IfErr r (IsFailure Fails)
failure (Ok x) Fails e h so = tt
failure (Err f) Fails e h so = subst (IsFailure Fails) (sym h) (failure_is Fails e so)

-- a failure is one of another kind
so_fails : (One Other : Error → Type 0) (f : RecordsError) → IsFailure One f → ((e : Error) → e ≢ error.SqliteFailure code.OutOfMemory → One e → Other e) → IsFailure Other f
so_fails One Other NoMemory fails so = tt
so_fails One Other (Database e) fails so = (fails.0, so e fails.0 fails.1)

pub failure_so : {X : Type 0} (r : Result X RecordsError) (One Other : Error → Type 0) (f : RecordsError) → IsErrAnd r (λ g. g ≡ f) → IsFailure One f
    → ((e : Error) → e ≢ error.SqliteFailure code.OutOfMemory → One e → Other e) → IfErr r (IsFailure Other)
failure_so (Ok x) One Other f is fails so = tt
failure_so (Err g) One Other f is fails so = subst (IsFailure Other) (sym is) (so_fails One Other f fails so)

-- a value of the kind that is asked for is read, unless memory runs out
pub value_read : {X : Type 0} (r : Result X RecordsError) (Fails : Error → Type 0) (e : Error) (row shown : Row) (at : ℕ) (IsReadable : Value → Type 0) → IsErrAnd r (λ f. f ≡ refusal_of e)
    → row ≡ shown → at < length shown → IsReadable (column shown at)
    → (e ≢ error.SqliteFailure code.OutOfMemory → at < length row → ¬ IsReadable (column row at)) → IfErr r (IsFailure Fails)
value_read r Fails e row shown at IsReadable is same within readable kind =
    failure r Fails e is (λ other. absurd (kind other (subst (λ (s : Row). at < length s) (sym same) within) (subst (λ (s : Row). IsReadable (column s at)) (sym same) readable)))
