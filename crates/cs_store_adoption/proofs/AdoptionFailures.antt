-- Why a database is not adopted.
use Rattle.std.proofs.Common.{◌≡◌, ◌⊎◌, inl, inr, IsTrue, Result, IfErr, refl, sym, subst, ◌∙◌}
use Rattle.sqlite_trees.specs.declared.store.Store.{Ghosts}
use Rattle.sqlite.specs.Effect.{Database}
use Rattle.sqlite.specs.Held.{Held, state}
use Rattle.sqlite.specs.State.{State, HasCleanDisk}
use Rattle.cs_rows.specs.declared.fault.Cause.{Cause}
use Rattle.cs_rows.specs.declared.fault.StoreError.{StoreError}
use Rattle.cs_rows.specs.declared.fault.StoreError.TheVariants.{DamagedStore, NoMemory}
use Rattle.cs_rows.specs.Faults.{IsCaused}
use Rattle.cs_store_sql.specs.Records.{HoldsRecords, IsUnsupported, KeepsCrash, LacksRecords}
use Rattle.cs_store_sql.proofs.ContentLemmas.{crash_itself, crash_then}
use Rattle.cs_store_sql.proofs.ReadFailures.{read_to}
use Rattle.cs_store_tables.specs.Failing.{HasMade, IsInside, ReadFails, SetUpFails, VersionFails, by_making, by_read, by_version, unsupported}
use Rattle.cs_store_sql.specs.Failing.{CannotMake, CannotRead, IsFailure}
use Rattle.cs_store_sql.specs.declared.fault.RecordsError.{RecordsError}
use Rattle.cs_store_tables.specs.Refusals.{refusal_of}
use Rattle.cs_store_tables.specs.Laws.{read_then}
use Rattle.cs_store_tables.proofs.FailureLemmas.{caused, caused_so, so_caused}

-- a refusal for damage or memory has no cause
pub uncaused : (Fails : Cause → Type 0) (e : StoreError) → (e ≡ DamagedStore) ⊎ (e ≡ NoMemory) → IsCaused Fails e
uncaused Fails e (inl damaged) = subst (IsCaused Fails) (sym damaged) tt
uncaused Fails e (inr memory) = subst (IsCaused Fails) (sym memory) tt

-- ---- one call after another

-- what is inside a transaction since a database was shown is so since that was found
inside_from : (found mid was : State) (One Other : Database → Type 0) → KeepsCrash found mid → ((db : Database) → One db → Other db) → IsInside mid was One → IsInside found was Other
inside_from found mid was One Other keeps so it = record { inside = it.inside; shows = so was.now it.shows; crash = crash_then found mid was keeps it.crash }

-- a read that fails has failed after another call too
pub reads_to : (old mid new : State) (cause : Cause) → KeepsCrash mid new → ReadFails old mid cause → ReadFails old new cause
reads_to old mid new cause keeps (e, other, fails, is) = (e, other, read_to old mid new e keeps fails, is)

module _ {S : Type 0} (g : Ghosts S) (found mid last : Held S) where
  pub set_up_from : (state g mid).now ≡ (state g found).now → KeepsCrash (state g found) (state g mid) → HasCleanDisk (state g mid) → KeepsCrash (state g mid) (state g last)
      → (cause : Cause) → SetUpFails g mid last cause → SetUpFails g found last cause
  set_up_from same keeps clean later _ (by_read cause fails) = by_read cause (read_then (state g found) (state g mid) (state g last) cause keeps clean later fails)
  set_up_from same keeps clean later _ (unsupported is) = unsupported (subst (λ (db : Database). IsUnsupported db.schema) same is)
  set_up_from same keeps clean later _ (by_making was now cause lacks it ran fails after) =
      by_making was now cause (subst (λ (db : Database). LacksRecords db.schema) same lacks) (inside_from (state g found) (state g mid) (state g was) _ _ keeps (λ db is. is ∙ same) it) ran fails after
  set_up_from same keeps clean later _ (by_version was now cause it ran fails after) =
      by_version was now cause (inside_from (state g found) (state g mid) (state g was) _ _ keeps
      (λ db shown. (shown.0, subst (λ (d : Database). (db ≡ d) ⊎ HasMade d db) same shown.1)) it) ran fails after

  pub set_up_to : KeepsCrash (state g mid) (state g last) → (cause : Cause) → SetUpFails g found mid cause → SetUpFails g found last cause
  set_up_to later _ (by_read cause fails) = by_read cause (reads_to (state g found) (state g mid) (state g last) cause later fails)
  set_up_to later _ (unsupported is) = unsupported is
  set_up_to later _ (by_making was now cause lacks it ran fails after) = by_making was now cause lacks it ran fails (crash_then (state g now) (state g mid) (state g last) after later)
  set_up_to later _ (by_version was now cause it ran fails after) = by_version was now cause it ran fails (crash_then (state g now) (state g mid) (state g last) after later)

-- ---- the refusals of the steps

module _ {S : Type 0} (g : Ghosts S) (found last : Held S) where
  pub read_refused : (f : RecordsError) → IsFailure (CannotRead (state g found) (state g last)) f → IsCaused (SetUpFails g found last) (refusal_of f)
  read_refused f fails =
      so_caused (ReadFails (state g found) (state g last)) (SetUpFails g found last) (refusal_of f) (λ cause why. by_read cause why) (caused (CannotRead (state g found) (state g last)) f fails)

  pub making_refused : LacksRecords (state g found).now.schema → IsTrue (state g found).in_transaction → KeepsCrash (state g found) (state g last) → (f : RecordsError) → IsFailure (CannotMake (state g found) (state g last)) f
      → IsCaused (SetUpFails g found last) (refusal_of f)
  making_refused lacks inside ran f fails =
      so_caused _ (SetUpFails g found last) (refusal_of f) (λ cause why. by_making found last cause lacks (record { inside = inside; shows = refl; crash = crash_itself }) ran why crash_itself)
      (caused (CannotMake (state g found) (state g last)) f fails)

  pub version_refused : {X : Type 0} (was : Held S) (result : Result X StoreError)
      → IsInside (state g found) (state g was) (λ db. HoldsRecords db × ((db ≡ (state g found).now) ⊎ HasMade (state g found).now db))
      → KeepsCrash (state g was) (state g last) → IfErr result (IsCaused (VersionFails (state g was) (state g last))) → IfErr result (IsCaused (SetUpFails g found last))
  version_refused was result it ran = caused_so result (VersionFails (state g was) (state g last)) (SetUpFails g found last) (λ cause why. by_version was last cause it ran why crash_itself)
