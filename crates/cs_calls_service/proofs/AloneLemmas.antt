-- A call in a transaction of its own.
use Rattle.std.proofs.Common.{◌≡◌, ◌⊎◌, inl, inr, refl, sym, ◌∙◌, map, ℕ, Vec, Global, IsTrue, Ok, Err, subst}
use Rattle.sqlite_trees.specs.declared.store.Store.{Ghosts}
use Rattle.sqlite_trees.specs.Tree.{Trees}
use Rattle.sqlite.specs.Held.{Held, state}
use Rattle.sqlite.specs.State as sqlite
use Rattle.sqlite.specs.State.{HasCleanDisk}
use Rattle.cs_value.specs.State.{State}
use Rattle.cs_rows.specs.Editing.{written_of}
use Rattle.cs_store.specs.Crash.{IsAtomic, LeavesOnly}
use Rattle.cs_store.specs.Laws.{was_clean}
use Rattle.cs_store.specs.Records.{IsUndone, KeepsContent, KeepsCrash, KeepsOthers}
use Rattle.cs_store.specs.Store.{Begins, Ends, IsInside, tables_in}
use Rattle.cs_store.proofs.CrashLemmas.{begun_tables, made_tables}
use Rattle.cs_store.proofs.TransactLemmas.{unbegun_transacts, dropped_transacts, uncommitted_transacts, committed_transacts}
use Rattle.cs_session_notes.specs.FirstImages.{Notes, recorded}
use Rattle.cs_session_notes.specs.Noting.{AreFormers}
use Rattle.cs_calls_answers.specs.declared.answer.Refused.{Refused}
use Rattle.cs_calls_answers.specs.Refusals.{out_of_memory, plain_refusal}
use Rattle.cs_calls_executor.specs.declared.calls.Carried.{Carried}
use Rattle.cs_calls_executor.specs.declared.calls.TableCall.{TableCall}
use Rattle.cs_calls_executor.specs.Answered.{IsResource, edited_as}
use Rattle.cs_calls_executor.specs.Calls.{AreAnswer, CarriesOut, IsCarried, IsMade, IsRefusal}
use Rattle.cs_calls_service.specs.Noting.{CarriesAlone, IsNotedRefusal, IsSent}
use Rattle.cs_calls_service.proofs.NotedLemmas.{unnoted}

module _ {S : Type 0} (g : Ghosts S) (settled : (s : S) (trees : Trees) → IsTrue (g.view s).is_open → g.recovers s trees → trees ≡ (g.view s).committed)
    (stays : (s : S) → IsTrue (g.view s).is_open → g.recovers s (g.view s).committed) (old new : Held S)
    (last : IsTrue (state g old).is_open → LeavesOnly (λ left. left ≡ tables_in (state g old).committed) (state g old)) (call : TableCall) (notes : Notes) where
  -- it does not begin
  pub unbegun_alone : (why : Refused) → IsResource why → KeepsCrash (state g old) (state g new) → (HasCleanDisk (state g new) → KeepsContent (state g old) (state g new)) → CarriesAlone call notes notes (state g old) (state g new) (Err why)
  unbegun_alone why short crash kept = record {
    transacts = unbegun_transacts g settled stays old new last why (IsMade call (tables_in (state g old).now)) crash kept;
    answered = λ clean. tt;
    refused = λ clean. inl (inr (inr short));
    same = refl;
    spelled = tt;
  }

  module _ (begun mid : sqlite.State) (begins : HasCleanDisk begun → Begins (state g old) begun) (starts : KeepsCrash (state g old) begun) where
    -- the call is refused in it, and it is rolled back
    pub refused_alone : (why : Refused) → CarriesOut call begun mid (Err why) → KeepsCrash mid (state g new) → (HasCleanDisk (state g new) → IsUndone mid (state g new)) → CarriesAlone call notes notes (state g old) (state g new) (Err why)
    refused_alone why one drops undo = record {
      transacts = dropped_transacts g settled stays old new last begun mid begins starts one.within.kept why (IsMade call (tables_in (state g old).now)) drops undo;
      answered = λ clean. tt;
      refused = λ clean.
          let was = was_clean mid (state g new) drops clean in
          let began = begins (was_clean begun mid one.within.kept.crash was) in
          inl (subst (λ (tables : State). IsRefusal call tables why) (begun_tables (state g old) begun mid begins one.within.kept was) (one.refused was began.shown.mode));
      same = refl;
      spelled = tt;
    }

    module _ (carried : Carried) (one : CarriesOut call begun mid (Ok carried)) where
      sends : HasCleanDisk mid → IsCarried call (tables_in begun.now) carried (tables_in mid.now)
      sends clean = (one.within.made clean).1

      is_made : HasCleanDisk mid → IsMade call (tables_in begun.now) (tables_in mid.now)
      is_made clean = let it = sends clean in (it.given, edited_as (tables_in mid.now) carried.written, it.answers, refl)

      -- what it wrote is not noted, and it is rolled back
      pub misfit_alone : (why : Refused) (after : Notes) → after ≡ notes → (why ≡ out_of_memory) ⊎ ((why ≡ plain_refusal 37) × ¬ AreFormers notes (map written_of carried.written.items))
          → KeepsCrash mid (state g new) → (HasCleanDisk (state g new) → IsUndone mid (state g new)) → CarriesAlone call notes after (state g old) (state g new) (Err why)
      misfit_alone why after same fails drops undo = record {
        transacts = dropped_transacts g settled stays old new last begun mid begins starts one.within.kept why (IsMade call (tables_in (state g old).now)) drops undo;
        answered = λ clean. tt;
        refused = λ clean.
            let was = was_clean mid (state g new) drops clean in
            subst (λ (tables : State). IsNotedRefusal call tables notes why) (begun_tables (state g old) begun mid begins one.within.kept was) (unnoted call (tables_in begun.now) notes carried (tables_in mid.now) why (sends was) fails);
        same = same;
        spelled = tt;
      }

      module _ (atomic : IsAtomic IsInside (λ left. left ≡ tables_in mid.now) mid (state g new)) where
        -- it is not committed
        pub uncommitted_alone : (why : Refused) (after : Notes) → after ≡ notes → IsResource why → (HasCleanDisk (state g new) → IsUndone mid (state g new)) → CarriesAlone call notes after (state g old) (state g new) (Err why)
        uncommitted_alone why after same short undo = record {
          transacts = uncommitted_transacts g settled stays old new last begun mid begins starts one.within.kept (λ before. IsMade call before) is_made atomic.survives why undo;
          answered = λ clean. tt;
          refused = λ clean. inl (inr (inr short));
          same = same;
          spelled = tt;
        }

        -- it is committed
        pub committed_alone : (bytes : Vec ℕ Global) (after : Notes) → bytes ≡ carried.bytes → after ≡ recorded notes (map written_of carried.written.items) → (HasCleanDisk (state g new) → Ends mid (state g new))
            → (HasCleanDisk (state g new) → KeepsOthers mid.committed (state g new).now) → LeavesOnly (λ left. left ≡ tables_in mid.now) (state g new) → CarriesAlone call notes after (state g old) (state g new) (Ok bytes)
        committed_alone bytes after same_bytes noted ends others leaves = record {
          transacts = committed_transacts g settled stays old new last begun mid begins starts one.within.kept (λ before. IsMade call before) is_made atomic.survives bytes ends others leaves;
          answered = λ clean. made_tables (state g old) begun mid (state g new) (λ before left. IsSent call before notes bytes.items left after) begins one.within.kept atomic.survives sent ends clean;
          refused = λ clean. tt;
          same = tt;
          spelled = subst AreAnswer (sym same_bytes) one.spelled;
        }
          where
            sent : HasCleanDisk mid → IsSent call (tables_in begun.now) notes bytes.items (tables_in mid.now) after
            sent clean = rw (same_bytes, noted) (record { written = map written_of carried.written.items; sends = sends clean; noted = refl })
