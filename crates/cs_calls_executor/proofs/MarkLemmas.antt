-- An apply after a mark, to which a refusal goes back.
use Rattle.std.proofs.Common.{◌≡◌, inl, inr, ℕ, List, Vec, Global, IsTrue, false, true, true≢false, Result, Ok, Err, IfOk, IfErr, OnOk, is_ok, sym, subst, ◌∙◌}
use Rattle.sqlite.specs.Effect.{Database}
use Rattle.sqlite.specs.State as sqlite
use Rattle.sqlite.specs.State.{HasCleanDisk, Savepoint, Shows}
use Rattle.cs_value.specs.State.{State}
use Rattle.cs_store.specs.Laws.{was_clean}
use Rattle.cs_store.specs.Records.{IsUndone, KeepsCrash}
use Rattle.cs_store.specs.Store.{tables_in}
use Rattle.cs_store.specs.Within.{EndsCall}
use Rattle.cs_store.proofs.WithinLemmas.{call_within, ended_within, unreleased_within}
use Rattle.cs_store_sql.specs.Marks.{IsMarked}
use Rattle.cs_calls_answers.specs.declared.answer.Refused.{Refused}
use Rattle.cs_calls_executor.specs.declared.applying.ApplyCall.{ApplyCall}
use Rattle.cs_calls_executor.specs.declared.calls.TableCall.TheVariants.{Apply}
use Rattle.cs_calls_executor.specs.declared.calls.Carried.{Carried}
use Rattle.cs_calls_executor.specs.Answered.{IsResource, MayEnd}
use Rattle.cs_calls_executor.specs.Calls.{CarriesOut, IsCarried, IsRefusal, Works}
use Rattle.cs_calls_executor.proofs.EditLemmas.{may_end}

module _ (call : ApplyCall) (old : sqlite.State) (inside : IsTrue old.in_transaction) where
  is_inside : {X : Type 0} → old.in_transaction ≡ false → X
  is_inside out = absurd (true≢false (sym inside ∙ out))

  -- the mark is not set
  pub unmarked_apply : (new : sqlite.State) (why : Refused) → IsResource why → KeepsCrash old new → (HasCleanDisk new → IsUndone old new) → CarriesOut (Apply call) old new (Err why)
  unmarked_apply new why short crash undone = record {
    within = ended_within why _ MayEnd old new (λ clean. inl (may_end why short)) crash undone;
    refused = λ clean is. inr (inr short);
    ended = is_inside;
    spelled = tt;
  }

  module _ (marked mid new : sqlite.State)
      (is_marked : HasCleanDisk marked → IsTrue old.in_transaction × Shows old marked old.now old.committed true × IsMarked old.marks old.now marked)
      (starts : KeepsCrash old marked) (ends : KeepsCrash mid new) where
    -- what the work makes of the tables
    Made : (result : Result Carried Refused) → State → State → Type 0
    Made result before after = IfOk result (λ carried. IsCarried (Apply call) before carried after)

    -- it is not dropped
    pub unreleased_apply : (why : Refused) (result : Result Carried Refused) → IsResource why → Works call marked mid result → (HasCleanDisk new → IsUndone mid new) → CarriesOut (Apply call) old new (Err why)
    unreleased_apply why result short one undone = record {
      within = unreleased_within old marked mid is_marked starts one.kept new why _ MayEnd (may_end why short) ends undone;
      refused = λ clean is. inr (inr short);
      ended = is_inside;
      spelled = tt;
    }

    -- the call ends as its work does
    pub marked_apply : (result : Result Carried Refused) → Works call marked mid result
        → ((before : List Savepoint) (db : Database) → (IsTrue mid.in_transaction → IsMarked before db mid) → HasCleanDisk new → EndsCall (is_ok result) before db mid new) → CarriesOut (Apply call) old new result
    unfolding Made
    marked_apply result one end = record {
      within = call_within old marked mid is_marked starts one.kept new result (Made result) MayEnd ends (λ clean. both result (one.worked clean (on clean)).made) (λ clean. (one.worked clean (on clean)).goes_on) end;
      refused = λ clean is.
          let was = was_clean mid new ends clean in
          same (was_clean marked mid one.kept.crash was) result (one.worked was (on was)).refused;
      ended = λ out. is_inside out;
      spelled = one.spelled;
    }
      where
        on : HasCleanDisk mid → IsTrue marked.in_transaction
        on clean = (is_marked (was_clean marked mid one.kept.crash clean)).1.mode

        both : (r : Result Carried Refused) → IfOk r (λ carried. IsTrue mid.in_transaction × IsCarried (Apply call) (tables_in marked.now) carried (tables_in mid.now))
            → OnOk r (IsTrue mid.in_transaction × IfOk r (λ carried. IsCarried (Apply call) (tables_in marked.now) carried (tables_in mid.now)))
        both (Ok bytes) made = made
        both (Err why) made = tt

        same : HasCleanDisk marked → (r : Result Carried Refused) → IfErr r (IsRefusal (Apply call) (tables_in marked.now)) → IfErr r (IsRefusal (Apply call) (tables_in old.now))
        same clean (Ok bytes) refused = tt
        same clean (Err why) refused = subst (λ (db : Database). IsRefusal (Apply call) (tables_in db) why) (is_marked clean).1.now_is refused
