-- Calls on tables, by their reads and edits.
use Rattle.std.proofs.Common.{◌≡◌, ◌⊎◌, inl, inr, ℕ, List, [], map, Bool, true, not, Vec, Global, IsTrue, false, true≢false, Result, Ok, Err, IfOk, IfErr, refl, sym, ap, subst, arith, ◌∙◌}
use Rattle.sqlite.specs.Effect.{Database}
use Rattle.sqlite.specs.State as sqlite
use Rattle.sqlite.specs.State.{HasCleanDisk, IsUnchanged}
use Rattle.cs_value.specs.State.{State}
use Rattle.cs_rows.specs.declared.edit.Written.{Written}
use Rattle.cs_rows.specs.Editing.{Edited, written_of}
use Rattle.cs_rows.specs.declared.fault.StoreError.{StoreError}
use Rattle.cs_rows.specs.Faults as stores
use Rattle.cs_store.specs.Store.{tables_in}
use Rattle.cs_store.proofs.WithinLemmas.{same_within}
use Rattle.cs_calls_answers.specs.declared.answer.Answer.{Answer}
use Rattle.cs_calls_answers.specs.declared.answer.Answer.TheVariants.{Done}
use Rattle.cs_calls_answers.specs.declared.answer.Refused.{Refused}
use Rattle.cs_calls_answers.specs.Refusals.{plain_refusal, out_of_memory}
use Rattle.cs_calls_answers.specs.Spelling.{HasCounts, number_of, parts_of}
use Rattle.cs_calls_conversions.specs.Refusals.{of_error}
use Rattle.cs_calls_executor.specs.declared.calls.ReadCall.{ReadCall}
use Rattle.cs_calls_executor.specs.declared.calls.EditCall.{EditCall}
use Rattle.cs_calls_executor.specs.declared.calls.TableCall.{TableCall}
use Rattle.cs_calls_executor.specs.declared.calls.TableCall.TheVariants.{Read, Edit}
use Rattle.cs_calls_executor.specs.declared.calls.Carried.{Carried}
use Rattle.cs_calls_executor.specs.Answered.{IsAnswered, IsResource, Makes, MayEnd, Reads, edited_as}
use Rattle.cs_calls_executor.specs.Calls.{Answers, CarriesOut, EditsTo, IsRefusal, IsTooLong, IsUnsent, Spells, answered_as, read_answer}
use Rattle.cs_calls_executor.proofs.EditLemmas.{answered, may_end, rested_within, within_refused}
use Rattle.cs_calls_executor.proofs.ReadLemmas.{no_memory, reads_on, reads_refused}

-- ---- what is read is answered

pub read_made : {X : Type 0} (make : X → Answer) (first : State → Result X Refused) (old new : sqlite.State) (x : X) → Reads first old new (Ok x) → Reads (λ tables. answered_as make (first tables)) old new (Ok (make x))
read_made {X} make first old new x one = reads_on first (λ tables. answered_as make (first tables)) old new x (Ok (make x)) (λ tables found. inl (sym (ap (λ (r : Result X Refused). answered_as make r) found))) one

pub read_passed : {X : Type 0} (make : X → Answer) (first : State → Result X Refused) (old new : sqlite.State) (why : Refused) → Reads first old new (Err why) → Reads (λ tables. answered_as make (first tables)) old new (Err why)
read_passed {X} make first old new why one = reads_refused first (λ tables. answered_as make (first tables)) old new why (λ tables missing. ap (λ (r : Result X Refused). answered_as make r) missing) one

-- a refusal of the database, or for memory
pub resource : (error : StoreError) (why : Refused) → why ≡ of_error error → stores.IsResource error → IsResource why
resource error why is of = record { error = error; of = of; is = is }

-- a transaction that has not ended is open
pub still_inside : (s : sqlite.State) (ended : Bool) → ended ≡ not s.in_transaction → ended ≡ false → IsTrue s.in_transaction
still_inside s ended is none = at s.in_transaction (sym is ∙ none)
  where
    at : (b : Bool) → not b ≡ false → b ≡ true
    at true e = refl
    at false e = absurd (true≢false e)

-- ---- a call in a transaction

-- no answer is sent
pub unsent : (call : TableCall) (tables : State) (made : Edited) (given : Answer) (why : Refused) → Answers call tables given made → IsUnsent given why → IsRefusal call tables why
unsent call tables made given why answers (inl long) = inr (inl ((given, made, answers, long.1), long.0))
unsent call tables made given why answers (inr memory) = inr (inr (subst IsResource (sym memory) no_memory))

-- one that has ended
pub ended_carries : (old : sqlite.State) (call : TableCall) → (HasCleanDisk old → old.in_transaction ≡ false → IsTrue old.is_open → old.now ≡ old.committed) → old.in_transaction ≡ false → CarriesOut call old old (Err (plain_refusal 97))
ended_carries old call settled ended = record {
  within = same_within (plain_refusal 97) _ MayEnd old settled;
  refused = λ clean inside. absurd (true≢false (sym inside ∙ ended));
  ended = λ out. refl;
  spelled = tt;
}

-- one that is open
module _ (old new : sqlite.State) (settled : HasCleanDisk old → old.in_transaction ≡ false → IsTrue old.is_open → old.now ≡ old.committed) (inside : IsTrue old.in_transaction) where
  is_open : {X : Type 0} → old.in_transaction ≡ false → X
  is_open out = absurd (true≢false (sym inside ∙ out))

  -- a read is refused
  pub read_refused_carries : (call : ReadCall) (why : Refused) → Reads (λ tables. read_answer call tables) old new (Err why) → CarriesOut (Read call) old new (Err why)
  read_refused_carries call why one = record {
    within = rested_within why _ old new one.kept one.rests settled (λ clean. changed (one.given clean));
    refused = λ clean is. passed (one.given clean);
    ended = is_open;
    spelled = tt;
  }
    where
      changed : IsAnswered (read_answer call (tables_in old.now)) old new (Err why) → IsUnchanged old new ⊎ MayEnd why
      changed (inl given) = inl given.1
      changed (inr refused) = inr (may_end why refused)

      passed : IsAnswered (read_answer call (tables_in old.now)) old new (Err why) → IsRefusal (Read call) (tables_in old.now) why
      passed (inl given) = inl (sym given.0)
      passed (inr refused) = inr (inr refused)

  module _ (call : ReadCall) (given : Answer) (one : Reads (λ tables. read_answer call tables) old new (Ok given)) where
    is_given : HasCleanDisk new → (read_answer call (tables_in old.now) ≡ Ok given) × IsUnchanged old new
    is_given clean = answered (λ tables. read_answer call tables) old new given one clean

    -- its answer is not sent
    pub unsent_carries : (why : Refused) → IsUnsent given why → CarriesOut (Read call) old new (Err why)
    unsent_carries why short = record {
      within = rested_within why _ old new one.kept one.rests settled (λ clean. inl (is_given clean).1);
      refused = λ clean is. unsent (Read call) (tables_in old.now) (record { state = tables_in old.now; written = [] }) given why ((is_given clean).0, refl, refl) short;
      ended = is_open;
      spelled = tt;
    }

    -- it is sent
    pub sent_carries : (bytes : Vec ℕ Global) (written : Vec Written Global) → written.items ≡ [] → Spells given bytes → CarriesOut (Read call) old new (Ok (record { bytes = bytes; written = written }))
    sent_carries bytes written none sent = record {
      within = record {
        kept = one.kept;
        made = λ clean.
            let it = is_given clean in (
              record { is_open = it.1.0.is_open; inside = subst IsTrue (sym it.1.0.mode) inside },
              record { given = given; answers = (it.0, ap (λ (db : Database). tables_in db) it.1.0.now_is, ap (map written_of) none); fits = sent.0; sent = sent.1 },
            );
        back = λ clean. tt;
        ended = λ clean. tt;
        goes_on = λ clean is. tt;
      };
      refused = λ clean is. tt;
      ended = is_open;
      spelled = (given, sent);
    }

  -- an edit is refused
  pub edit_refused_carries : (call : EditCall) (why : Refused) → Makes (λ tables outcome. EditsTo call tables outcome) old new (Err why) → CarriesOut (Edit call) old new (Err why)
  edit_refused_carries call why one = record {
    within = within_refused {X = Vec Written Global} (λ made. Unit {0}) _ MayEnd old new why why (λ may. may) one.within;
    refused = λ clean is. passed (one.refused clean);
    ended = is_open;
    spelled = tt;
  }
    where
      passed : EditsTo call (tables_in old.now) (Err why) ⊎ IsResource why → IsRefusal (Edit call) (tables_in old.now) why
      passed (inl it) = inl it
      passed (inr resource) = inr (inr resource)

  -- it is done
  pub edit_made_carries : (call : EditCall) (written : Vec Written Global) (bytes : Vec ℕ Global) → Spells Done bytes → Makes (λ tables outcome. EditsTo call tables outcome) old new (Ok written)
      → CarriesOut (Edit call) old new (Ok (record { bytes = bytes; written = written }))
  edit_made_carries call written bytes sent one = record {
    within = record {
      kept = one.within.kept;
      made = λ clean. ((one.within.made clean).0, record { given = Done; answers = (refl, (one.within.made clean).1); fits = sent.0; sent = sent.1 });
      back = λ clean. tt;
      ended = λ clean. tt;
      goes_on = λ clean inside. tt;
    };
    refused = λ clean is. tt;
    ended = is_open;
    spelled = (Done, sent);
  }

-- *done* is one byte
done_short : IsTooLong Done → ⊥
unfolding HasCounts parts_of number_of
done_short (inl uncounted) = uncounted tt
done_short (inr long) = omega (arith, long)

-- there is no memory for the answer of an edit
pub unstarted_carries : (old : sqlite.State) (call : TableCall) (why : Refused) → (HasCleanDisk old → old.in_transaction ≡ false → IsTrue old.is_open → old.now ≡ old.committed) → IsTrue old.in_transaction → IsUnsent Done why → CarriesOut call old old (Err why)
unstarted_carries old call why settled inside short = record {
  within = same_within why _ MayEnd old settled;
  refused = λ clean is. inr (inr (elim short [ inl long ↦ absurd (done_short long.1) | inr memory ↦ subst IsResource (sym memory) no_memory ]));
  ended = λ out. absurd (true≢false (sym inside ∙ out));
  spelled = tt;
}

-- the answer *done* is not sent for memory only
pub done_unsent : (result : Result (Vec ℕ Global) Refused) → IfErr result (IsUnsent Done) → IfErr result (λ why. why ≡ out_of_memory)
done_unsent (Ok bytes) short = tt
done_unsent (Err why) (inl long) = absurd (done_short long.1)
done_unsent (Err why) (inr memory) = memory
