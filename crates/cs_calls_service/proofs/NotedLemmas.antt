-- Calls on tables that are noted, in a transaction.
use Rattle.std.proofs.Common.{◌≡◌, ◌⊎◌, inl, inr, ℕ, List, [], map, Vec, Global, IsTrue, false, true, true≢false, Result, Ok, Err, IfOk, IfErr, IsErrAnd, sym, subst, refl, ap, ◌∙◌}
use Rattle.sqlite.specs.Effect.{Database}
use Rattle.sqlite.specs.State as sqlite
use Rattle.sqlite.specs.State.{HasCleanDisk, Savepoint, Shows}
use Rattle.cs_value.specs.State.{State, WrittenData}
use Rattle.cs_rows.specs.Editing.{written_of}
use Rattle.cs_store.specs.Laws.{was_clean}
use Rattle.cs_store.specs.Records.{IsUndone, KeepsCrash}
use Rattle.cs_store.specs.Store.{tables_in}
use Rattle.cs_store.specs.Within.{EndsCall, Within}
use Rattle.cs_store.proofs.WithinLemmas.{call_within, ended_within, same_within, unreleased_within}
use Rattle.cs_store_sql.specs.Marks.{IsMarked}
use Rattle.cs_session_notes.specs.FirstImages.{Notes, recorded}
use Rattle.cs_session_notes.specs.declared.fault.SessionFault.{SessionFault}
use Rattle.cs_session_notes.specs.declared.fault.SessionFault.TheVariants as fault
use Rattle.cs_session_notes.specs.Noting.{AreFormers, IsDamage}
use Rattle.cs_calls_answers.specs.declared.answer.Refused.{Refused}
use Rattle.cs_calls_answers.specs.Refusals.{out_of_memory, plain_refusal}
use Rattle.cs_calls_executor.specs.declared.calls.Carried.{Carried}
use Rattle.cs_calls_executor.specs.declared.calls.TableCall.{TableCall}
use Rattle.cs_calls_executor.specs.Answered.{IsResource, MayEnd, edited_as}
use Rattle.cs_calls_executor.specs.Calls.{AreAnswer, CarriesOut, IsCarried}
use Rattle.cs_session.specs.Merged.{MergedNotes}
use Rattle.cs_calls_executor.proofs.EditLemmas.{may_end}
use Rattle.cs_calls_executor.proofs.ReadLemmas.{no_memory}
use Rattle.cs_calls_service.specs.declared.carrying.Noted.{Noted}
use Rattle.cs_calls_service.specs.Noting.{CarriesNoted, IsMisfit, IsNotedRefusal, IsSent, Outcome, Works}
use Rattle.cs_calls_service.specs.Sessions.{of_session_fault}

-- why a session does not note writes, as a refusal
pub fault_is : (f : SessionFault) (why : Refused) (P : Type 0) → why ≡ of_session_fault f → (f ≡ fault.NoMemory) ⊎ (IsDamage f × P) → (why ≡ out_of_memory) ⊎ ((why ≡ plain_refusal 37) × P)
fault_is f why P is (inl memory) = inl (is ∙ ap of_session_fault memory)
fault_is f why P is (inr bad) = inr (is ∙ ap of_session_fault bad.0, bad.1)

-- why the writes of a call are not noted, as a refusal of it
pub unnoted : (call : TableCall) (tables : State) (notes : Notes) (carried : Carried) (made : State) (why : Refused) → IsCarried call tables carried made
    → (why ≡ out_of_memory) ⊎ ((why ≡ plain_refusal 37) × ¬ AreFormers notes (map written_of carried.written.items)) → IsNotedRefusal call tables notes why
unnoted call tables notes carried made why sent (inl memory) = inl (inr (inr (subst IsResource (sym memory) no_memory)))
unnoted call tables notes carried made why sent (inr bad) = inr (record { given = sent.given; made = edited_as made carried.written; answers = sent.answers; misfit = bad.1; is = bad.0 })

-- a transaction that has ended
pub ended_noted : (old : sqlite.State) (call : TableCall) (notes : Notes) → (HasCleanDisk old → old.in_transaction ≡ false → IsTrue old.is_open → old.now ≡ old.committed) → old.in_transaction ≡ false
    → CarriesNoted call notes notes old old (Err (plain_refusal 97))
ended_noted old call notes settled ended = record {
  within = same_within (plain_refusal 97) _ MayEnd old settled;
  refused = λ clean inside. absurd (true≢false (sym inside ∙ ended));
  ended = λ out. refl;
  same = refl;
  spelled = tt;
}

-- a session without tables notes nothing
module _ (call : TableCall) (notes : Notes) (none : notes ≡ []) (old new : sqlite.State) where
  pub unnoted_done : (carried : Carried) → CarriesOut call old new (Ok carried) → CarriesNoted call notes notes old new (Ok carried.bytes)
  unnoted_done carried one = record {
    within = record {
      kept = one.within.kept;
      made = λ clean. ((one.within.made clean).0, record { written = map written_of carried.written.items; sends = (one.within.made clean).1; noted = nothing });
      back = λ clean. tt;
      ended = λ clean. tt;
      goes_on = λ clean inside. tt;
    };
    refused = λ clean inside. tt;
    ended = one.ended;
    same = tt;
    spelled = one.spelled;
  }
    where
      nothing : notes ≡ recorded notes (map written_of carried.written.items)
      nothing = subst (λ (n : Notes). n ≡ recorded n (map written_of carried.written.items)) (sym none) refl

  pub unnoted_refused : (why : Refused) → CarriesOut call old new (Err why) → CarriesNoted call notes notes old new (Err why)
  unnoted_refused why one = record {
    within = record {
      kept = one.within.kept;
      made = λ clean. tt;
      back = one.within.back;
      ended = one.within.ended;
      goes_on = one.within.goes_on;
    };
    refused = λ clean inside. inl (one.refused clean inside);
    ended = one.ended;
    same = refl;
    spelled = tt;
  }

-- ---- after a mark

module _ (call : TableCall) (notes : Notes) (old : sqlite.State) (inside : IsTrue old.in_transaction) where
  is_inside : {X : Type 0} → old.in_transaction ≡ false → X
  is_inside out = absurd (true≢false (sym inside ∙ out))

  -- the mark is not set
  pub unmarked_noted : (new : sqlite.State) (why : Refused) → IsResource why → KeepsCrash old new → (HasCleanDisk new → IsUndone old new) → CarriesNoted call notes notes old new (Err why)
  unmarked_noted new why short crash undone = record {
    within = ended_within why _ MayEnd old new (λ clean. inl (may_end why short)) crash undone;
    refused = λ clean is. inl (inr (inr short));
    ended = is_inside;
    same = refl;
    spelled = tt;
  }

  module _ (marked mid new : sqlite.State)
      (is_marked : HasCleanDisk marked → IsTrue old.in_transaction × Shows old marked old.now old.committed true × IsMarked old.marks old.now marked)
      (starts : KeepsCrash old marked) (ends : KeepsCrash mid new) where
    -- it is not dropped
    unreleased : (why : Refused) (after : Notes) (result : Result Noted (Refused × Notes)) → IsResource why → after ≡ notes → Works call notes marked mid result → (HasCleanDisk new → IsUndone mid new) → CarriesNoted call notes after old new (Err why)
    unreleased why after result short same one undone = record {
      within = unreleased_within old marked mid is_marked starts one.kept new why _ MayEnd (may_end why short) ends undone;
      refused = λ clean is. inl (inr (inr short));
      ended = is_inside;
      same = same;
      spelled = tt;
    }

    pub unreleased_done : (why : Refused) (after : Notes) (noted : Noted) → IsResource why → after ≡ noted.session.kept → Works call notes marked mid (Ok noted) → (HasCleanDisk new → IsUndone mid new) → CarriesNoted call notes after old new (Err why)
    unreleased_done why after noted short forgot one undone = unreleased why after (Ok noted) short (forgot ∙ one.forgets) one undone

    pub unreleased_refused : (why : Refused) (e : Refused × Notes) → IsResource why → Works call notes marked mid (Err e) → (HasCleanDisk new → IsUndone mid new) → CarriesNoted call notes e.1 old new (Err why)
    unreleased_refused why e short one undone = unreleased why e.1 (Err e) short one.same one undone

    on : (result : Result Noted (Refused × Notes)) → Works call notes marked mid result → HasCleanDisk mid → IsTrue marked.in_transaction
    on result one clean = (is_marked (was_clean marked mid one.kept.crash clean)).1.mode

    -- the call ends as its work does
    pub marked_done : (noted : Noted) (after : Notes) → after ≡ noted.session.all → Works call notes marked mid (Ok noted)
        → ((before : List Savepoint) (db : Database) → (IsTrue mid.in_transaction → IsMarked before db mid) → HasCleanDisk new → EndsCall true before db mid new) → CarriesNoted call notes after old new (Ok noted.bytes)
    marked_done noted after kept one end = subst (λ (a : Notes). CarriesNoted call notes a old new (Ok noted.bytes)) (sym kept) (record {
      within = call_within old marked mid is_marked starts one.kept new (Ok noted.bytes) (λ before left. IsSent call before notes noted.bytes.items left noted.session.all) MayEnd ends one.made (λ clean. tt) end;
      refused = λ clean is. tt;
      ended = λ out. is_inside out;
      same = tt;
      spelled = one.spelled;
    })

    pub marked_refused : (e : Refused × Notes) → Works call notes marked mid (Err e)
        → ((before : List Savepoint) (db : Database) → (IsTrue mid.in_transaction → IsMarked before db mid) → HasCleanDisk new → EndsCall false before db mid new) → CarriesNoted call notes e.1 old new (Err e.0)
    marked_refused e one end = record {
      within =
          let failed : Outcome = Err e.0 in
          call_within old marked mid is_marked starts one.kept new failed (λ before left. Unit {0}) MayEnd ends (λ clean. tt) (λ clean. one.goes_on clean (on (Err e) one clean)) end;
      refused = λ clean is.
          let was = was_clean mid new ends clean in
          subst (λ (db : Database). IsNotedRefusal call (tables_in db) notes e.0) (is_marked (was_clean marked mid one.kept.crash was)).1.now_is (one.refused was (on (Err e) one was));
      ended = λ out. is_inside out;
      same = one.same;
      spelled = tt;
    }

-- ---- the work of a call

module _ (call : TableCall) (notes : Notes) (old new : sqlite.State) where
  -- it is refused
  pub refused_works : (why : Refused) → CarriesOut call old new (Err why) → Works call notes old new (Err (why, notes))
  refused_works why one = record {
    kept = one.within.kept;
    made = λ clean. tt;
    goes_on = one.within.goes_on;
    refused = λ clean inside. inl (one.refused clean inside);
    forgets = tt;
    same = refl;
    spelled = tt;
  }

  module _ (carried : Carried) (one : CarriesOut call old new (Ok carried)) where
    -- it is noted
    pub noted_works : (noted : Noted) → noted.bytes ≡ carried.bytes → noted.session ≡ record { kept = notes; all = recorded notes (map written_of carried.written.items) } → Works call notes old new (Ok noted)
    noted_works noted same_bytes is = record {
      kept = one.within.kept;
      made = λ clean. ((one.within.made clean).0.inside, sent clean);
      goes_on = λ clean inside. tt;
      refused = λ clean inside. tt;
      forgets = ap (λ (s : MergedNotes). s.kept) is;
      same = tt;
      spelled = subst AreAnswer (sym same_bytes) one.spelled;
    }
      where
        sent : HasCleanDisk new → IsSent call (tables_in old.now) notes noted.bytes.items (tables_in new.now) noted.session.all
        sent clean = rw (same_bytes, is) (record { written = map written_of carried.written.items; sends = (one.within.made clean).1; noted = refl })

    -- or not
    pub unnoted_works : (e : Refused × Notes) → (e.0 ≡ out_of_memory) ⊎ ((e.0 ≡ plain_refusal 37) × ¬ AreFormers notes (map written_of carried.written.items)) → e.1 ≡ notes → Works call notes old new (Err e)
    unnoted_works e why same = record {
      kept = one.within.kept;
      made = λ clean. tt;
      goes_on = λ clean inside. inr (one.within.made clean).0.inside;
      refused = λ clean inside. unnoted call (tables_in old.now) notes carried (tables_in new.now) e.0 (one.within.made clean).1 why;
      forgets = tt;
      same = same;
      spelled = tt;
    }

    pub note_works : (result : Result Noted (Refused × Notes)) → IfOk result (λ noted. noted.bytes ≡ carried.bytes) → IfOk result (λ noted. noted.session ≡ record { kept = notes; all = recorded notes (map written_of carried.written.items) })
        → IfErr result (λ e. (e.0 ≡ out_of_memory) ⊎ ((e.0 ≡ plain_refusal 37) × ¬ AreFormers notes (map written_of carried.written.items))) → IfErr result (λ e. e.1 ≡ notes) → Works call notes old new result
    note_works (Ok noted) same_bytes is refused same = noted_works noted same_bytes is
    note_works (Err e) same_bytes is refused same = unnoted_works e refused same
