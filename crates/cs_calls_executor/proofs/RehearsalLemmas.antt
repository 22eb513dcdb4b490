-- Rehearsals, and applies with a choice for each conflict of them.
use Rattle.std.proofs.Common.{◌≡◌, inl, inr, ℕ, List, [], length, map, Vec, Global, IsTrue, Result, Ok, Err, IfOk, IfErr, refl, sym, ap, subst, ◌∙◌}
use Rattle.std.proofs.lemmas.List.{length-map}
use Rattle.sqlite.specs.Effect.{Database}
use Rattle.sqlite.specs.State as sqlite
use Rattle.sqlite.specs.State.{HasCleanDisk}
use Rattle.cs_value.specs.State.{State}
use Rattle.cs_rows.specs.declared.edit.Written.{Written}
use Rattle.cs_rows.specs.Editing.{written_of}
use Rattle.cs_store.specs.Laws.{keeps_then, was_clean}
use Rattle.cs_store.specs.Store.{KeepsStore, tables_in}
use Rattle.cs_store.specs.Within.{Within}
use Rattle.cs_apply.specs.Crash.{AppliesInto}
use Rattle.cs_apply_conflict_kinds.specs.declared.conflict.Choice.{Choice}
use Rattle.cs_apply_conflict_kinds.specs.declared.conflict.Noop.{Noop}
use Rattle.cs_apply_conflict_kinds.specs.Applying.{MetData}
use Rattle.cs_apply_engine.specs.declared.conflict.Conflict.{Conflict}
use Rattle.cs_apply_engine.specs.declared.fault.ApplyFault.{ApplyFault}
use Rattle.cs_apply_engine.specs.declared.report.Report.{Report}
use Rattle.cs_apply_engine.specs.declared.running.Direction.TheVariants.{Forward}
use Rattle.cs_apply_engine.specs.Report.{conflict_of}
use Rattle.cs_apply_engine.specs.Running as running
use Rattle.cs_apply_engine.specs.Running.{Handler}
use Rattle.cs_apply_engine.specs.Steps.{IsStoreRefusal}
use Rattle.cs_apply_rehearsal.specs.declared.found.Found.{Found}
use Rattle.cs_apply_rehearsal.specs.Choosing.{IsChoiceFor}
use Rattle.cs_apply_rehearsal.specs.Shown.{ShowsAgain}
use Rattle.cs_calls_answers.specs.declared.answer.Answer.TheVariants as answer
use Rattle.cs_calls_answers.specs.declared.answer.Refused.{Refused}
use Rattle.cs_calls_answers.specs.Refusals.{plain_refusal}
use Rattle.cs_calls_parts.specs.declared.conflicts.ChosenConflict.{ChosenConflict}
use Rattle.cs_calls_parts.specs.declared.conflicts.FoundConflict.{FoundConflict}
use Rattle.cs_calls_executor.specs.declared.applying.ApplyCall.{ApplyCall}
use Rattle.cs_calls_executor.specs.declared.applying.ApplyCall.TheVariants.{Chosen, Rehearse}
use Rattle.cs_calls_executor.specs.declared.calls.TableCall.TheVariants.{Apply}
use Rattle.cs_calls_executor.specs.declared.calls.Carried.{Carried}
use Rattle.cs_calls_executor.specs.Answered.{IsOpen, IsResource, Reads, edited_as}
use Rattle.cs_calls_executor.specs.Applying.{AppliesAs, AreRepeated, Finds, RefusesAs, chooses_for, found_by}
use Rattle.cs_calls_executor.specs.Calls.{Answers, Finishes, IsUnsent, Ran, Spells, Works}
use Rattle.cs_calls_executor.proofs.ApplyLemmas.{applied_so, refused_so}
use Rattle.cs_calls_executor.proofs.CallLemmas.{unsent}
use Rattle.cs_calls_executor.proofs.EditLemmas.{answered}
use Rattle.cs_calls_executor.proofs.ReadLemmas.{from_ok, okay}
use Rattle.cs_calls_executor.proofs.WorkLemmas.{fault_back, finished_works, short_read, stopped_work, within_ran}

-- ---- what a rehearsal leaves

-- the transaction is open, and its tables are the same
pub record IsQuiet (old new : sqlite.State) : Type 0 where
  pub kept : KeepsStore old new
  pub shows : HasCleanDisk new → IsTrue new.is_open × IsTrue new.in_transaction × (new.now ≡ old.now)

pub rehearsed_quiet : (old new : sqlite.State) → KeepsStore old new → (HasCleanDisk new → ShowsAgain old new) → IsQuiet old new
rehearsed_quiet old new kept shown = record { kept = kept; shows = λ clean. let it = (shown clean).0 in (it.is_open, it.mode, it.now_is) }

pub quiet_open : (old new : sqlite.State) → IsQuiet old new → IsOpen new
quiet_open old new quiet clean = (quiet.shows clean).0

-- and so after a read
read_quiet : {X : Type 0} (told : State → X) (old mid new : sqlite.State) (x : X) → IsQuiet old mid → Reads (λ tables. Ok (told tables)) mid new (Ok x) → IsQuiet old new
read_quiet told old mid new x quiet two = record {
  kept = keeps_then quiet.kept two.kept;
  shows = λ clean.
      let before = quiet.shows (was_clean mid new two.kept.crash clean) in
      let same = (answered (λ tables. Ok (told tables)) mid new x two clean).1.0 in
      (same.is_open, subst IsTrue (sym same.mode) before.1, same.now_is ∙ before.2);
}

-- ---- what is refused

-- the call stops for a resource
pub quiet_stopped : (call : ApplyCall) (old new : sqlite.State) (why : Refused) → IsQuiet old new → IsResource why → Works call old new (Err why)
quiet_stopped call old new why quiet short = record {
  kept = quiet.kept;
  worked = λ clean inside. stopped_work call (tables_in old.now) new why short;
  spelled = tt;
}

-- what was found is not read
pub unread_works : {X : Type 0} (call : ApplyCall) (old mid new : sqlite.State) (told : State → X) (why : Refused) → IsQuiet old mid → Reads {X = X} (λ tables. Ok (told tables)) mid new (Err why) → Works call old new (Err why)
unread_works call old mid new told why quiet two = record {
  kept = keeps_then quiet.kept two.kept;
  worked = λ clean inside. stopped_work call (tables_in old.now) new why (short_read mid new told why two clean);
  spelled = tt;
}

-- the file is not rehearsed
pub refused_works : {X : Type 0} (call : ApplyCall) (old mid new : sqlite.State) (e : ApplyFault) (result : Result Carried Refused) (Makes : State → Type 0) → Within {X = X} Makes IsStoreRefusal old mid (Err e)
    → (HasCleanDisk mid → RefusesAs call (tables_in old.now) e) → Finishes (Err e) mid new result → Works call old new result
refused_works call old mid new e result Makes one refused two =
    finished_works call old mid (Err e) new result one.kept (λ clean inside. record { made = tt; back = fault_back old mid e Makes one clean inside; refused = refused clean }) two

-- ---- what was found

-- a choice for a conflict is one for the same conflict
pub choice_moved : (listed : List MetData) (one other : Conflict) (r v : Choice) → IsChoiceFor listed (conflict_of one) r → one ≡ other → r ≡ v → IsChoiceFor listed (conflict_of other) v
choice_moved listed one other r v it same is = subst (λ (k : Conflict). IsChoiceFor listed (conflict_of k) v) same (subst (λ (c : Choice). IsChoiceFor listed (conflict_of one) c) is it)

-- there is a choice for each conflict
pub same_count : (choices : List ChosenConflict) (list : List Choice) (conflicts : List FoundConflict) (count : ℕ) → list ≡ map (λ c. c.choice) choices → conflicts ≡ map (λ c. c.conflict) choices → length conflicts ≡ count → length list ≡ count
same_count choices list conflicts count is repeated counted =
    ap length is ∙ length-map choices (λ (c : ChosenConflict). c.choice) ∙ sym (length-map choices (λ (c : ChosenConflict). c.conflict)) ∙ sym (ap length repeated) ∙ counted

module _ (file : List ℕ) (noop : Noop) (old mid new : sqlite.State) (found : List Found) (quiet : IsQuiet old mid) (finds : HasCleanDisk mid → Finds noop file (tables_in old.now) found)
    (list : List FoundConflict) (two : Reads (λ tables. Ok (map (found_by tables) found)) mid new (Ok list)) where
  pub found_quiet : IsQuiet old new
  found_quiet = read_quiet (λ tables. map (found_by tables) found) old mid new list quiet two

  was : HasCleanDisk new → HasCleanDisk mid
  was clean = was_clean mid new two.kept.crash clean

  listed : HasCleanDisk new → list ≡ map (found_by (tables_in old.now)) found
  unfolding from_ok
  listed clean =
      let read : okay (map (found_by (tables_in mid.now)) found) ≡ Ok list = (answered (λ tables. Ok (map (found_by tables) found)) mid new list two clean).0 in
      sym (ap (λ (r : Result (List FoundConflict) Refused). from_ok list r) read) ∙ ap (λ (db : Database). map (found_by (tables_in db)) found) (quiet.shows (was clean)).2

  -- it is answered
  answers : HasCleanDisk new → (written : Vec Written Global) → written.items ≡ [] → Answers (Apply (Rehearse file noop)) (tables_in old.now) (answer.Conflicts list) (edited_as (tables_in new.now) written)
  answers clean written none =
      (found, finds (was clean), ap (λ (l : List FoundConflict). answer.Conflicts l) (listed clean), ap (λ (db : Database). tables_in db) (found_quiet.shows clean).2, ap (map written_of) none)

  pub rehearsed_works : (bytes : Vec ℕ Global) (written : Vec Written Global) → written.items ≡ [] → Spells (answer.Conflicts list) bytes → Works (Rehearse file noop) old new (Ok (record { bytes = bytes; written = written }))
  rehearsed_works bytes written none sent = record {
    kept = found_quiet.kept;
    worked = λ clean inside. record {
      made = ((found_quiet.shows clean).1, record { given = answer.Conflicts list; answers = answers clean written none; fits = sent.0; sent = sent.1 });
      goes_on = tt;
      refused = tt;
    };
    spelled = (answer.Conflicts list, sent);
  }

  -- or the answer is not sent
  pub unsent_rehearsal : (why : Refused) → IsUnsent (answer.Conflicts list) why → Works (Rehearse file noop) old new (Err why)
  unsent_rehearsal why short = record {
    kept = found_quiet.kept;
    worked = λ clean inside. record {
      made = tt;
      goes_on = inr (found_quiet.shows clean).1;
      refused = unsent (Apply (Rehearse file noop)) (tables_in old.now) (record { state = tables_in new.now; written = [] }) (answer.Conflicts list) why
          (found, finds (was clean), ap (λ (l : List FoundConflict). answer.Conflicts l) (listed clean), ap (λ (db : Database). tables_in db) (found_quiet.shows clean).2, refl) short;
    };
    spelled = tt;
  }

  -- the choices are for other conflicts
  pub differs_works : (choices : List ChosenConflict) → ¬ (list ≡ map (λ c. c.conflict) choices) → Works (Chosen file noop choices) old new (Err (plain_refusal 99))
  differs_works choices differs = record {
    kept = found_quiet.kept;
    worked = λ clean inside. record {
      made = tt;
      goes_on = inr (found_quiet.shows clean).1;
      refused = inl (inr ((found, finds (was clean), λ same. differs (listed clean ∙ same)), refl));
    };
    spelled = tt;
  }

  -- they are for these
  module _ (choices : List ChosenConflict) (repeated : list ≡ map (λ c. c.conflict) choices) (done : sqlite.State) where
    repeats : HasCleanDisk new → Finds noop file (tables_in new.now) found × AreRepeated (tables_in new.now) found choices
    repeats clean =
        subst (λ (db : Database). Finds noop file (tables_in db) found × AreRepeated (tables_in db) found choices) (sym (found_quiet.shows clean).2) (finds (was clean), sym (listed clean) ∙ repeated)

    applies : HasCleanDisk new → (outcome : Result Report ApplyFault) → IfOk outcome (λ report. running.Applies (chooses_for found choices) noop file Forward (tables_in new.now) report (tables_in done.now))
        → IfOk outcome (λ report. AppliesAs (Chosen file noop choices) (tables_in new.now) report (tables_in done.now))
    applies clean (Ok report) applied = (found, (repeats clean).0, (repeats clean).1, applied)
    applies clean (Err e) applied = tt

    refuses : HasCleanDisk new → (outcome : Result Report ApplyFault) → IfErr outcome (running.Refuses (chooses_for found choices) noop file Forward (tables_in new.now))
        → IfErr outcome (RefusesAs (Chosen file noop choices) (tables_in new.now))
    refuses clean (Ok report) refused = tt
    refuses clean (Err e) refused = inr (found, (repeats clean).0, (repeats clean).1, refused)

    pub chosen_works : (P : Handler) (again : List ℕ) → again ≡ file → (outcome : Result Report ApplyFault) (Makes : State → Type 0) → Within Makes IsStoreRefusal new done outcome
        → (HasCleanDisk done → IfOk outcome (λ report. running.Applies P noop again Forward (tables_in new.now) report (tables_in done.now)))
        → (HasCleanDisk done → IfErr outcome (running.Refuses P noop again Forward (tables_in new.now)))
        → (last : sqlite.State) (result : Result Carried Refused) → Finishes outcome done last result → ((k : Conflict) (c : Choice) → P k c → chooses_for found choices k c) → Works (Chosen file noop choices) old last result
    chosen_works P again is outcome Makes one applied refused last result three so =
        finished_works (Chosen file noop choices) old done outcome last result (keeps_then found_quiet.kept one.kept) ran three
      where
        before : HasCleanDisk done → HasCleanDisk new
        before clean = was_clean new done one.kept.crash clean

        applied_here : HasCleanDisk done → IfOk outcome (λ report. running.Applies P noop file Forward (tables_in new.now) report (tables_in done.now))
        applied_here clean = subst (λ (f : List ℕ). IfOk outcome (λ report. running.Applies P noop f Forward (tables_in new.now) report (tables_in done.now))) is (applied clean)

        refused_here : HasCleanDisk done → IfErr outcome (running.Refuses P noop file Forward (tables_in new.now))
        refused_here clean = subst (λ (f : List ℕ). IfErr outcome (running.Refuses P noop f Forward (tables_in new.now))) is (refused clean)

        ran : HasCleanDisk done → IsTrue old.in_transaction → Ran (Chosen file noop choices) (tables_in old.now) done outcome
        ran clean inside =
            let shows = found_quiet.shows (before clean) in
            subst (λ (db : Database). Ran (Chosen file noop choices) (tables_in db) done outcome) shows.2
            (within_ran (Chosen file noop choices) new done outcome Makes one
            (λ still. applies (before still) outcome (applied_so P (chooses_for found choices) so noop file Forward (tables_in new.now) outcome (tables_in done.now) (applied_here still)))
            (λ still. refuses (before still) outcome (refused_so P (chooses_for found choices) so noop file Forward (tables_in new.now) outcome (refused_here still))) clean shows.1)
