-- Calls of the session of a host.
use Rattle.std.proofs.Common.{◌≡◌, ◌⊎◌, ◌<◌, ◌≤◌, inl, inr, ℕ, List, [], length, map, Vec, Global, IsTrue, false, Option, None, Some, All, Result, Ok, Err, IfOk, IfErr, arith, length-append, refl, sym, ap, subst, ◌∙◌}
use Rattle.std.proofs.lemmas.List.Elements.{All-from_recursion}
use Rattle.sqlite_trees.specs.declared.store.Store.{Ghosts}
use Rattle.sqlite_trees.specs.Tree.{Trees}
use Rattle.sqlite.specs.Held.{Held, state}
use Rattle.sqlite.specs.State as sqlite
use Rattle.sqlite.specs.State.{HasCleanDisk}
use Rattle.cs_value.specs.State.{State}
use Rattle.cs_value.specs.Spelling.{counted}
use Rattle.cs_value.specs.Varint.{varint}
use Rattle.cs_value.proofs.Digits.{length-varint_1}
use Rattle.cs_rows.specs.declared.fault.StoreError.{StoreError}
use Rattle.cs_rows.specs.declared.fault.StoreError.TheVariants as error
use Rattle.cs_rows.specs.Faults.{refused_for}
use Rattle.cs_wire.specs.Changeset.{file_bytes}
use Rattle.cs_store.specs.Crash.{IsAtomic, LeavesOnly}
use Rattle.cs_store.specs.Laws.{content_itself, keeps_itself, was_clean}
use Rattle.cs_store.specs.Records.{IsUndone, KeepsContent, KeepsCrash, KeepsOthers}
use Rattle.cs_store.specs.Store.{Begins, Ends, IsInside, KeepsStore, tables_in}
use Rattle.cs_store.proofs.CrashLemmas.{begun_tables, made_tables}
use Rattle.cs_store.proofs.TransactLemmas.{unbegun_transacts, dropped_transacts, uncommitted_transacts, committed_transacts}
use Rattle.cs_apply_engine.specs.declared.report.Report.{Report}
use Rattle.cs_session_notes.specs.declared.fault.SessionFault.{SessionFault}
use Rattle.cs_session_notes.specs.declared.fault.SessionFault.TheVariants as fault
use Rattle.cs_session_notes.specs.Changes.{HasTables, LacksTable, RefusesChanges}
use Rattle.cs_session_notes.specs.Changes as sessions
use Rattle.cs_session_notes.specs.Attaching.{Attaches, RefusesAttach}
use Rattle.cs_session_notes.specs.FirstImages.{Notes, recorded_changes}
use Rattle.cs_session.specs.Undoing.{Undoes, UndoesInto}
use Rattle.cs_calls_answers.specs.declared.conflicts.MetConflict.{MetConflict}
use Rattle.cs_calls_answers.specs.declared.answer.Answer.{Answer}
use Rattle.cs_calls_answers.specs.declared.answer.Answer.TheVariants as answer
use Rattle.cs_calls_answers.specs.declared.answer.Refused.{Refused}
use Rattle.cs_calls_answers.specs.Refusals.{out_of_memory, plain_refusal}
use Rattle.cs_calls_answers.specs.Spelling.{HasCounts, MetCounts, answer_bytes, met_bytes, number_of, parts_of, report_bytes}
use Rattle.cs_calls_parts.specs.Spelling.{list_bytes}
use Rattle.cs_calls_executor.specs.Answered.{IsResource}
use Rattle.cs_calls_executor.specs.Calls.{IsTooLong, IsUnsent, Spells}
use Rattle.cs_calls_executor.proofs.ReadLemmas.{no_memory}
use Rattle.cs_calls_service.specs.declared.sessions.SessionCall.{SessionCall}
use Rattle.cs_calls_service.specs.declared.sessions.SessionCall.TheVariants.{Attach, Changeset}
use Rattle.cs_calls_service.specs.Sessions.{Answers, CarriesSession, IsRefusal, Refuses, SendsUndo, UndoesAlone, of_attach_fault, of_session_fault, undone_answer}

-- a resource that a session refuses is one of calls
pub session_resource : (f : SessionFault) (why : Refused) → why ≡ of_session_fault f → sessions.IsResource f → IsResource why
session_resource f why is (inl memory) = subst IsResource (sym (is ∙ ap of_session_fault memory)) no_memory
session_resource (fault.Store e) why is (inr refused) = record { error = e; of = inr refused; is = is }
session_resource fault.AlreadyAttached why is (inr none) = absurd none
session_resource fault.WrongStore why is (inr none) = absurd none
session_resource fault.NoMemory why is (inr none) = absurd none
session_resource (fault.Apply f) why is (inr none) = absurd none

-- why the changes of a session are not read
pub changes_refused : (tables : State) (notes : Notes) (f : SessionFault) (why : Refused) → why ≡ of_session_fault f → RefusesChanges tables notes f → ((why ≡ plain_refusal 51) × LacksTable tables notes) ⊎ IsResource why
changes_refused tables notes f why is (inl lacks) = inl (is ∙ ap of_session_fault lacks.0, lacks.1)
changes_refused tables notes f why is (inr resource) = inr (session_resource f why is resource)

-- no parts have the byte of their count
none_length : {X : Type 0} (part_bytes : X → List ℕ) → length (list_bytes part_bytes []) ≡ 1
unfolding list_bytes
none_length part_bytes = omega (arith, length-append (varint 0) [], length-varint_1 0 (omega arith))

-- the answer of an undo is short
undone_short : (report : Report) → IsTooLong (undone_answer report) → ⊥
unfolding HasCounts parts_of report_bytes number_of
undone_short report (inl uncounted) = uncounted (record { skipped = omega arith; conflicts = omega arith; mets = All-from_recursion MetCounts [] tt })
undone_short report (inr long) =
    let skipped = list_bytes counted [] in
    let conflicts = list_bytes met_bytes [] in
    omega (arith, long, length-append skipped conflicts, none_length counted, none_length met_bytes)

pub undone_unsent : (report : Report) (why : Refused) → IsUnsent (undone_answer report) why → why ≡ out_of_memory
undone_unsent report why (inl long) = absurd (undone_short report long.1)
undone_unsent report why (inr memory) = memory

-- ---- an undo in a transaction of its own

module _ {S : Type 0} (g : Ghosts S) (settled : (s : S) (trees : Trees) → IsTrue (g.view s).is_open → g.recovers s trees → trees ≡ (g.view s).committed)
    (stays : (s : S) → IsTrue (g.view s).is_open → g.recovers s (g.view s).committed) (old new : Held S)
    (last : IsTrue (state g old).is_open → LeavesOnly (λ left. left ≡ tables_in (state g old).committed) (state g old)) (notes : Notes) where
  -- it does not begin
  pub unbegun_undo : (why : Refused) → IsResource why → KeepsCrash (state g old) (state g new) → (HasCleanDisk (state g new) → KeepsContent (state g old) (state g new)) → UndoesAlone notes (state g old) (state g new) (Err why)
  unbegun_undo why short crash kept = record {
    transacts = unbegun_transacts g settled stays old new last why (UndoesInto notes (tables_in (state g old).now)) crash kept;
    answered = λ clean. tt;
    refused = λ clean. inr short;
    spelled = tt;
  }

  module _ (begun mid : sqlite.State) (begins : HasCleanDisk begun → Begins (state g old) begun) (starts : KeepsCrash (state g old) begun) where
    -- it is refused in it, and it is rolled back
    pub refused_undo : (why : Refused) → KeepsStore begun mid → (HasCleanDisk mid → ((why ≡ plain_refusal 51) × LacksTable (tables_in begun.now) notes) ⊎ IsResource why) → KeepsCrash mid (state g new)
        → (HasCleanDisk (state g new) → IsUndone mid (state g new)) → UndoesAlone notes (state g old) (state g new) (Err why)
    refused_undo why kept refused drops undo = record {
      transacts = dropped_transacts g settled stays old new last begun mid begins starts kept why (UndoesInto notes (tables_in (state g old).now)) drops undo;
      answered = λ clean. tt;
      refused = λ clean.
          let was = was_clean mid (state g new) drops clean in
          subst (λ (tables : State). ((why ≡ plain_refusal 51) × LacksTable tables notes) ⊎ IsResource why) (begun_tables (state g old) begun mid begins kept was) (refused was);
      spelled = tt;
    }

    module _ (report : Report) (kept : KeepsStore begun mid) (undone : HasCleanDisk mid → Undoes notes (tables_in begun.now) report (tables_in mid.now))
        (atomic : IsAtomic IsInside (λ left. left ≡ tables_in mid.now) mid (state g new)) where
      -- it is not committed
      pub uncommitted_undo : (why : Refused) → IsResource why → (HasCleanDisk (state g new) → IsUndone mid (state g new)) → UndoesAlone notes (state g old) (state g new) (Err why)
      uncommitted_undo why short undo = record {
        transacts = uncommitted_transacts g settled stays old new last begun mid begins starts kept (UndoesInto notes) (λ clean. (undone clean).rewound) atomic.survives why undo;
        answered = λ clean. tt;
        refused = λ clean. inr short;
        spelled = tt;
      }

      -- it is committed
      pub committed_undo : (bytes : Vec ℕ Global) → Spells (undone_answer report) bytes → (HasCleanDisk (state g new) → Ends mid (state g new)) → (HasCleanDisk (state g new) → KeepsOthers mid.committed (state g new).now)
          → LeavesOnly (λ left. left ≡ tables_in mid.now) (state g new) → UndoesAlone notes (state g old) (state g new) (Ok bytes)
      committed_undo bytes spells ends others leaves = record {
        transacts = committed_transacts g settled stays old new last begun mid begins starts kept (UndoesInto notes) (λ clean. (undone clean).rewound) atomic.survives bytes ends others leaves;
        answered = λ clean. made_tables (state g old) begun mid (state g new) (λ before left. SendsUndo notes before bytes.items left) begins kept atomic.survives (λ was. record { report = report; undone = undone was; spells = spells.1 }) ends clean;
        refused = λ clean. tt;
        spelled = (undone_answer report, spells);
      }

-- ---- calls that make no transaction

module _ (call : SessionCall) (session : Option Notes) (old : sqlite.State) where
  -- there is no memory for the answer
  pub unsent_session : (why : Refused) → IsResource why → CarriesSession call session session old old (Err why)
  unsent_session why short = record {
    crash = keeps_itself.crash;
    content = λ clean out settled. content_itself;
    answered = λ clean. tt;
    refused = λ clean. inr (inr short);
    same = refl;
    spelled = tt;
  }

  -- it is refused whatever the tables are
  pub refused_session : (why : Refused) → ((tables : State) → Refuses call tables session why) → CarriesSession call session session old old (Err why)
  refused_session why refused = record {
    crash = keeps_itself.crash;
    content = λ clean out settled. content_itself;
    answered = λ clean. tt;
    refused = λ clean. inl (refused (tables_in old.now));
    same = refl;
    spelled = tt;
  }

  -- it is answered whatever the tables are
  pub answered_session : (after : Option Notes) (given : Answer) (bytes : Vec ℕ Global) → ((tables : State) → Answers call tables session given after) → Spells given bytes → CarriesSession call session after old old (Ok bytes)
  answered_session after given bytes answers spells = record {
    crash = keeps_itself.crash;
    content = λ clean out settled. content_itself;
    answered = λ clean. (given, answers (tables_in old.now), spells);
    refused = λ clean. tt;
    same = tt;
    spelled = (given, spells);
  }

  -- or the answer is not sent
  pub unspelled_session : (after : Option Notes) (given : Answer) (why : Refused) → ((tables : State) → Answers call tables session given after) → IsUnsent given why → CarriesSession call session session old old (Err why)
  unspelled_session after given why answers (inl long) = record {
    crash = keeps_itself.crash;
    content = λ clean out settled. content_itself;
    answered = λ clean. tt;
    refused = λ clean. inr (inl (inl (given, after, answers (tables_in old.now), long.1), long.0));
    same = refl;
    spelled = tt;
  }
  unspelled_session after given why answers (inr memory) = unsent_session why (subst IsResource (sym memory) no_memory)

  -- what is answered is sent, or not, and the session stays
  pub sent_session : (given : Answer) (result : Result (Vec ℕ Global) Refused) → ((tables : State) → Answers call tables session given session) → IfOk result (Spells given) → IfErr result (IsUnsent given) → CarriesSession call session session old old result
  sent_session given (Ok bytes) answers spells unsent = answered_session session given bytes answers spells
  sent_session given (Err why) answers spells unsent = unspelled_session session given why answers unsent

-- ---- a table is attached

module _ (table : List ℕ) (notes : Notes) (old new : sqlite.State) (kept : KeepsStore old new) where
  pub attached_session : (after : Notes) (bytes : Vec ℕ Global) → Spells answer.Done bytes → (HasCleanDisk new → Attaches (tables_in old.now) table notes after) → CarriesSession (Attach table) (Some notes) (Some after) old new (Ok bytes)
  attached_session after bytes spells attached = record {
    crash = kept.crash;
    content = kept.outside;
    answered = λ clean. (answer.Done, (refl, attached clean), spells);
    refused = λ clean. tt;
    same = tt;
    spelled = (answer.Done, spells);
  }

  attach_fault : (tables : State) (f : SessionFault) (why : Refused) → why ≡ of_attach_fault table f → RefusesAttach tables table notes f → IsRefusal (Attach table) tables (Some notes) why
  attach_fault tables fault.AlreadyAttached why is refused = inl (inl (is, refused))
  attach_fault tables (fault.Store e) why is (inl none) = inl (inr (is ∙ ap (λ (r : StoreError). of_attach_fault table (fault.Store r)) none.1, none.0, none.2))
  attach_fault tables (fault.Store e) why is (inr (refused_for cause)) = inr (inr (record { error = error.StoreFault cause; of = inr (refused_for cause); is = is }))
  attach_fault tables fault.NoMemory why is refused = inr (inr (subst IsResource (sym is) no_memory))
  attach_fault tables (fault.Apply f) why is refused = absurd refused
  attach_fault tables fault.WrongStore why is refused = absurd refused

  pub unattached_session : (after : Notes) (f : SessionFault) (why : Refused) → after ≡ notes → (why ≡ of_attach_fault table f) ⊎ (why ≡ out_of_memory) → (HasCleanDisk new → RefusesAttach (tables_in old.now) table notes f)
      → CarriesSession (Attach table) (Some notes) (Some after) old new (Err why)
  unattached_session after f why same is refused = record {
    crash = kept.crash;
    content = kept.outside;
    answered = λ clean. tt;
    refused = λ clean. elim is [ inl told ↦ attach_fault (tables_in old.now) f why told (refused clean) | inr memory ↦ inr (inr (subst IsResource (sym memory) no_memory)) ];
    same = ap (λ (n : Notes). Some n) same;
    spelled = tt;
  }

-- ---- the net changeset

module _ (notes : Notes) (old new : sqlite.State) (crash : KeepsCrash old new) (kept : HasCleanDisk new → KeepsContent old new) where
  pub unread_session : (f : SessionFault) (why : Refused) → why ≡ of_session_fault f → (HasCleanDisk new → RefusesChanges (tables_in old.now) notes f) → CarriesSession Changeset (Some notes) (Some notes) old new (Err why)
  unread_session f why is refused = record {
    crash = crash;
    content = λ clean out settled. kept clean;
    answered = λ clean. tt;
    refused = λ clean. elim (changes_refused (tables_in old.now) notes f why is (refused clean)) [ inl lacks ↦ inl lacks | inr resource ↦ inr (inr resource) ];
    same = refl;
    spelled = tt;
  }

  pub unwritten_session : (why : Refused) → IsResource why → CarriesSession Changeset (Some notes) (Some notes) old new (Err why)
  unwritten_session why short = record {
    crash = crash;
    content = λ clean out settled. kept clean;
    answered = λ clean. tt;
    refused = λ clean. inr (inr short);
    same = refl;
    spelled = tt;
  }

  module _ (file : List ℕ) (is_file : HasCleanDisk new → file ≡ file_bytes (recorded_changes notes (tables_in old.now))) where
    module _ (has : HasCleanDisk new → HasTables (tables_in old.now) notes) where
      answers : HasCleanDisk new → Answers Changeset (tables_in old.now) (Some notes) (answer.Changeset file) (Some notes)
      answers clean = (ap answer.Changeset (is_file clean), has clean, refl)

      pub changes_session : (result : Result (Vec ℕ Global) Refused) → IfOk result (Spells (answer.Changeset file)) → IfErr result (IsUnsent (answer.Changeset file)) → CarriesSession Changeset (Some notes) (Some notes) old new result
      changes_session (Ok bytes) spells unsent = record {
        crash = crash;
        content = λ clean out settled. kept clean;
        answered = λ clean. (answer.Changeset file, answers clean, spells);
        refused = λ clean. tt;
        same = tt;
        spelled = (answer.Changeset file, spells);
      }
      changes_session (Err why) spells (inl long) = record {
        crash = crash;
        content = λ clean out settled. kept clean;
        answered = λ clean. tt;
        refused = λ clean. inr (inl (inl (answer.Changeset file, Some notes, answers clean, long.1), long.0));
        same = refl;
        spelled = tt;
      }
      changes_session (Err why) spells (inr memory) = unwritten_session why (subst IsResource (sym memory) no_memory)
