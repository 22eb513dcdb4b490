-- Applies in a transaction, by the choices of a call.
use Rattle.std.proofs.Common.{◌≡◌, ◌++◌, ◌∷◌, [], ◌+◌, ◌<◌, inl, inr, true≢false, is_ok, ℕ, List, length, map, take, get_or, Result, Ok, Err, IfOk, IfErr, string_bytes, refl, sym, ap, ◌∙◌}
use Rattle.std.proofs.lemmas.List.{length_push, map-append, take_more}
use Rattle.sqlite.specs.State as sqlite
use Rattle.cs_value.specs.State.{State}
use Rattle.cs_store.specs.Laws.{keeps_itself, keeps_then, rests_then, unchanged_itself, was_clean}
use Rattle.cs_apply.proofs.RevertLemmas.{applies_weaker, refuses_weaker}
use Rattle.cs_apply_conflict_kinds.specs.declared.conflict.Choice.{Choice}
use Rattle.cs_apply_conflict_kinds.specs.declared.conflict.Noop.{Noop}
use Rattle.cs_apply_engine.specs.declared.conflict.Conflict.{Conflict}
use Rattle.cs_apply_engine.specs.declared.fault.ApplyFault.{ApplyFault}
use Rattle.cs_apply_engine.specs.declared.report.Report.{Report}
use Rattle.cs_apply_engine.specs.declared.running.Direction.{Direction}
use Rattle.cs_apply_engine.specs.Running.{Applies, Handler, Refuses}
use Rattle.cs_calls_answers.specs.declared.answer.Answer.TheVariants as answer
use Rattle.cs_calls_answers.specs.declared.answer.Refused.{Refused}
use Rattle.cs_calls_answers.specs.Refusals.{out_of_memory}
use Rattle.cs_calls_answers.specs.declared.conflicts.MetConflict.{MetConflict}
use Rattle.cs_calls_conversions.specs.Conflicts.{met_by, reported_by}
use Rattle.cs_calls_executor.specs.Answered.{IsOpen, Reads}
use Rattle.cs_calls_executor.proofs.ReadLemmas.{from_ok, no_memory, okay, reads_on, reads_one, reads_then}

module _ (P Q : Handler) (so : (k : Conflict) (c : Choice) → P k c → Q k c) (noop : Noop) (file : List ℕ) (direction : Direction) (old : State) where
  pub applied_so : (result : Result Report ApplyFault) (new : State) → IfOk result (λ report. Applies P noop file direction old report new) → IfOk result (λ report. Applies Q noop file direction old report new)
  applied_so (Ok report) new applied = applies_weaker P Q so noop file direction old report new applied
  applied_so (Err fault) new applied = tt

  pub refused_so : (result : Result Report ApplyFault) → IfErr result (Refuses P noop file direction old) → IfErr result (Refuses Q noop file direction old)
  refused_so (Ok report) refused = tt
  refused_so (Err fault) refused = refuses_weaker P Q so noop file direction old fault refused

-- ---- conflicts, one after another

pub none_read : {X : Type 0} (x : X) (old : sqlite.State) → IsOpen old → Reads (λ tables. Ok x) old old (Ok x)
none_read x old is_open = reads_one (λ tables. Ok x) old old (Ok x) keeps_itself (λ clean. inl (unchanged_itself (is_open clean))) (λ clean. unchanged_itself (is_open clean)) (λ clean. inl refl)

-- each is shown by the tables
module _ {X Y : Type 0} (show : State → X → Y) (conflicts : List X) (old mid new : sqlite.State) (i : ℕ) (one : X) (items : List Y) (first : Reads (λ tables. Ok (map (show tables) (take i conflicts))) old mid (Ok items)) where
  module _ (next : Y) (second : Reads (λ tables. Ok (show tables one)) mid new (Ok next)) where
    pub more_read : (more : List Y) → i < length conflicts → one ≡ get_or conflicts i one → more ≡ items ++ next ∷ [] → Reads (λ tables. Ok (map (show tables) (take (i + 1) conflicts))) old new (Ok more)
    unfolding from_ok
    more_read more within here more_is =
        reads_then (λ tables. Ok (map (show tables) (take i conflicts))) (λ tables. Ok (map (show tables) (take (i + 1) conflicts))) (λ tables. Ok (items ++ show tables one ∷ [])) old mid new items (Ok more)
        (λ tables found. ap (λ (l : List Y). Ok l) (grown tables (sym (ap (λ (r : Result (List Y) Refused). from_ok items r) found)))) first
        (reads_on (λ tables. Ok (show tables one)) (λ tables. Ok (items ++ show tables one ∷ [])) mid new next (Ok more)
        (λ tables found. inl (ap (λ (l : List Y). Ok l) (more_is ∙ sym (ap (λ (r : Result Y Refused). items ++ from_ok next r ∷ []) found)))) second)
      where
        grown : (tables : State) → items ≡ map (show tables) (take i conflicts) → map (show tables) (take (i + 1) conflicts) ≡ items ++ show tables one ∷ []
        grown tables is = rw (take_more conflicts i one within, ← here) (map-append (show tables) (take i conflicts) (one ∷ []) ∙ ap (λ (l : List Y). l ++ show tables one ∷ []) (sym is))

    -- or there is no memory for it
    pub unkept_read : Reads {X = List Y} (λ tables. Ok (map (show tables) conflicts)) old new (Err out_of_memory)
    unkept_read = record {
      kept = keeps_then first.kept second.kept;
      rests = λ clean. rests_then (first.rests (was_clean mid new second.kept.crash clean)) (second.rests clean);
      given = λ clean. inr no_memory;
    }

  -- the next one is not read
  pub failed_read : (why : Refused) → Reads {X = Y} (λ tables. Ok (show tables one)) mid new (Err why) → Reads {X = List Y} (λ tables. Ok (map (show tables) conflicts)) old new (Err why)
  failed_read why second = record {
    kept = keeps_then first.kept second.kept;
    rests = λ clean. rests_then (first.rests (was_clean mid new second.kept.crash clean)) (second.rests clean);
    given = λ clean. elim (second.given clean) [ inl is ↦ absurd (true≢false (sym (ap is_ok is.0))) | inr resource ↦ inr resource ];
  }

-- their number
pub more_counted : {X Y : Type 0} (conflicts : List X) (i : ℕ) (one : X) (items more : List Y) (next : Y) → i < length conflicts → more ≡ items ++ next ∷ [] → length items ≡ length (take i conflicts) → length more ≡ length (take (i + 1) conflicts)
more_counted conflicts i one items more next within is counted =
    (ap length is ∙ length_push items next) ∙ ap (λ (n : ℕ). n + 1) counted ∙ sym (ap length (take_more conflicts i one within) ∙ length_push (take i conflicts) (get_or conflicts i one))

-- a report is made of its parts
pub reported_is : (tables : State) (report : Report) (written : ℕ) (skipped : List (List ℕ)) (conflicts : List MetConflict) → written ≡ length report.written.items → skipped ≡ map string_bytes report.skipped.items
    → okay (map (met_by tables) report.conflicts.items) ≡ Ok conflicts
    → answer.Report (record { written = written; ignored = report.ignored; skipped = skipped; conflicts = conflicts }) ≡ answer.Report (reported_by tables report)
unfolding from_ok
reported_is tables report written skipped conflicts written_is skipped_is found =
    ap (λ (w : ℕ). answer.Report (record { written = w; ignored = report.ignored; skipped = skipped; conflicts = conflicts })) written_is
    ∙ ap (λ (n : List (List ℕ)). answer.Report (record { written = length report.written.items; ignored = report.ignored; skipped = n; conflicts = conflicts })) skipped_is
    ∙ sym (ap (λ (r : Result (List MetConflict) Refused). answer.Report (record { written = length report.written.items; ignored = report.ignored; skipped = map string_bytes report.skipped.items; conflicts = from_ok conflicts r })) found)
