-- What applies, as commands of a script.
use Rattle.std.proofs.Common.{◌≡◌, inl, ℕ, false, List, Option, Some, None, IsTrue, sym, subst}
use Rattle.sqlite.specs.State as sqlite
use Rattle.sqlite.specs.State.{HasCleanDisk, Survives}
use Rattle.cs_value.specs.State.{State}
use Rattle.cs_value.specs.declared.refusal.OrNoMemory.TheVariants as tool
use Rattle.sqlite.specs.Effect.{IsDatabase}
use Rattle.cs_store.specs.Records.{KeepsContent, KeepsOthers}
use Rattle.cs_store.specs.Store.{IsAtRest, tables_in}
use Rattle.cs_apply_conflict_kinds.specs.declared.conflict.Choice.{Choice}
use Rattle.cs_apply_conflict_kinds.specs.declared.conflict.Noop.{Noop}
use Rattle.cs_apply_conflict_kinds.specs.declared.conflict.Noop.TheVariants as noop
use Rattle.cs_apply_engine.specs.declared.conflict.Conflict.{Conflict}
use Rattle.cs_apply_engine.specs.declared.fault.ApplyFault.{ApplyFault}
use Rattle.cs_apply_engine.specs.declared.report.Report.{Report}
use Rattle.cs_apply_engine.specs.declared.report.Summary.{Summary}
use Rattle.cs_apply_engine.specs.declared.running.Direction.{Direction}
use Rattle.cs_store.specs.Crash.{MayLeave}
use Rattle.cs_apply.specs.Crash.{AppliesInto}
use Rattle.cs_apply_engine.specs.Running as applies
use Rattle.cs_apply_engine.specs.Running.{Handler, AppliesCounted, Refuses, Summarizes}
use Rattle.cs_apply.proofs.RevertLemmas.{counts_weaker, refuses_weaker}
use Rattle.cs_session_notes.specs.declared.fault.SessionFault.{SessionFault}
use Rattle.cs_session_notes.specs.declared.fault.SessionFault.TheVariants as session
use Rattle.cs_session_notes.specs.Changes as sessions
use Rattle.cs_session_notes.specs.FirstImages.{Notes, rewound}
use Rattle.cs_session.specs.Recording.{RecordsApply, RefusesApply}
use Rattle.cs_session.proofs.RecordLemmas.{records_weaker, refuses_recorded_weaker}
use Rattle.cs_shell_replies.specs.ErrorLines.{of_apply, of_session}
use Rattle.cs_shell_replies.specs.Replies.{Reply, Reported, Refused}
use Rattle.cs_shell_replies.specs.Report.{told_of}
use Rattle.cs_shell_executor.specs.LineAnswers.{ApplyGives, not_applied}
use Rattle.cs_shell_executor.specs.ShellState.{SlotMap, ShellState}
use Rattle.cs_shell_executor.specs.Works.{Gave, Works, seen}
use Rattle.cs_shell_executor.proofs.TurnLemmas.{turns_done, turns_weaker, or_weaker, works_refused, unable_as, resource_of_apply, resource_of_session}
use Rattle.cs_shell_executor.proofs.SessionLemmas.{session_applies, store_applies, session_refuses_apply}

-- ---- commands that are weaker

-- whatever is replied, and whatever a script sees then
pub works_as : (Gives Asks : ShellState → Reply → ShellState → Type 0) (old new : sqlite.State) (before after : Option Notes) (reply : Reply)
    → ((t : State) (slots : SlotMap) (s : ShellState) → Gives (seen t slots before) reply s → Asks (seen t slots before) reply s)
    → Works old new before after Gives reply → Works old new before after Asks reply
works_as Gives Asks old new before after reply weaker works =
    turns_weaker (Gave before after Gives reply) (Gave before after Asks reply) old new
    (λ t u holds here. let h = holds here in (h.0, λ slots. or_weaker Asks Gives (seen t slots before) reply (seen u slots after) (weaker t slots (seen u slots after)) (h.1 slots))) works

-- ---- applies, by a handler that may choose no more than another

module _ (P Q : Handler) (weaker : (k : Conflict) (c : Choice) → P k c → Q k c) where
  -- a file, or its inverse, is applied, and noted
  pub works_recorded : (noop : Noop) (file : List ℕ) (direction : Direction) (old new : sqlite.State) (notes after : Notes) (report : Report) (summary : Summary) → Summarizes summary report → Survives old new (MayLeave (AppliesInto P noop file direction (tables_in old.now)))
      → (HasCleanDisk new → IsAtRest new) → (HasCleanDisk new → old.is_open ≡ false → ⊥) → (HasCleanDisk old → IsTrue old.is_open → IsDatabase old.now) → (HasCleanDisk new → KeepsOthers old.now new.now) → (HasCleanDisk new → RecordsApply P noop file direction (tables_in old.now) notes report (tables_in new.now) after)
      → (HasCleanDisk new → rewound after (tables_in new.now) ≡ rewound notes (tables_in old.now))
      → Works old new (Some notes) (Some after) (λ s. ApplyGives s Q noop file direction) (Reported (told_of summary))
  works_recorded noop file direction old new notes after report summary sums survives rests shut sound others done same =
      turns_done (Gave (Some notes) (Some after) (λ s. ApplyGives s Q noop file direction) (Reported (told_of summary))) old new survives rests shut sound others (λ clean rest.
      session_applies Q noop file direction (tables_in old.now) (tables_in new.now) notes after report summary sums (records_weaker P Q weaker noop file direction (tables_in old.now) (tables_in new.now) notes after report (done clean)) (same clean))

  -- it is refused
  pub works_unrecorded : (noop : Noop) (file : List ℕ) (direction : Direction) (old new : sqlite.State) (notes after : Notes) (e : SessionFault) → Survives old new (MayLeave (AppliesInto P noop file direction (tables_in old.now)))
      → (HasCleanDisk new → KeepsContent old new) → (HasCleanDisk new → old.is_open ≡ false → sessions.IsResource e) → (HasCleanDisk new → RefusesApply P noop file direction (tables_in old.now) notes e) → after ≡ notes
      → Works old new (Some notes) (Some after) (λ s. ApplyGives s Q noop file direction) (Refused (of_session e))
  works_unrecorded noop file direction old new notes after e survives kept shut why same =
      subst (λ (ns : Notes). Works old new (Some notes) (Some ns) (λ s. ApplyGives s Q noop file direction) (Refused (of_session e))) (sym same)
      (works_refused (λ s. ApplyGives s Q noop file direction) (Some notes) (Refused (of_session e)) old new survives kept
      (λ clean is state. unable_as (λ s. ApplyGives s Q noop file direction) state (of_session e) (resource_of_session e (shut clean is))) (λ clean here.
      session_refuses_apply Q noop file direction (tables_in old.now) notes e (refuses_recorded_weaker P Q weaker noop file direction (tables_in old.now) notes e (why clean)) here))

  -- where no session is open
  pub works_applied : (noop : Noop) (file : List ℕ) (direction : Direction) (old new : sqlite.State) (summary : Summary) → Survives old new (MayLeave (AppliesInto P noop file direction (tables_in old.now)))
      → (HasCleanDisk new → IsAtRest new) → (HasCleanDisk new → old.is_open ≡ false → ⊥) → (HasCleanDisk old → IsTrue old.is_open → IsDatabase old.now) → (HasCleanDisk new → KeepsOthers old.now new.now) → (HasCleanDisk new → AppliesCounted P noop file direction (tables_in old.now) summary (tables_in new.now))
      → Works old new None None (λ s. ApplyGives s Q noop file direction) (Reported (told_of summary))
  works_applied noop file direction old new summary survives rests shut sound others done =
      turns_done (Gave None None (λ s. ApplyGives s Q noop file direction) (Reported (told_of summary))) old new survives rests shut sound others (λ clean rest.
      store_applies Q noop file direction (tables_in old.now) (tables_in new.now) summary (counts_weaker P Q weaker noop file direction (tables_in old.now) summary (tables_in new.now) (done clean)))

  pub works_unapplied : (noop : Noop) (file : List ℕ) (direction : Direction) (old new : sqlite.State) (e : ApplyFault) → Survives old new (MayLeave (AppliesInto P noop file direction (tables_in old.now)))
      → (HasCleanDisk new → KeepsContent old new) → (HasCleanDisk new → old.is_open ≡ false → applies.IsResource e) → (HasCleanDisk new → Refuses P noop file direction (tables_in old.now) e)
      → Works old new None None (λ s. ApplyGives s Q noop file direction) (Refused (of_apply e))
  works_unapplied noop file direction old new e survives kept shut why =
      works_refused (λ s. ApplyGives s Q noop file direction) None (Refused (of_apply e)) old new survives kept
      (λ clean is state. unable_as (λ s. ApplyGives s Q noop file direction) state (of_apply e) (resource_of_apply e (shut clean is))) (λ clean here slots.
      inl (not_applied e (refuses_weaker P Q weaker noop file direction (tables_in old.now) e (why clean))))
