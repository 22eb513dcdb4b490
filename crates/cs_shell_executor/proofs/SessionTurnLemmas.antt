-- What is done with the session of a script, as its commands.
use Rattle.std.proofs.Common.{◌≡◌, ◌⊎◌, inl, inr, ℕ, ◌≤◌, false, List, [], ◌∷◌, map, All, Any, Option, Some, None, IsTrue, codes, refl, sym, ap, subst, ◌∙◌, arith}
use Rattle.std.specs.List.{AllByRecursion}
use Rattle.std.specs.FinMap.{insert}
use Rattle.std.proofs.lemmas.List.Elements.{All-from_recursion, recursion_from_All}
use Rattle.sqlite_trees.specs.View.{doubt}
use Rattle.sqlite.specs.State as sqlite
use Rattle.sqlite.specs.State.{HasCleanDisk, Survives}
use Rattle.cs_value.specs.State.{State, IsState}
use Rattle.cs_wire.specs.Changeset.{GroupData, file_bytes}
use Rattle.cs_wire.specs.Laws.{ChangesetFiles}
use Rattle.sqlite.specs.Effect.{IsDatabase}
use Rattle.cs_store.specs.Records.{KeepsContent, KeepsCrash, KeepsOthers}
use Rattle.cs_store.specs.Store.{IsAtRest, KeepsStore, tables_in}
use Rattle.cs_apply_engine.specs.declared.report.Report.{Report}
use Rattle.cs_apply_engine.specs.declared.report.Summary.{Summary}
use Rattle.cs_apply_engine.specs.Running.{Summarizes}
use Rattle.cs_session_notes.specs.declared.fault.SessionFault.{SessionFault}
use Rattle.cs_session_notes.specs.declared.fault.SessionFault.TheVariants as session
use Rattle.cs_session_notes.specs.FirstImages.{FirstImage, AttachedTable, Notes, IsNotes, recorded_changes}
use Rattle.cs_session_notes.specs.Attaching.{Attaches, RefusesAttach}
use Rattle.cs_session_notes.specs.Changes.{IsResource, RefusesChanges}
use Rattle.cs_store.specs.Crash.{MayLeave}
use Rattle.cs_session.specs.Undoing.{Undoes, UndoesInto}
use Rattle.cs_shell_replies.specs.declared.refusal.Refusal.TheVariants as refusal
use Rattle.cs_shell_replies.specs.ErrorLines.{of_session}
use Rattle.cs_shell_replies.specs.Replies.{Reply, Silent, Text, Reported, Refused}
use Rattle.cs_shell_replies.specs.Report.{told_of}
use Rattle.cs_shell_executor.specs.LineAnswers.{WithSession, AttachGives, ChangesetGives, IsEmptyGives, UndoGives}
use Rattle.cs_shell_executor.specs.ShellState.{SlotMap, SessionTable, SessionTables, ShellState, net_of}
use Rattle.cs_shell_executor.specs.Works.{OrUnable, Gave, GaveOn, Works, WorksOn, IsHere, seen, seen_table}
use Rattle.cs_shell_executor.proofs.SeenLemmas.{seen_net}
use Rattle.cs_shell_executor.proofs.SessionLemmas.{lacks_no_table, session_attaches, session_is_attached, session_refuses_attach, session_undoes}
use Rattle.cs_shell_executor.proofs.TurnLemmas.{turns_done, turns_refused, turns_read, turns_still, works_refused, works_still, unable_as, no_memory, resource_of_session}

-- ---- where a session is open, and where none is

module _ (Gives : ShellState → SessionTables → Reply → ShellState → Type 0) where
  pub none_open : (tables : State) (slots : SlotMap) → WithSession (seen tables slots None) (Gives (seen tables slots None)) (Refused refusal.NoSession) (seen tables slots None)
  none_open tables slots = inl (refl, refl, refl)

  pub with_notes : (tables : State) (slots : SlotMap) (notes : Notes) (reply : Reply) (s : ShellState)
      → Gives (seen tables slots (Some notes)) (map (seen_table tables) notes) reply s
      → WithSession (seen tables slots (Some notes)) (Gives (seen tables slots (Some notes))) reply s
  with_notes tables slots notes reply s gives = inr (map (seen_table tables) notes, refl, gives)

  pub or_with_notes : (tables : State) (slots : SlotMap) (notes : Notes) (reply : Reply) (s : ShellState)
      → OrUnable (λ old. Gives old (map (seen_table tables) notes)) (seen tables slots (Some notes)) reply s
      → OrUnable (λ old. WithSession old (Gives old)) (seen tables slots (Some notes)) reply s
  or_with_notes tables slots notes reply s (inl gives) = inl (with_notes tables slots notes reply s gives)
  or_with_notes tables slots notes reply s (inr unable) = inr unable

  -- where none is open nothing is called
  pub works_none : (store : sqlite.State) → Works store store None None (λ old. WithSession old (Gives old)) (Refused refusal.NoSession)
  works_none store = works_still (λ old. WithSession old (Gives old)) None (Refused refusal.NoSession) store (λ t slots. inl (none_open t slots))

-- ---- attaching

clean_before : (old new : sqlite.State) → doubt old.is_clean ≤ doubt new.is_clean → HasCleanDisk new → HasCleanDisk old
clean_before old new less clean = omega (arith, less, clean)

pub works_attached : (name : List ℕ) (old new : sqlite.State) (notes after : Notes) → KeepsStore old new → (HasCleanDisk new → old.is_open ≡ false → ⊥)
    → (HasCleanDisk new → Attaches (tables_in old.now) name notes after)
    → Works old new (Some notes) (Some after) (λ s. WithSession s (AttachGives s name)) Silent
works_attached name old new notes after kept shut done =
    turns_read (Gave (Some notes) (Some after) (λ s. WithSession s (AttachGives s name)) Silent) old new kept (λ clean is t. absurd (shut clean is)) (λ clean rest here.
    let gives = session_attaches (tables_in old.now) name notes after (done clean) here in
    (gives.0, λ slots. inl (with_notes (λ s. AttachGives s name) (tables_in old.now) slots notes Silent _ (gives.1 slots))))

-- where a store is shut, what is refused is refused whatever the tables are
unattached_shut : (name : List ℕ) (notes : Notes) (e : SessionFault) → ((e ≡ session.AlreadyAttached) × Any (λ (t : AttachedTable). t.name ≡ name) notes) ⊎ IsResource e → (t : State)
    → Gave (Some notes) (Some notes) (λ s. WithSession s (AttachGives s name)) (Refused (of_session e)) t t
unattached_shut name notes e (inl why) t here = (
  here,
  λ slots.
      rw why.0 (or_with_notes (λ s. AttachGives s name) t slots notes (Refused (of_session session.AlreadyAttached)) _ (session_is_attached t name notes why.1 slots)),
)
unattached_shut name notes e (inr resource) t here = (here, λ slots. unable_as (λ s. WithSession s (AttachGives s name)) (seen t slots (Some notes)) (of_session e) (resource_of_session e resource))

pub works_unattached : (name : List ℕ) (old new : sqlite.State) (notes after : Notes) (e : SessionFault) → KeepsStore old new
    → (HasCleanDisk old → IsTrue old.is_open → IsState (tables_in old.now))
    → (HasCleanDisk new → old.is_open ≡ false → ((e ≡ session.AlreadyAttached) × Any (λ (t : AttachedTable). t.name ≡ name) notes) ⊎ IsResource e)
    → (HasCleanDisk new → RefusesAttach (tables_in old.now) name notes e) → after ≡ notes
    → Works old new (Some notes) (Some after) (λ s. WithSession s (AttachGives s name)) (Refused (of_session e))
works_unattached name old new notes after e kept law shut why same_notes =
    subst (λ (ns : Notes). Works old new (Some notes) (Some ns) (λ s. WithSession s (AttachGives s name)) (Refused (of_session e))) (sym same_notes)
    (turns_read (Gave (Some notes) (Some notes) (λ s. WithSession s (AttachGives s name)) (Refused (of_session e))) old new kept (λ clean is. unattached_shut name notes e (shut clean is)) (λ clean rest here. (
      here,
      λ slots. or_with_notes (λ s. AttachGives s name) (tables_in old.now) slots notes (Refused (of_session e)) _
          (session_refuses_attach (tables_in old.now) name notes e (law (clean_before old new kept.crash.clean clean) rest.is_open) (why clean) slots),
    )))

-- ---- the tables of a session that is here

refused_here : (Gives : ShellState → Reply → ShellState → Type 0) (tables : State) (slots : SlotMap) (notes : Notes) (e : SessionFault) → RefusesChanges tables notes e → IsHere tables (Some notes)
    → OrUnable Gives (seen tables slots (Some notes)) (Refused (of_session e)) (seen tables slots (Some notes))
refused_here Gives tables slots notes e (inl lacks) here = absurd (lacks_no_table tables notes here.has lacks.1)
refused_here Gives tables slots notes e (inr (inl is)) here = rw is (no_memory Gives (seen tables slots (Some notes)))
refused_here Gives tables slots notes e (inr (inr is)) here = unable_as Gives (seen tables slots (Some notes)) (of_session e) (resource_of_session e (inr is))

-- ---- the net changeset

-- a call that leaves what a store shows, as a command that may change slots
works_kept : (Gives : ShellState → Reply → ShellState → Type 0) (old new : sqlite.State) (slots filled : SlotMap) (session : Option Notes) (reply : Reply) → KeepsCrash old new
    → (HasCleanDisk new → KeepsContent old new)
    → (HasCleanDisk new → old.is_open ≡ false → (t : State) → OrUnable Gives (seen t slots session) reply (seen t filled session))
    → (HasCleanDisk new → IsHere (tables_in old.now) session → OrUnable Gives (seen (tables_in old.now) slots session) reply (seen (tables_in old.now) filled session))
    → WorksOn old new slots filled session session Gives reply
works_kept Gives old new slots filled session reply survives kept shut gives =
    turns_refused (GaveOn slots filled session session Gives reply) old new survives kept (λ clean is t here. (here, shut clean is t)) (λ clean here. (here, gives clean here))

module _ (slot : List ℕ) where
  abbrev Changes : ShellState → Reply → ShellState → Type 0
  Changes s = WithSession s (ChangesetGives s slot)

  pub works_no_changeset : (store : sqlite.State) (slots : SlotMap) → WorksOn store store slots slots None None Changes (Refused refusal.NoSession)
  works_no_changeset store slots = turns_still (GaveOn slots slots None None Changes (Refused refusal.NoSession)) store (λ t here. (here, inl (none_open (λ s. ChangesetGives s slot) t slots)))

  net_gives : (tables : State) (slots filled : SlotMap) (notes : Notes) (file : List ℕ) → IsNotes notes → file ≡ file_bytes (recorded_changes notes tables) → filled ≡ insert slots slot file
      → ChangesetGives (seen tables slots (Some notes)) slot (map (seen_table tables) notes) Silent (seen tables filled (Some notes))
  net_gives tables slots filled notes file are is into =
      let put : filled ≡ insert slots slot (file_bytes (net_of tables (map (seen_table tables) notes))) =
      into ∙ ap (insert slots slot) (is ∙ ap file_bytes (sym (seen_net tables notes are))) in
      (refl, λ i. record { tables = tables; slots = put i; session = Some (map (seen_table tables) notes) })

  pub works_changeset : (old new : sqlite.State) (slots filled : SlotMap) (notes : Notes) (changeset : List GroupData) (file : List ℕ) → KeepsCrash old new
      → (HasCleanDisk new → KeepsContent old new) → (HasCleanDisk new → old.is_open ≡ false → ⊥) → IsNotes notes → (HasCleanDisk new → changeset ≡ recorded_changes notes (tables_in old.now))
      → file ≡ file_bytes changeset → filled ≡ insert slots slot file → WorksOn old new slots filled (Some notes) (Some notes) Changes Silent
  works_changeset old new slots filled notes changeset file survives kept shut are made is into =
      works_kept Changes old new slots filled (Some notes) Silent survives kept (λ clean is t. absurd (shut clean is)) (λ clean here.
      inl (with_notes (λ s. ChangesetGives s slot) (tables_in old.now) slots notes Silent _
      (net_gives (tables_in old.now) slots filled notes file are (is ∙ ap file_bytes (made clean)) into)))

  -- it is refused
  pub works_lacking : (old new : sqlite.State) (slots : SlotMap) (notes : Notes) (e : SessionFault) → KeepsCrash old new
      → (HasCleanDisk new → KeepsContent old new) → (HasCleanDisk new → old.is_open ≡ false → IsResource e) → (HasCleanDisk new → RefusesChanges (tables_in old.now) notes e)
      → WorksOn old new slots slots (Some notes) (Some notes) Changes (Refused (of_session e))
  works_lacking old new slots notes e survives kept shut why =
      works_kept Changes old new slots slots (Some notes) (Refused (of_session e)) survives kept
      (λ clean is t. unable_as Changes (seen t slots (Some notes)) (of_session e) (resource_of_session e (shut clean is))) (λ clean here.
      refused_here Changes (tables_in old.now) slots notes e (why clean) here)

  pub works_no_memory : (old new : sqlite.State) (slots filled : SlotMap) (notes : Notes) → KeepsCrash old new
      → (HasCleanDisk new → KeepsContent old new) → filled ≡ slots → WorksOn old new slots filled (Some notes) (Some notes) Changes (Refused refusal.NoMemory)
  works_no_memory old new slots filled notes survives kept same =
      rw same (works_kept Changes old new slots slots (Some notes) (Refused refusal.NoMemory) survives kept (λ clean is t. no_memory Changes (seen t slots (Some notes)))
      (λ clean here. no_memory Changes (seen (tables_in old.now) slots (Some notes))))

-- ---- undoing

pub works_undone : (old new : sqlite.State) (notes : Notes) (report : Report) (summary : Summary) → Summarizes summary report → ChangesetFiles → IsNotes notes → Survives old new (MayLeave (UndoesInto notes (tables_in old.now)))
    → (HasCleanDisk old → IsTrue old.is_open → IsState (tables_in old.now)) → (HasCleanDisk new → IsAtRest new) → (HasCleanDisk new → old.is_open ≡ false → ⊥)
    → (HasCleanDisk old → IsTrue old.is_open → IsDatabase old.now) → (HasCleanDisk new → KeepsOthers old.now new.now) → (HasCleanDisk new → Undoes notes (tables_in old.now) report (tables_in new.now))
    → Works old new (Some notes) (Some notes) (λ s. WithSession s (UndoGives s)) (Reported (told_of summary))
works_undone old new notes report summary sums files are survives law rests shut sound others done =
    turns_done (Gave (Some notes) (Some notes) (λ s. WithSession s (UndoGives s)) (Reported (told_of summary))) old new survives rests shut sound others (λ clean rest here.
    let gives = session_undoes files (tables_in old.now) (tables_in new.now) notes report summary sums (law (clean_before old new survives.clean clean) rest.is_open) are (done clean) here in
    (gives.0, λ slots. inl (with_notes UndoGives (tables_in old.now) slots notes (Reported (told_of summary)) _ (gives.1 slots))))

pub works_not_undone : (old new : sqlite.State) (notes : Notes) (e : SessionFault) → Survives old new (MayLeave (UndoesInto notes (tables_in old.now)))
    → (HasCleanDisk new → KeepsContent old new) → (HasCleanDisk new → old.is_open ≡ false → IsResource e) → (HasCleanDisk new → RefusesChanges (tables_in old.now) notes e)
    → Works old new (Some notes) (Some notes) (λ s. WithSession s (UndoGives s)) (Refused (of_session e))
works_not_undone old new notes e survives kept shut why =
    works_refused (λ s. WithSession s (UndoGives s)) (Some notes) (Refused (of_session e)) old new survives kept
    (λ clean is state. unable_as (λ s. WithSession s (UndoGives s)) state (of_session e) (resource_of_session e (shut clean is))) (λ clean here slots.
    refused_here (λ s. WithSession s (UndoGives s)) (tables_in old.now) slots notes e (why clean) here)

-- ---- whether keys were written

no_keys : (firsts : List FirstImage) → firsts ≡ [] → map (λ (f : FirstImage). f.key) firsts ≡ []
no_keys firsts none = ap (map (λ (f : FirstImage). f.key)) none

no_firsts : (firsts : List FirstImage) → map (λ (f : FirstImage). f.key) firsts ≡ [] → firsts ≡ []
no_firsts [] none = refl
no_firsts (f ∷ firsts) none = absurd (cc)

none_touched : (tables : State) (notes : Notes) → AllByRecursion (λ (t : AttachedTable). t.firsts ≡ []) notes → AllByRecursion (λ (t : SessionTable). t.touched ≡ []) (map (seen_table tables) notes)
none_touched tables [] none = tt
none_touched tables (t ∷ notes) none = (no_keys t.firsts none.0, none_touched tables notes none.1)

none_noted : (tables : State) (notes : Notes) → AllByRecursion (λ (t : SessionTable). t.touched ≡ []) (map (seen_table tables) notes) → AllByRecursion (λ (t : AttachedTable). t.firsts ≡ []) notes
none_noted tables [] none = tt
none_noted tables (t ∷ notes) none = (no_firsts t.firsts none.0, none_noted tables notes none.1)

module _ (tables : State) (slots : SlotMap) (notes : Notes) where
  pub gives_empty : All (λ t. t.firsts ≡ []) notes
      → WithSession (seen tables slots (Some notes)) (IsEmptyGives (seen tables slots (Some notes))) (Text (codes "1")) (seen tables slots (Some notes))
  gives_empty none = with_notes IsEmptyGives tables slots notes (Text (codes "1")) (seen tables slots (Some notes))
      (refl, inl (All-from_recursion (λ (t : SessionTable). t.touched ≡ []) (map (seen_table tables) notes) (none_touched tables notes (recursion_from_All (λ (t : AttachedTable). t.firsts ≡ []) notes none)), refl))

  pub gives_written : (All (λ t. t.firsts ≡ []) notes → ⊥)
      → WithSession (seen tables slots (Some notes)) (IsEmptyGives (seen tables slots (Some notes))) (Text (codes "0")) (seen tables slots (Some notes))
  gives_written some = with_notes IsEmptyGives tables slots notes (Text (codes "0")) (seen tables slots (Some notes))
      (refl, inr (λ none. some (All-from_recursion (λ (t : AttachedTable). t.firsts ≡ []) notes (none_noted tables notes (recursion_from_All (λ (t : SessionTable). t.touched ≡ []) (map (seen_table tables) notes) none))), refl))
