-- What commands give, of what the functions that do them ensure.
use Rattle.std.proofs.Common.{◌≡◌, inl, inr, ℕ, Bool, List, Option, Some, None, refl, IsUtf8}
use Rattle.std.specs.FinMap.{get}
use Rattle.sqlite.specs.State.{State}
use Rattle.cs_value.specs.declared.value.OwnedValue.{OwnedValue}
use Rattle.cs_value.specs.State.{State as Tables}
use Rattle.cs_value.specs.declared.refusal.OrNoMemory.{OrNoMemory}
use Rattle.cs_value.specs.declared.refusal.OrNoMemory.TheVariants as tool
use Rattle.cs_store.specs.Editing.{inserted}
use Rattle.cs_apply_conflict_kinds.specs.declared.conflict.Choice.{Choice}
use Rattle.cs_apply_conflict_kinds.specs.declared.conflict.Noop.{Noop}
use Rattle.cs_apply_engine.specs.declared.running.Direction.TheVariants.{Forward}
use Rattle.cs_session_notes.specs.FirstImages.{Notes}
use Rattle.cs_shell_grammar.specs.declared.fault.SyntaxFault.{SyntaxFault}
use Rattle.cs_shell_grammar.specs.Commands.{CommandData, AssignmentData, Create, Insert, Update, Delete, Select, Apply, Revert, SessionOpen, SessionAttach, SessionChangeset, SessionIsEmpty, SessionUndo, SessionClose}
use Rattle.cs_shell_grammar.specs.Lines.{RefusesLine, Spelled}
use Rattle.cs_shell_replies.specs.declared.refusal.Refusal.TheVariants.{NoMemory, EmptySlot}
use Rattle.cs_shell_replies.specs.ErrorLines.{of_line}
use Rattle.cs_shell_replies.specs.Replies.{Reply, Refused}
use Rattle.cs_shell_executor.specs.LineAnswers.{SlotsGive, LineGives, malformed, answered, unanswered, CreateGives, EditGives, UpdateGives, DeleteGives, SelectGives, ApplyGives, ByKind, RevertGives, WithSession, OpenGives, AttachGives, ChangesetGives, IsEmptyGives, UndoGives, CloseGives}
use Rattle.cs_shell_executor.specs.LineAnswers.{CommandGives, created, inserts, updates, deletes, selects, on_slots, applies, reverts, opens, attaches, changes, tells_empty, undoes, closes}
use Rattle.cs_shell_executor.specs.ShellState.{SlotMap, ShellState}
use Rattle.cs_shell_executor.specs.Works.{OrUnable, Gave, GaveOn, Works, WorksOn, IsHere, seen}
use Rattle.cs_shell_executor.proofs.TurnLemmas.{turns_still, turns_weaker, or_weaker}

-- a command that leaves the slots
pub works_on : (Gives More : ShellState → Reply → ShellState → Type 0) (old new : State) (slots : SlotMap) (before after : Option Notes) (reply : Reply) → Works old new before after More reply
    → ((t : Tables) (next : ShellState) → More (seen t slots before) reply next → Gives (seen t slots before) reply next)
    → WorksOn old new slots slots before after Gives reply
works_on Gives More old new slots before after reply works weaker =
    turns_weaker (Gave before after More reply) (GaveOn slots slots before after Gives reply) old new (λ t u work here.
    let done = work here in (done.0, or_weaker Gives More (seen t slots before) reply (seen u slots after) (weaker t (seen u slots after)) (done.1 slots))) works

-- a command on only the slots
pub works_on_slots : (command : CommandData) (store : State) (slots filled : SlotMap) (session : Option Notes) (reply : Reply) → SlotsGive slots command reply filled
    → WorksOn store store slots filled session session (λ old. CommandGives old command) reply
works_on_slots command store slots filled session reply gives =
    turns_still (GaveOn slots filled session session (λ old. CommandGives old command) reply) store (λ t here. (here, inl (on_slots command reply filled gives)))

-- a command on only the session
pub works_beside : (Gives : ShellState → Reply → ShellState → Type 0) (store : State) (slots : SlotMap) (before after : Option Notes) (reply : Reply)
    → ((t : Tables) → IsHere t before → IsHere t after) → ((t : Tables) → OrUnable Gives (seen t slots before) reply (seen t slots after))
    → WorksOn store store slots slots before after Gives reply
works_beside Gives store slots before after reply stays gives = turns_still (GaveOn slots slots before after Gives reply) store (λ t here. (stays t here, gives t))

-- ---- statements

module _ (old new : State) (slots : SlotMap) (before after : Option Notes) (reply : Reply) where
  pub on_create : (name : List ℕ) (columns : List (List ℕ)) (refuses : List Bool) (keys : List (List ℕ)) → Works old new before after (λ s. CreateGives s name columns refuses keys) reply
      → WorksOn old new slots slots before after (λ s. CommandGives s (Create name columns refuses keys)) reply
  on_create name columns refuses keys works =
      works_on (λ s. CommandGives s (Create name columns refuses keys)) (λ s. CreateGives s name columns refuses keys) old new slots before after reply works (λ t next. created name columns refuses keys reply next)

  pub on_insert : (table : List ℕ) (values : List OwnedValue) → Works old new before after (λ s. EditGives s (inserted s.tables table values)) reply
      → WorksOn old new slots slots before after (λ s. CommandGives s (Insert table values)) reply
  on_insert table values works =
      works_on (λ s. CommandGives s (Insert table values)) (λ s. EditGives s (inserted s.tables table values)) old new slots before after reply works (λ t next. inserts table values reply next)

  pub on_update : (table : List ℕ) (sets conditions : List AssignmentData) → Works old new before after (λ s. UpdateGives s table sets conditions) reply
      → WorksOn old new slots slots before after (λ s. CommandGives s (Update table sets conditions)) reply
  on_update table sets conditions works =
      works_on (λ s. CommandGives s (Update table sets conditions)) (λ s. UpdateGives s table sets conditions) old new slots before after reply works (λ t next. updates table sets conditions reply next)

  pub on_delete : (table : List ℕ) (conditions : List AssignmentData) → Works old new before after (λ s. DeleteGives s table conditions) reply
      → WorksOn old new slots slots before after (λ s. CommandGives s (Delete table conditions)) reply
  on_delete table conditions works =
      works_on (λ s. CommandGives s (Delete table conditions)) (λ s. DeleteGives s table conditions) old new slots before after reply works (λ t next. deletes table conditions reply next)

  pub on_select : (table : List ℕ) → Works old new before after (λ s. SelectGives s table) reply → WorksOn old new slots slots before after (λ s. CommandGives s (Select table)) reply
  on_select table works =
      works_on (λ s. CommandGives s (Select table)) (λ s. SelectGives s table) old new slots before after reply works (λ t next. selects table reply next)

  -- ---- applies

  pub on_apply : (slot file : List ℕ) (on_data on_notfound on_conflict on_constraint : Choice) (noop : Noop) → get slots slot ≡ Some file
      → Works old new before after (λ s. ApplyGives s (ByKind on_data on_notfound on_conflict on_constraint) noop file Forward) reply
      → WorksOn old new slots slots before after (λ s. CommandGives s (Apply slot on_data on_notfound on_conflict on_constraint noop)) reply
  on_apply slot file on_data on_notfound on_conflict on_constraint noop is works =
      works_on (λ s. CommandGives s (Apply slot on_data on_notfound on_conflict on_constraint noop)) (λ s. ApplyGives s (ByKind on_data on_notfound on_conflict on_constraint) noop file Forward) old new slots before after reply works
      (λ t next gives. applies slot on_data on_notfound on_conflict on_constraint noop reply next (inr (file, is, gives)))

  pub on_revert : (slot file : List ℕ) → get slots slot ≡ Some file → Works old new before after (λ s. RevertGives s file) reply
      → WorksOn old new slots slots before after (λ s. CommandGives s (Revert slot)) reply
  on_revert slot file is works =
      works_on (λ s. CommandGives s (Revert slot)) (λ s. RevertGives s file) old new slots before after reply works (λ t next gives. reverts slot reply next (inr (file, is, gives)))

  -- ---- the session

  pub on_attach : (table : List ℕ) → Works old new before after (λ s. WithSession s (AttachGives s table)) reply
      → WorksOn old new slots slots before after (λ s. CommandGives s (SessionAttach table)) reply
  on_attach table works =
      works_on (λ s. CommandGives s (SessionAttach table)) (λ s. WithSession s (AttachGives s table)) old new slots before after reply works (λ t next. attaches table reply next)

  pub on_undo : Works old new before after (λ s. WithSession s (UndoGives s)) reply → WorksOn old new slots slots before after (λ s. CommandGives s SessionUndo) reply
  on_undo works = works_on (λ s. CommandGives s SessionUndo) (λ s. WithSession s (UndoGives s)) old new slots before after reply works (λ t next. undoes reply next)

  pub on_changeset : (filled : SlotMap) (slot : List ℕ) → WorksOn old new slots filled before after (λ s. WithSession s (ChangesetGives s slot)) reply
      → WorksOn old new slots filled before after (λ s. CommandGives s (SessionChangeset slot)) reply
  on_changeset filled slot works =
      turns_weaker (GaveOn slots filled before after (λ s. WithSession s (ChangesetGives s slot)) reply) (GaveOn slots filled before after (λ s. CommandGives s (SessionChangeset slot)) reply) old new
      (λ t u work here. let done = work here in (
        done.0,
        or_weaker (λ s. CommandGives s (SessionChangeset slot)) (λ s. WithSession s (ChangesetGives s slot)) (seen t slots before) reply (seen u filled after) (changes slot reply (seen u filled after)) done.1,
      )) works

module _ (store : State) (slots : SlotMap) (session : Option Notes) where
  pub on_apply_empty : (slot : List ℕ) (on_data on_notfound on_conflict on_constraint : Choice) (noop : Noop) → get slots slot ≡ None
      → WorksOn store store slots slots session session (λ s. CommandGives s (Apply slot on_data on_notfound on_conflict on_constraint noop)) (Refused EmptySlot)
  on_apply_empty slot on_data on_notfound on_conflict on_constraint noop none =
      works_beside (λ s. CommandGives s (Apply slot on_data on_notfound on_conflict on_constraint noop)) store slots session session (Refused EmptySlot) (λ t here. here)
      (λ t. inl (applies slot on_data on_notfound on_conflict on_constraint noop (Refused EmptySlot) _ (inl (none, refl, refl))))

  pub on_revert_empty : (slot : List ℕ) → get slots slot ≡ None → WorksOn store store slots slots session session (λ s. CommandGives s (Revert slot)) (Refused EmptySlot)
  on_revert_empty slot none =
      works_beside (λ s. CommandGives s (Revert slot)) store slots session session (Refused EmptySlot) (λ t here. here) (λ t. inl (reverts slot (Refused EmptySlot) _ (inl (none, refl, refl))))

  pub on_is_empty : (reply : Reply) → ((t : Tables) → OrUnable (λ s. WithSession s (IsEmptyGives s)) (seen t slots session) reply (seen t slots session))
      → WorksOn store store slots slots session session (λ s. CommandGives s SessionIsEmpty) reply
  on_is_empty reply gives =
      works_beside (λ s. CommandGives s SessionIsEmpty) store slots session session reply (λ t here. here)
      (λ t. or_weaker (λ s. CommandGives s SessionIsEmpty) (λ s. WithSession s (IsEmptyGives s)) (seen t slots session) reply (seen t slots session) (tells_empty reply _) (gives t))

  pub on_open : (after : Option Notes) (reply : Reply) → ((t : Tables) → IsHere t session → IsHere t after)
      → ((t : Tables) → OpenGives (seen t slots session) reply (seen t slots after))
      → WorksOn store store slots slots session after (λ s. CommandGives s SessionOpen) reply
  on_open after reply stays gives = works_beside (λ s. CommandGives s SessionOpen) store slots session after reply stays (λ t. inl (opens reply _ (gives t)))

  pub on_close : (after : Option Notes) (reply : Reply) → ((t : Tables) → IsHere t after)
      → ((t : Tables) → WithSession (seen t slots session) (CloseGives (seen t slots session)) reply (seen t slots after))
      → WorksOn store store slots slots session after (λ s. CommandGives s SessionClose) reply
  on_close after reply stays gives = works_beside (λ s. CommandGives s SessionClose) store slots session after reply (λ t here. stays t) (λ t. inl (closes reply _ (gives t)))

-- ---- lines

pub line_unread : (state : ShellState) (line : List ℕ) (fault : OrNoMemory SyntaxFault) → IsUtf8 line → RefusesLine line fault
    → OrUnable (λ old. LineGives old line) state (Refused (of_line fault)) state
line_unread state line (tool.Fault fault) text why = inl (malformed state line fault text why.0 why.1 why.2 why.3)
line_unread state line tool.NoMemory text why = inl (unanswered state line NoMemory (inl refl))

-- a command that is answered answers its line
pub line_answered : (old new : State) (slots filled : SlotMap) (before after : Option Notes) (line : List ℕ) (command : CommandData) (reply : Reply) → IsUtf8 line → Spelled line command
    → WorksOn old new slots filled before after (λ state. CommandGives state command) reply → WorksOn old new slots filled before after (λ state. LineGives state line) reply
line_answered old new slots filled before after line command reply text asks works =
    turns_weaker (GaveOn slots filled before after (λ state. CommandGives state command) reply) (GaveOn slots filled before after (λ state. LineGives state line) reply) old new
    (λ t u work here. let done = work here in (
      done.0,
      or_weaker (λ state. LineGives state line) (λ state. CommandGives state command) (seen t slots before) reply (seen u filled after)
          (λ gives. answered (seen t slots before) line command reply (seen u filled after) text asks gives) done.1,
    )) works
